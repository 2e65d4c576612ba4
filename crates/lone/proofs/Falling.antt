-- The weight falls with every step that takes no point, and such a step cuts nothing off; so the rings of a forest end or never do.
use mathlib.Core.Path.{◌≡◌, refl, ap}
use mathlib.Core.Logic.{◌⊎◌}
use mathlib.Core.List.{List, [], ◌∷◌, map}
use mathlib.Core.Option.{Option, none, some}
use mathlib.Core.Bool.{Bool, true, false, cond, ◌||◌, true≢false}
use Prim.Native.Nat.{ℕ, zero, suc, ◌+◌, ◌≤◌, ◌<◌}
use native.Mathlib.Omega.{arith}
use lib.ListN.{length, length-map}
use Rattle.rings.specs.Circle.{back, cut_circle, cut_start, ahead, omap}
use Rattle.rings.specs.Place.{is_here}
use Rattle.rings.specs.Progress.{Due, validity, removal, triangle, split, done, Discard, at_validity, while_removing, at_split, Ring, tidy_at, tidy}
use Rattle.rings.proofs.Circles.{length_turn, length_spin, length_init_of}
use Rattle.lone.specs.Act.{Act, discard, drop_point, move_on, to_first, cut, apply, offcut, takes_points}
use Rattle.lone.specs.Lone.{Geo, is_done, is_zero, decide, act_of, step_ring, offcut_ring, takes_ring}
use Rattle.lone.specs.Forest.{Fed, opening, enter, Every}
use Rattle.lone.specs.Order.{machine, ForestFits, ForestNeverEnds}
use Rattle.lone.specs.Kept.{HasStart}
use Rattle.lone.specs.Measure.{walk_left, weigh, weight}
use Rattle.lone.specs.Rounds.{rounds}
use Rattle.lone.proofs.Dichotomy.{dichotomy}
use Rattle.lone.proofs.Turning.{validity_cases, removal_cases, triangle_cases, split_cases}
use Rattle.lone.proofs.Keeping.{start_kept_lem, offcut_starts}

-- a removal turn that moves on, and a split turn that does, on a circle of suc m points
removal_less : (m f k : ℕ) (b : Bool) → is_here (some (ahead (suc m) k)) ≡ b → weigh (suc m) f (some (ahead (suc m) k)) (cond b triangle removal) < 3 + (rounds (suc m) + suc m) + (rounds (suc m) + walk_left (suc m) k)
removal_less m f k true h = omega arith
removal_less zero f zero false h = absurd (true≢false h)
removal_less (suc m) f zero false h = omega arith
removal_less m f (suc zero) false h = absurd (true≢false h)
removal_less m f (suc (suc k)) false h = omega arith

split_less : (m f : ℕ) (t : Option ℕ) (a b : Bool) → (is_zero (ahead (suc m) f) || a) ≡ b → weigh (suc m) (ahead (suc m) f) t (cond b done split) < 1 + (rounds (suc m) + walk_left (suc m) f)
split_less m f t a true h = omega arith
split_less zero zero t a false h = absurd (true≢false h)
split_less (suc m) zero t a false h = omega arith
split_less m (suc zero) t a false h = absurd (true≢false h)
split_less m (suc (suc k)) t a false h = omega arith

module _ {P : Type 0} where
  length_back : (c : List P) → length (back c) ≡ length c
  length_back [] = refl
  length_back (x ∷ xs) = ap suc (length_init_of x xs)

  pub weight_tidy : (R : Ring P) → weight (tidy R) ≡ weight R
  weight_tidy R = go R.circle R.first R.start R.due R.why
    where
      go : (c : List P) (f : ℕ) (s : Option ℕ) (d : Due) (y : Option Discard) → weight (tidy_at c f s d y) ≡ weigh (length c) f s d
      go c f s validity y = rw (length_spin f c)
      go c f s removal y = refl
      go c f s triangle y = rw (length_spin f c)
      go c f s split y = refl
      go c f s done y = refl

  cut_low : (c : List P) (v : P) (n : ℕ) → length c ≡ suc n → (t : Option ℕ) (b : Bool) → weigh (length (cut_circle false v c)) 0 t (cond b done split) < 1 + rounds (suc n)
  cut_low [] v n h t b = absurd (omega arith)
  cut_low (p ∷ []) v n h t true = omega arith
  cut_low (p ∷ []) v n h t false = omega arith
  cut_low (p ∷ x ∷ []) v n h t true = omega arith
  cut_low (p ∷ x ∷ []) v n h t false = omega arith
  cut_low (p ∷ x ∷ y ∷ r) v n h t true = omega arith
  cut_low (p ∷ x ∷ y ∷ r) v n h t false = let e : n ≡ suc (suc (length r)) = omega arith in rw e (omega arith)

-- which rule discarded it does not matter
module _ {P : Type 0} (was : Option Discard) where
  -- an act that takes no point cuts nothing off and makes the weight less
  Lowers : Ring P → Act P → Type 0
  Lowers R a = takes_points a ≡ 0 → (offcut (λ (v : P). v) a R ≡ none) × (weight (apply (λ (v : P). v) a R) < weight R)

  ring : List P → ℕ → Option ℕ → Due → Ring P
  ring c f s d = record { circle = c; first = f; start = s; due = d; why = was }

  discard_low : (c : List P) (f : ℕ) (s : Option ℕ) (y : Discard) (d : Due) → is_done d ≡ false → Lowers (ring c f s d) (discard y)
  unfolding Lowers ring
  discard_low c f s y validity h e = (refl, omega arith)
  discard_low c f s y removal h e = (refl, omega arith)
  discard_low c f s y triangle h e = (refl, omega arith)
  discard_low c f s y split h e = (refl, omega arith)
  discard_low c f s y done h e = absurd (true≢false h)

  removal_on : (c : List P) (f : ℕ) (s : Option ℕ) → HasStart removal s → (x : P) (xs : List P) → c ≡ x ∷ xs → (b : Bool) → is_here (omap (ahead (suc (length xs))) s) ≡ b → Lowers (ring c f s removal) (move_on (cond b triangle removal))
  unfolding Lowers ring
  removal_on c f none g x xs e b i h = absurd g
  removal_on c f (some k) g x xs e b i h = (refl, rw e (rw (length_turn (x ∷ xs)) (removal_less (length xs) (ahead (suc (length xs)) f) k b i)))

  removal_drop : (c : List P) (f : ℕ) (s : Option ℕ) (x : P) (xs : List P) → c ≡ x ∷ xs → Lowers (ring c f s removal) drop_point
  unfolding Lowers ring
  removal_drop c f s x xs e h = (refl, rw e (omega arith))

  split_on : (c : List P) (f : ℕ) (s : Option ℕ) (x : P) (xs : List P) → c ≡ x ∷ xs → (b : Bool) → (is_zero (ahead (suc (length xs)) f) || is_here (omap (ahead (suc (length xs))) s)) ≡ b → Lowers (ring c f s split) (move_on (cond b done split))
  unfolding Lowers ring
  split_on c f s x xs e b i h = (refl, rw e (rw (length_turn (x ∷ xs)) (split_less (length xs) f (omap (ahead (suc (length xs))) s) _ b i)))

  split_cut : (c : List P) (f : ℕ) (s : Option ℕ) (x : P) (xs : List P) → c ≡ x ∷ xs → (v : P) (put off b : Bool) → Lowers (ring c f s split) (cut v put off (cond b done split))
  unfolding Lowers ring
  split_cut c f s x xs e v true true b h = absurd (omega arith)
  split_cut c f s x xs e v true false b h = absurd (omega arith)
  split_cut c f s x xs e v false true b h = absurd (omega arith)
  split_cut c f s x xs e v false false b h = (refl, rw e (omega (arith, cut_low (back (x ∷ xs)) v (length xs) (length_back (x ∷ xs)) (cut_start false (suc (length xs)) s) b)))

  module _ (G : Geo P) where
    lowers : (c : List P) (f : ℕ) (s : Option ℕ) (d : Due) → HasStart d s → is_done d ≡ false → Lowers (ring c f s d) (decide G c f s d)
    unfolding Lowers ring
    lowers c f s validity g h = validity_cases G (Lowers (ring c f s validity)) c f s (λ e. (refl, rw (length_spin f c) (omega arith))) (discard_low c f s at_validity validity h)
    lowers c f s removal g h = removal_cases G (Lowers (ring c f s removal)) c f s (discard_low c f s while_removing removal h) (λ x xs e t v. removal_drop c f s x xs e) (λ x xs e t. removal_on c f s g x xs e)
    lowers c f s triangle g h = triangle_cases G (Lowers (ring c f s triangle)) c f s (λ b i. go b)
      where
        go : (b : Bool) → Lowers (ring c f s triangle) (to_first (cond b done split))
        go true e = (refl, omega arith)
        go false e = (refl, rw (length_spin f c) (omega arith))
    lowers c f s split g h = split_cases G (Lowers (ring c f s split)) c f s (discard_low c f s at_split split h) (split_on c f s) (λ x xs e k v o b i z. absurd (omega arith)) (λ x xs e k v o put off b i. split_cut c f s x xs e v put off b)
    lowers c f s done g h = absurd (true≢false h)

module _ {P : Type 0} where
  module _ (G : Geo P) where
    -- with its start on the circle
    pub falls : (R : Ring P) → HasStart R.due R.start → (machine G).over R ≡ false → (machine G).takes R ≡ 0 → ((machine G).cuts R ≡ none) × (weight ((machine G).next R) < weight R)
    unfolding machine takes_ring step_ring offcut_ring act_of Lowers ring
    falls R g h e =
        let r = lowers R.why G R.circle R.first R.start R.due g h e in
        (r.0, rw (weight_tidy (apply (λ (v : P). v) (decide G R.circle R.first R.start R.due) R)) r.1)

    -- ---- of rings: from what opening left, the limits the job's
    module _ {X : Type 0} (lp lr : ℕ) (os : List (Fed (Ring P) X)) (p₀ : ℕ) where
      offcut_start : (R O : Ring P) → (machine G).cuts R ≡ some O → HasStart O.due O.start
      unfolding machine offcut_ring
      offcut_start R O h = offcut_starts (λ (v : P). v) (λ (T : Ring P). HasStart T.due T.start) (λ c. tt) (act_of G R) R O h

      next_start : (R : Ring P) → HasStart R.due R.start → HasStart ((machine G).next R).due ((machine G).next R).start
      unfolding machine
      next_start R h = start_kept_lem G R h

      -- rings at their start, or anywhere with the start that a removal turn has
      pub rings_end : Every (λ (R : Ring P). HasStart R.due R.start) (map (enter {S = Ring P} {X = X}) os) → p₀ ≤ lp → length os ≤ lr → ForestFits (machine G) lp lr (opening os p₀) ⊎ ForestNeverEnds (machine G) lp lr (opening os p₀)
      rings_end a h k = dichotomy (machine G) lp lr (λ (R : Ring P). HasStart R.due R.start) (λ R v g. next_start R g) (λ R O v g e. offcut_start R O e) weight falls (opening os p₀) a h (rw (length-map os enter) k)
