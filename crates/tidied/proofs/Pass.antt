-- A whole removal pass of the lone ring.
use mathlib.Core.Path.{◌≡◌, refl, sym, ap, ◌∙◌, subst}
use mathlib.Core.Bool.{Bool, true, false, cond, true≢false}
use mathlib.Core.List.{List, [], ◌∷◌}
use mathlib.Core.Option.{Option, none, some}
use Prim.Native.Nat.{ℕ, zero, suc, ◌+◌, ◌-◌, ◌≤◌, ◌<◌}
use native.Mathlib.Nat.{zero-add, suc-add}
use native.Mathlib.Omega.{arith}
use native.Mathlib.Decide.{dec_lt}
use lib.ListN.{length}
use Rattle.geometry.specs.declared.Point.{Point}
use Rattle.rings.specs.Circle.{turn, spin, last_of, head_or, one_or_three, ahead, omap}
use Rattle.rings.specs.Place.{is_here}
use Rattle.rings.specs.Progress.{Due, validity, removal, triangle, split, done, Discard, at_validity, while_removing, Ring, at_start, tidy_at}
use Rattle.rings.proofs.Circles.{length_turn, spin_round}
use Rattle.lone.specs.Act.{Act, discard, drop_point, move_on, to_first, double, cut, apply}
use Rattle.lone.specs.Lone.{Geo, from_first, is_valid_closed_path, removal_turn, decide, act_of, step_ring}
use Rattle.lone.specs.Forest.{initial, steps_state}
use Rattle.lone.specs.Order.{machine}
use Rattle.lone.specs.Plane.{plane, lone_ring}
use Rattle.lone.proofs.Turning.{split_cases}
use Rattle.tidied.specs.Tidied.{meets, Clean, Drops, no_more, onward, dropped, Tidied}
use Rattle.tidied.proofs.Chains.{then, to_place, in_order, area_kept}

-- a ring in its removal loop
abbrev removing : {P : Type 0} → List P → ℕ → Option ℕ → Option Discard → Ring P
removing c f s y = record { circle = c; first = f; start = s; due = removal; why = y }

-- ---- a circle seen from a place, and from a further one

spin_more : {A : Type 0} (k j : ℕ) (c : List A) → spin j (spin k c) ≡ spin (k + j) c
spin_more zero j c = rw zero-add
spin_more (suc k) j c = spin_more k j (turn c) ∙ ap (λ (n : ℕ). spin n c) (sym (suc-add k j))

module _ {P : Type 0} (G : Geo P) where
  -- a clean circle is clean from any place
  clean_from : (f : ℕ) (c : List P) → Clean G c → Clean G (spin f c)
  clean_from f c h k = rw (spin_more f k c) (h (f + k))

  -- once round is enough
  less : (x : P) (xs : List P) (k : ℕ) → ¬ (k < suc (length xs)) → spin k (x ∷ xs) ≡ spin (k - suc (length xs)) (x ∷ xs)
  less x xs k i =
      let e : k ≡ suc (length xs) + (k - suc (length xs)) = omega arith in
      ap (λ (n : ℕ). spin n (x ∷ xs)) e
      ∙ sym (spin_more (suc (length xs)) (k - suc (length xs)) (x ∷ xs))
      ∙ ap (spin (k - suc (length xs))) (spin_round (x ∷ xs))

  near : (x : P) (xs : List P) → ((j : ℕ) → j < suc (length xs) → meets G (spin j (x ∷ xs)) ≡ false) → (k : ℕ) → ((j : ℕ) → j < k → meets G (spin j (x ∷ xs)) ≡ false) → Dec (k < suc (length xs)) → meets G (spin k (x ∷ xs)) ≡ false
  near x xs h k before (yes i) = h k i
  near x xs h k before (no i) = ap (meets G) (less x xs k i) ∙ before (k - suc (length xs)) (omega arith)

  round_by : (fuel : ℕ) (x : P) (xs : List P) → ((j : ℕ) → j < suc (length xs) → meets G (spin j (x ∷ xs)) ≡ false) → (k : ℕ) → k ≤ fuel → meets G (spin k (x ∷ xs)) ≡ false
  round_by zero x xs h k l = near x xs h k (λ j b. absurd (omega arith)) (dec_lt k (suc (length xs)))
  round_by (suc fuel) x xs h k l = near x xs h k (λ j b. round_by fuel x xs h j (omega arith)) (dec_lt k (suc (length xs)))

  empty_clean : (k : ℕ) → meets G (spin k []) ≡ false
  empty_clean zero = refl
  empty_clean (suc k) = empty_clean k

  round : (c : List P) → ((j : ℕ) → j < length c → meets G (spin j c) ≡ false) → Clean G c
  round [] h k = empty_clean k
  round (x ∷ xs) h k = round_by k x xs h k (omega arith)

  -- ---- what a removal turn may count on: since the last drop, or since the pass began, the loop has met the points from its start up to the present place, and none
  -- of them meets the test. The start is k places ahead; k = 0: none was met yet
  Looked : List P → Option ℕ → Type 0
  Looked c none = ⊥
  Looked c (some k) = (j : ℕ) → 0 < k → k ≤ j → j < length c → meets G (spin j c) ≡ false

  -- moving on from a point that does not meet the test: all from the start up to the new present place
  moved : (x : P) (xs : List P) (k : ℕ) → Looked (x ∷ xs) (some k) → meets G (x ∷ xs) ≡ false
      → (j : ℕ) → ahead (suc (length xs)) k ≤ j → j < length (turn (x ∷ xs)) → meets G (spin j (turn (x ∷ xs))) ≡ false
  unfolding Looked
  moved x xs k l e j a b = at k a (dec_lt (suc j) (suc (length xs))) l
    where
      m : length (turn (x ∷ xs)) ≡ suc (length xs)
      m = length_turn (x ∷ xs)

      last : j ≡ length xs → meets G (spin (suc j) (x ∷ xs)) ≡ false
      last i = ap (λ (n : ℕ). meets G (spin (suc n) (x ∷ xs))) i ∙ ap (meets G) (spin_round (x ∷ xs)) ∙ e

      at : (k : ℕ) → ahead (suc (length xs)) k ≤ j → Dec (suc j < suc (length xs)) → Looked (x ∷ xs) (some k) → meets G (spin (suc j) (x ∷ xs)) ≡ false
      at zero a d l = last (omega (arith, m))
      at (suc k) a (yes i) l = l (suc j) (omega arith) (omega arith) i
      at (suc k) a (no i) l = last (omega (arith, m))

  -- ---- the pass, by the step due; c₀: the points at the start

  module _ (c₀ : List P) where
    At : List P → ℕ → Option ℕ → Due → Type 0
    At c f s validity = Drops G c₀ (spin f c)
    At c f s removal = Drops G c₀ c × Looked c s
    At c f s triangle = Drops G c₀ c × Clean G c
    At c f s split = Unit {0}
    At c f s done = Unit {0}

    Going : Ring P → Type 0
    Going R = At R.circle R.first R.start R.due

    settle : (c : List P) (f : ℕ) (s : Option ℕ) (d : Due) (y : Option Discard) → At c f s d → Going (tidy_at c f s d y)
    unfolding Going At
    settle c f s validity y h = h
    settle c f s removal y h = h
    settle c f s triangle y h = (to_place f h.0, clean_from f c h.1)
    settle c f s split y h = tt
    settle c f s done y h = tt

    -- a removal turn
    turns : (c : List P) (f : ℕ) (s : Option ℕ) (w : Option Discard) → Drops G c₀ c → Looked c s → Going (apply (λ (v : P). v) (removal_turn G c s) (removing c f s w))
    unfolding Going At Looked removal_turn
    turns [] f s w h l = tt
    turns (x ∷ xs) f none w h l = absurd l
    turns (x ∷ xs) f (some k) w h l = go (G.removable (last_of x xs) x (head_or x xs)) refl (is_valid_closed_path G xs) refl
      where
        goes : (ys : List P) → xs ≡ ys → is_valid_closed_path G ys ≡ true → G.removable (last_of x ys) x (head_or x ys) ≡ true → Drops G c₀ ys
        goes [] e v t = absurd (true≢false (sym v))
        goes (y ∷ ys) e v t = then h (rw e (dropped t no_more))

        on : G.removable (last_of x xs) x (head_or x xs) ≡ false → (n : ℕ) → n ≡ ahead (suc (length xs)) k → Going (apply (λ (v : P). v) (move_on (cond (is_here (some n)) triangle removal)) (removing (x ∷ xs) f (some k) w))
        on t zero e = (then h (onward no_more), round (turn (x ∷ xs)) (λ j b. moved x xs k l t j (omega arith) b))
        on t (suc n) e = (then h (onward no_more), rw (← e) (λ j p a b. moved x xs k l t j (omega arith) b))

        go : (b₁ : Bool) → G.removable (last_of x xs) x (head_or x xs) ≡ b₁ → (b₂ : Bool) → is_valid_closed_path G xs ≡ b₂
            → Going (apply (λ (v : P). v) (cond b₁ (cond b₂ drop_point (discard while_removing)) (move_on (cond (is_here (omap (ahead (suc (length xs))) (some k))) triangle removal))) (removing (x ∷ xs) f (some k) w))
        go true t true v = (goes xs refl v t, λ j p. absurd (omega arith))
        go true t false v = tt
        go false t b v = on t (ahead (suc (length xs)) k) refl

    -- every kind of step, before what the ring need not remember is forgotten
    Does : Ring P → Act P → Type 0
    Does R act = Going (apply (λ (v : P). v) act R)

    ends : (R : Ring P) (b : Bool) → At R.circle R.first R.start (cond b done split)
    unfolding At
    ends R true = tt
    ends R false = tt

    does : (c : List P) (f : ℕ) (s : Option ℕ) (d : Due) (y : Option Discard) → At c f s d → Does (record { circle = c; first = f; start = s; due = d; why = y }) (decide G c f s d)
    unfolding Does Going At Looked decide
    does c f s validity y h = go (is_valid_closed_path G (spin f c)) h
      where
        go : (b : Bool) → At c f s validity → Does (record { circle = c; first = f; start = s; due = validity; why = y }) (cond b (to_first removal) (discard at_validity))
        go true h = (h, λ j p. absurd (omega arith))
        go false h = tt
    does c f s removal y h = turns c f s y h.0 h.1
    does c f s triangle y h = ends (record { circle = spin f c; first = 0; start = some 0; due = triangle; why = none }) (one_or_three c)
    does c f s split y h =
        let R : Ring P = record { circle = c; first = f; start = s; due = split; why = y } in
        split_cases G (Does R) c f s tt
        (λ x xs e b i. ends (apply (λ (v : P). v) (move_on split) R) b)
        (λ x xs e k v o b i. ends (apply (λ (v : P). v) (double v split) R) b)
        (λ x xs e k v o put off b i. ends (apply (λ (v : P). v) (cut v put off split) R) b)
    does c f s done y h = h

    kept : (R : Ring P) → Going R → Going (step_ring G R)
    unfolding step_ring act_of Going Does
    kept R h =
        let T : Ring P = apply (λ (v : P). v) (decide G R.circle R.first R.start R.due) R in
        settle T.circle T.first T.start T.due T.why (does R.circle R.first R.start R.due R.why h)

    after : (n : ℕ) → Going (steps_state (machine G) n (initial (at_start c₀))).now
    unfolding machine
    after zero = unfold Going in unfold At in no_more
    after (suc n) = kept (steps_state (machine G) n (initial (at_start c₀))).now (after n)

    -- wherever the triangle test is due
    whole : (R : Ring P) → Going R → R.due ≡ triangle → Drops G c₀ (from_first R) × Clean G (from_first R)
    unfolding Going At
    whole R h e = let k : Drops G c₀ R.circle × Clean G R.circle = subst (λ (d : Due). At R.circle R.first R.start d) e h in (to_place R.first k.0, clean_from R.first R.circle k.1)

    pub pass : (n : ℕ) → (steps_state (machine G) n (initial (at_start c₀))).now.due ≡ triangle
        → Drops G c₀ (from_first (steps_state (machine G) n (initial (at_start c₀))).now) × Clean G (from_first (steps_state (machine G) n (initial (at_start c₀))).now)
    pass n e = whole (steps_state (machine G) n (initial (at_start c₀))).now (after n) e

-- the real geometry, with the setting on or off: a ring at its start, and any number of steps after which the triangle test is due
pub tidied : (preserve : Bool) (c : List Point) (n : ℕ) → (steps_state (lone_ring preserve) n (initial (at_start c))).now.due ≡ triangle
    → Tidied preserve c (from_first (steps_state (lone_ring preserve) n (initial (at_start c))).now)
tidied preserve c n e =
    let h = pass (plane preserve) c n e in
    record { clean = h.1; in_order = in_order h.0; chain = h.0; area = area_kept preserve h.0 }
