-- Every step keeps: the first point and the loop's start are on the circle; a removal turn has its start; where a split turn is due the circle
-- has two points or at least four, and a doubling or a cut has at least four.
use mathlib.Core.Path.{◌≡◌, refl, sym, ap, ◌∙◌, subst}
use mathlib.Core.Logic.{◌⊎◌, inl, inr, ◌≢◌, ◌↔◌}
use mathlib.Core.List.{List, [], ◌∷◌}
use mathlib.Core.Option.{Option, none, some}
use mathlib.Core.Bool.{Bool, true, false, cond, true≢false}
use Prim.Native.Nat.{ℕ, zero, suc, ◌+◌, ◌≤◌, ◌<◌}
use native.Mathlib.Nat.{not-suc-le-zero, le_of_suc-le-suc}
use native.Mathlib.Omega.{arith}
use native.Mathlib.Numerals.{add-one}
use lib.ListN.{length, get_or, take, length-append, get_or-append}
use lib.Dec.{eqb}
use borrow.Author.Tests.{eqb-false}
use Rattle.rings.specs.Circle.{turn, spin, back, head_or, rest, one_or_three, cut_circle, cut_start, ahead, omap}
use Rattle.rings.specs.Count.{occ}
use Rattle.rings.specs.Progress.{Due, validity, removal, triangle, split, done, Discard, Ring, at_start, tidy_at, tidy}
use Rattle.rings.proofs.Circles.{length_turn, length_spin, length_init_of}
use Rattle.rings.proofs.Counting.{one_here}
use Rattle.lone.specs.Act.{Act, stay, discard, drop_point, move_on, to_first, double, cut, apply, offcut}
use Rattle.lone.specs.Lone.{Geo, is_valid_closed_path, decide, act_of, step_ring}
use Rattle.lone.specs.Kept.{AtMost, OnCircle, PlacesOnRing, HasStart, SplitSize, LongEnough, GeoLaws}
use Rattle.lone.proofs.Turning.{Crosses, validity_cases, removal_cases, triangle_cases, split_cases}

-- ---- on the circle

on_first : (n : ℕ) (s : Option ℕ) → AtMost 0 s → OnCircle n 0 s
on_first zero s h = (omega arith, h)
on_first (suc m) none h = (omega arith, tt)
on_first (suc m) (some k) h = (omega arith, omega arith)

ahead_le : (m f : ℕ) → f ≤ suc m → ahead (suc m) f ≤ m
ahead_le m zero h = omega arith
ahead_le m (suc k) h = omega arith

ahead_most : (m : ℕ) (s : Option ℕ) → AtMost m s → AtMost m (omap (ahead (suc m)) s)
ahead_most m none h = tt
ahead_most m (some k) h = ahead_le m k (omega arith)

on_ahead : (n f : ℕ) (s : Option ℕ) → OnCircle n f s → OnCircle n (ahead n f) (omap (ahead n) s)
on_ahead zero zero none h = (omega arith, tt)
on_ahead zero zero (some zero) h = (omega arith, omega arith)
on_ahead zero zero (some (suc k)) h = absurd (omega (arith, h.1))
on_ahead zero (suc f) s h = absurd (omega (arith, h.0))
on_ahead (suc m) f s h = (ahead_le m f (omega (arith, h.0)), ahead_most m s h.1)

on_cut : (put : Bool) (m : ℕ) (s : Option ℕ) → AtMost (suc (suc m)) s → AtMost (cond put (suc m) m) (cut_start put (suc (suc (suc m))) s)
on_cut put m none h = tt
on_cut put m (some zero) h = tt
on_cut put m (some (suc zero)) h = tt
on_cut true m (some (suc (suc k))) h = go (eqb (3 + k) (suc (suc (suc m)))) refl
  where
    go : (b : Bool) → eqb (3 + k) (suc (suc (suc m))) ≡ b → cond b 0 (2 + k) ≤ suc m
    go true e = omega arith
    go false e = let n : 3 + k ≢ suc (suc (suc m)) = eqb-false _ _ e in omega arith
on_cut false m (some (suc (suc k))) h = go (eqb (3 + k) (suc (suc (suc m)))) refl
  where
    go : (b : Bool) → eqb (3 + k) (suc (suc (suc m))) ≡ b → cond b 0 (1 + k) ≤ m
    go true e = omega arith
    go false e = let n : 3 + k ≢ suc (suc (suc m)) = eqb-false _ _ e in omega arith

short : (put : Bool) (n : ℕ) (s : Option ℕ) {m : ℕ} → m ≤ 1 → AtMost m s → AtMost 0 (cut_start put n s)
short put n none l h = tt
short put n (some zero) l h = tt
short put n (some (suc zero)) l h = tt
short put n (some (suc (suc k))) l h = absurd (omega arith)

module _ {A W : Type 0} (a : W → A) where
  pub on_apply : (act : Act W) (R : Ring A) → PlacesOnRing R → PlacesOnRing (apply a act R)
  on_apply stay R h = h
  on_apply (discard y) R h = (omega arith, tt)
  on_apply drop_point R h = go R.circle R.first R.start h
    where
      go : (c : List A) (f : ℕ) (s : Option ℕ) → OnCircle (length c) f s → OnCircle (length (rest c)) (ahead (length (rest c)) f) (some 0)
      go [] zero s h = (omega arith, omega arith)
      go [] (suc f) s h = absurd (omega (arith, h.0))
      go (x ∷ []) zero s h = (omega arith, omega arith)
      go (x ∷ []) (suc f) s h = absurd (omega (arith, h.0))
      go (x ∷ y ∷ r) f s h = (ahead_le (length r) f h.0, omega arith)
  on_apply (move_on d) R h = rw (length_turn R.circle) (on_ahead (length R.circle) R.first R.start h)
  on_apply (to_first d) R h = on_first (length (spin R.first R.circle)) (some 0) (omega arith)
  on_apply (double v d) R h = rw (length-append R.circle (a v ∷ [])) (rw add-one (go (length R.circle) h))
    where
      more : (m : ℕ) (s : Option ℕ) → AtMost m s → AtMost (suc m) s
      more m none b = tt
      more m (some k) b = omega arith

      go : (n : ℕ) → OnCircle n R.first R.start → OnCircle (suc n) R.first R.start
      go zero h = h
      go (suc m) h = (omega (arith, h.0), more m R.start h.1)
  on_apply (cut v put off d) R h = go put R.circle R.first R.start h
    where
      go : (put : Bool) (c : List A) (f : ℕ) (s : Option ℕ) → OnCircle (length c) f s → OnCircle (length (cut_circle put (a v) (back c))) 0 (cut_start put (length c) s)
      go put [] f s h = (omega arith, short put 0 s (omega arith) h.1)
      go put (x ∷ []) f s h = (omega arith, short put 1 s (omega arith) h.1)
      go put (x ∷ y ∷ []) f s h = (omega arith, short put 2 s (omega arith) h.1)
      go true (x ∷ y ∷ z ∷ r) f s h = rw (length_init_of z r) (omega arith, on_cut true (length r) s h.1)
      go false (x ∷ y ∷ z ∷ r) f s h = rw (length_init_of z r) (omega arith, on_cut false (length r) s h.1)

  -- an offcut is at its start
  pub offcut_starts : (Q : Ring A → Type 0) → ((c : List A) → Q (at_start c)) → (act : Act W) (R O : Ring A) → offcut a act R ≡ some O → Q O
  offcut_starts Q q stay R O h = let z : ◌≡◌ {A = ℕ} 0 1 = cc in absurd (omega arith)
  offcut_starts Q q (discard y) R O h = let z : ◌≡◌ {A = ℕ} 0 1 = cc in absurd (omega arith)
  offcut_starts Q q drop_point R O h = let z : ◌≡◌ {A = ℕ} 0 1 = cc in absurd (omega arith)
  offcut_starts Q q (move_on d) R O h = let z : ◌≡◌ {A = ℕ} 0 1 = cc in absurd (omega arith)
  offcut_starts Q q (to_first d) R O h = let z : ◌≡◌ {A = ℕ} 0 1 = cc in absurd (omega arith)
  offcut_starts Q q (double v d) R O h = let z : ◌≡◌ {A = ℕ} 0 1 = cc in absurd (omega arith)
  offcut_starts Q q (cut v put false d) R O h = let z : ◌≡◌ {A = ℕ} 0 1 = cc in absurd (omega arith)
  offcut_starts Q q (cut v put true d) R O h = let e : at_start (a v ∷ take 2 R.circle) ≡ O = cc in subst Q e (q (a v ∷ take 2 R.circle))

module _ {A : Type 0} where
  pub on_tidy : (R : Ring A) → PlacesOnRing R → PlacesOnRing (tidy R)
  on_tidy R h = go R.circle R.first R.start R.due R.why h
    where
      go : (c : List A) (f : ℕ) (s : Option ℕ) (d : Due) (y : Option Discard) → OnCircle (length c) f s → PlacesOnRing (tidy_at c f s d y)
      go c f s validity y h = on_first (length (spin f c)) none tt
      go c f s removal y h = h
      go c f s triangle y h = on_first (length (spin f c)) none tt
      go c f s split y h = h
      go c f s done y h = on_first (length (spin f c)) none tt

-- ---- what the step due says

module _ {P : Type 0} (G : Geo P) where
  pub on_step : (R : Ring P) → PlacesOnRing R → PlacesOnRing (step_ring G R)
  unfolding step_ring
  on_step R h = on_tidy (apply (λ (v : P). v) (act_of G R) R) (on_apply (λ (v : P). v) (act_of G R) R h)

  two : (b : Bool) (s : Option ℕ) → HasStart (cond b done split) s
  two true s = tt
  two false s = tt

  start_tidy : (c : List P) (f : ℕ) (s : Option ℕ) (d : Due) (y : Option Discard) → HasStart d s → HasStart (tidy_at c f s d y).due (tidy_at c f s d y).start
  start_tidy c f s validity y h = tt
  start_tidy c f s removal y h = h
  start_tidy c f s triangle y h = tt
  start_tidy c f s split y h = tt
  start_tidy c f s done y h = tt

  module _ (R : Ring P) where
    Starts : Act P → Type 0
    Starts act = HasStart (apply (λ (v : P). v) act R).due (apply (λ (v : P). v) act R).start

    starts : (d : Due) → HasStart d R.start → HasStart R.due R.start → Starts (decide G R.circle R.first R.start d)
    unfolding Starts decide
    starts validity h h' = validity_cases G Starts R.circle R.first R.start tt tt
    starts removal h h' = removal_cases G Starts R.circle R.first R.start tt (λ x xs e t v. tt) (λ x xs e t b i. go R.start h b)
      where
        go : (s : Option ℕ) → HasStart removal s → (b : Bool) → HasStart (cond b triangle removal) (omap (ahead (length R.circle)) s)
        go none h b = absurd h
        go (some k) h true = tt
        go (some k) h false = tt
    starts triangle h h' = triangle_cases G Starts R.circle R.first R.start (λ b e. two b (some 0))
    starts split h h' = split_cases G Starts R.circle R.first R.start tt (λ x xs e b i. two b (omap (ahead (length R.circle)) R.start)) (λ x xs e c v o b i. two b R.start) (λ x xs e c v o put off b i. two b (cut_start put (length R.circle) R.start))
    starts done h h' = h'

  -- a removal turn has its start on the circle
  pub start_kept_lem : (R : Ring P) → HasStart R.due R.start → HasStart (step_ring G R).due (step_ring G R).start
  unfolding step_ring act_of Starts
  start_kept_lem R h = let T : Ring P = apply (λ (v : P). v) (decide G R.circle R.first R.start R.due) R in start_tidy T.circle T.first T.start T.due T.why (starts R R.due h h)

-- ---- the size of the circle at a split turn

not_one_three : {A : Type 0} (c : List A) → one_or_three c ≡ false → (length c ≡ 2) ⊎ (4 ≤ length c)
not_one_three [] h = absurd (true≢false h)
not_one_three (a ∷ []) h = absurd (true≢false h)
not_one_three (a ∷ b ∷ []) h = inl refl
not_one_three (a ∷ b ∷ c ∷ []) h = absurd (true≢false h)
not_one_three (a ∷ b ∷ c ∷ d ∷ r) h = inr (omega arith)

module _ {P : Type 0} (G : Geo P) (laws : GeoLaws G) where
  -- a ring that crosses itself at a split turn has at least four points: a doubling or a cut
  pub crossing_size : (x : P) (xs : List P) → Crosses G x xs → 4 ≤ suc (length xs)
  crossing_size x [] h = absurd (true≢false (sym h ∙ laws.back_to_start x x x))
  crossing_size x (y ∷ []) h = absurd (true≢false (sym h ∙ laws.same_edge y x))
  crossing_size x (y ∷ z ∷ []) h = absurd (true≢false (sym h ∙ laws.back_to_start z x y))
  crossing_size x (y ∷ z ∷ u ∷ r) h = omega arith

  size_tidy : (c : List P) (f : ℕ) (s : Option ℕ) (d : Due) (y : Option Discard) → SplitSize d (length c) → SplitSize (tidy_at c f s d y).due (length (tidy_at c f s d y).circle)
  size_tidy c f s validity y h = tt
  size_tidy c f s removal y h = tt
  size_tidy c f s triangle y h = tt
  size_tidy c f s split y h = h
  size_tidy c f s done y h = tt

  module _ (R : Ring P) where
    Sizes : Act P → Type 0
    Sizes act = SplitSize (apply (λ (v : P). v) act R).due (length (apply (λ (v : P). v) act R).circle)

    ends : (b : Bool) (n : ℕ) → (b ≡ false → SplitSize split n) → SplitSize (cond b done split) n
    ends true n h = tt
    ends false n h = h refl

    kept : SplitSize split (length R.circle) → SplitSize split (length (turn R.circle))
    kept h = rw (length_turn R.circle) h

    sizes : (d : Due) → SplitSize d (length R.circle) → SplitSize R.due (length R.circle) → Sizes (decide G R.circle R.first R.start d)
    unfolding Sizes decide
    sizes validity h h' = validity_cases G Sizes R.circle R.first R.start tt tt
    sizes removal h h' = removal_cases G Sizes R.circle R.first R.start tt (λ x xs e t v. tt) (λ x xs e t b i. go b)
      where
        go : (b : Bool) → SplitSize (cond b triangle removal) (length (turn R.circle))
        go true = tt
        go false = tt
    sizes triangle h h' = triangle_cases G Sizes R.circle R.first R.start (λ b e. ends b _ (λ i. rw (length_spin R.first R.circle) (not_one_three R.circle (e ∙ i))))
    sizes split h h' = split_cases G Sizes R.circle R.first R.start tt
        (λ x xs e b i. ends b _ (λ j. kept h))
        (λ x xs e c v o b i. ends b _ (λ j. inr (rw (length-append R.circle (v ∷ [])) (omega (arith, crossing_size x xs c, ap length e)))))
        (λ x xs e c v o put off b i. ends b _ (λ j. not_one_three (cut_circle put v (back R.circle)) (rw e (i ∙ j))))
    sizes done h h' = h'

  -- where a split turn is due the circle has two points or at least four
  pub size_kept : (R : Ring P) → SplitSize R.due (length R.circle) → SplitSize (step_ring G R).due (length (step_ring G R).circle)
  unfolding step_ring act_of Sizes
  size_kept R h = let T : Ring P = apply (λ (v : P). v) (decide G R.circle R.first R.start R.due) R in size_tidy T.circle T.first T.start T.due T.why (sizes R R.due h h)

  valid_size : (c : List P) → is_valid_closed_path G c ≡ true → 3 ≤ length c
  valid_size [] h = absurd (true≢false (sym h))
  valid_size (a ∷ []) h = absurd (true≢false (sym h))
  valid_size (a ∷ b ∷ []) h = absurd (true≢false (sym h))
  valid_size (a ∷ b ∷ c ∷ r) h = omega arith

  -- the act decided finds the points that it needs, in any state
  pub long_enough : (c : List P) (f : ℕ) (s : Option ℕ) (d : Due) → LongEnough (decide G c f s d) (length c)
  unfolding decide
  long_enough c f s validity = validity_cases G (λ (act : Act P). LongEnough act (length c)) c f s tt tt
  long_enough c f s removal = removal_cases G (λ (act : Act P). LongEnough act (length c)) c f s tt (λ x xs e t v. omega (arith, ap length e, valid_size xs v)) (λ x xs e t b i. omega (arith, ap length e))
  long_enough c f s triangle = triangle_cases G (λ (act : Act P). LongEnough act (length c)) c f s (λ b e. tt)
  long_enough c f s split = split_cases G (λ (act : Act P). LongEnough act (length c)) c f s tt (λ x xs e b i. omega (arith, ap length e)) (λ x xs e k v o b i. omega (arith, ap length e, crossing_size x xs k)) (λ x xs e k v o put off b i. omega (arith, ap length e, crossing_size x xs k))
  long_enough c f s done = tt

-- ---- places and elements

occ_get_d : (k : ℕ) (c : List ℕ) (d : ℕ) → k < length c → 0 < occ (get_or c k d) c
occ_get_d k [] d h = absurd (not-suc-le-zero h)
occ_get_d zero (x ∷ xs) d h = omega (arith, one_here x)
occ_get_d (suc k) (x ∷ xs) d h = omega (arith, occ_get_d k xs d (le_of_suc-le-suc h))

-- the element k places ahead
pub at_spin : {A : Type 0} (d : A) (k : ℕ) (c : List A) → k < length c → head_or d (spin k c) ≡ get_or c k d
at_spin d zero [] h = refl
at_spin d zero (x ∷ xs) h = refl
at_spin d (suc k) [] h = absurd (not-suc-le-zero h)
at_spin d (suc k) (x ∷ xs) h = at_spin d k (turn (x ∷ xs)) (omega (arith, length-append xs (x ∷ []))) ∙ get_or-append xs (x ∷ []) d k (le_of_suc-le-suc h)

-- on a circle without repeats a place is ahead by 0 exactly when its element is the present one: a program may compare elements where the lone
-- ring compares places
pub same_place : (x : ℕ) (xs : List ℕ) (k : ℕ) → occ x (x ∷ xs) ≤ 1 → k ≤ length xs → (head_or x (spin k (x ∷ xs)) ≡ x) ↔ (k ≡ 0)
same_place x xs zero h l = (λ e. refl, λ e. refl)
same_place x xs (suc k) h l = (λ e. absurd (no_more (sym (at_spin x (suc k) (x ∷ xs) (omega arith)) ∙ e)), λ e. absurd (omega arith))
  where
    no_more : get_or xs k x ≡ x → ⊥
    no_more e = omega (arith, h, one_here x, subst (λ (z : ℕ). 0 < occ z xs) e (occ_get_d k xs x (omega arith)))
