-- An act commutes with a map of the elements, reads only the elements that it takes, and puts no point on two rings: so a step on a ring of
-- indices has the lone ring's step as its values.
use mathlib.Core.Path.{◌≡◌, refl, ap, ◌∙◌}
use mathlib.Core.List.{List, [], ◌∷◌, map-append}
use mathlib.Core.Option.{Option, none, some}
use mathlib.Core.Bool.{Bool, true, false, cond}
use Prim.Native.Nat.{ℕ, ◌+◌, ◌≤◌}
use native.Mathlib.Omega.{arith}
use lib.ListN.{take, length-map}
use Rattle.rings.specs.Circle.{back, rest, cut_circle, omap}
use Rattle.rings.specs.Count.{one, occ}
use Rattle.rings.specs.Progress.{Ring, tidy, map_ring}
use Rattle.rings.proofs.Counting.{sum_by_append, occ_turn, occ_spin, occ_rest, occ_last}
use Rattle.rings.proofs.Mapping.{map_turn, map_spin, map_back, map_rest, map_take2, map_cut_circle, tidy_map}
use Rattle.lone.specs.Act.{Act, stay, discard, drop_point, move_on, to_first, double, cut, apply, offcut, takes_points, rings_new, offcuts_new}
use Rattle.lone.specs.Lone.{Geo, act_of, step_ring, offcut_ring}

module _ {A B W : Type 0} (f : A → B) (a : W → A) where
  pub apply_map : (act : Act W) (R : Ring A) → map_ring f (apply a act R) ≡ apply (λ v. f (a v)) act (map_ring f R)
  apply_map stay R = refl
  apply_map (discard y) R = refl
  apply_map drop_point R = cc (map_rest f R.circle, length-map (rest R.circle) f)
  apply_map (move_on d) R = cc (map_turn f R.circle, length-map R.circle f)
  apply_map (to_first d) R = cc (map_spin f R.first R.circle)
  apply_map (double v d) R = cc (map-append f R.circle (a v ∷ []))
  apply_map (cut v put off d) R = cc (map_cut_circle f put (a v) (back R.circle), map_back f R.circle, length-map R.circle f)

  pub offcut_map : (act : Act W) (R : Ring A) → omap (map_ring f) (offcut a act R) ≡ offcut (λ v. f (a v)) act (map_ring f R)
  offcut_map stay R = refl
  offcut_map (discard y) R = refl
  offcut_map drop_point R = refl
  offcut_map (move_on d) R = refl
  offcut_map (to_first d) R = refl
  offcut_map (double v d) R = refl
  offcut_map (cut v put false d) R = refl
  offcut_map (cut v put true d) R = cc (map_take2 f R.circle)

-- an act reads only the element that it takes
module _ {A W : Type 0} (a b : W → A) where
  cut_agree : (v : W) (c : List A) → cut_circle false (a v) c ≡ cut_circle false (b v) c
  cut_agree v [] = refl
  cut_agree v (p ∷ []) = refl
  cut_agree v (p ∷ x ∷ []) = refl
  cut_agree v (p ∷ x ∷ y ∷ r) = refl

  pub apply_agree : (act : Act W) (R : Ring A) → ((v : W) → rings_new act ≡ some v → a v ≡ b v) → apply a act R ≡ apply b act R
  apply_agree stay R h = refl
  apply_agree (discard y) R h = refl
  apply_agree drop_point R h = refl
  apply_agree (move_on d) R h = refl
  apply_agree (to_first d) R h = refl
  apply_agree (double v d) R h = cc (h v refl)
  apply_agree (cut v true off d) R h = cc (h v refl)
  apply_agree (cut v false off d) R h = cc (cut_agree v (back R.circle))

  pub offcut_agree : (act : Act W) (R : Ring A) → ((v : W) → offcuts_new act ≡ some v → a v ≡ b v) → offcut a act R ≡ offcut b act R
  offcut_agree stay R h = refl
  offcut_agree (discard y) R h = refl
  offcut_agree drop_point R h = refl
  offcut_agree (move_on d) R h = refl
  offcut_agree (to_first d) R h = refl
  offcut_agree (double v d) R h = refl
  offcut_agree (cut v put false d) R h = refl
  offcut_agree (cut v put true d) R h = cc (h v refl)

-- val: the value of a point before the step, val' after it; a: the first place newly taken, b: the offcut's
module _ {P : Type 0} (G : Geo P) (val val' : ℕ → P) (R : Ring ℕ) (kept : map_ring val' R ≡ map_ring val R) where
  values : (a : ℕ) → ((v : P) → rings_new (act_of G (map_ring val R)) ≡ some v → val' a ≡ v)
      → map_ring val' (apply (λ (v : P). a) (act_of G (map_ring val R)) R) ≡ apply (λ (v : P). v) (act_of G (map_ring val R)) (map_ring val R)
  values a h = apply_map val' (λ (v : P). a) (act_of G (map_ring val R)) R ∙ apply_agree (λ (v : P). val' a) (λ (v : P). v) (act_of G (map_ring val R)) (map_ring val' R) h ∙ ap (apply (λ (v : P). v) (act_of G (map_ring val R))) kept

  pub step_values : (a : ℕ) → ((v : P) → rings_new (act_of G (map_ring val R)) ≡ some v → val' a ≡ v)
      → map_ring val' (tidy (apply (λ (v : P). a) (act_of G (map_ring val R)) R)) ≡ step_ring G (map_ring val R)
  unfolding step_ring
  step_values a h = tidy_map val' (apply (λ (v : P). a) (act_of G (map_ring val R)) R) ∙ ap tidy (values a h)

  pub offcut_values : (b : ℕ) → ((v : P) → offcuts_new (act_of G (map_ring val R)) ≡ some v → val' b ≡ v)
      → omap (map_ring val') (offcut (λ (v : P). b) (act_of G (map_ring val R)) R) ≡ offcut_ring G (map_ring val R)
  unfolding offcut_ring
  offcut_values b h = offcut_map val' (λ (v : P). b) (act_of G (map_ring val R)) R ∙ offcut_agree (λ (v : P). val' b) (λ (v : P). v) (act_of G (map_ring val R)) (map_ring val' R) h ∙ ap (offcut (λ (v : P). v) (act_of G (map_ring val R))) kept

-- ---- how often a point is on the rings

module _ (k : ℕ) where
  -- on the offcut, if any
  abbrev pub occ_offcut : Option (Ring ℕ) → ℕ
  occ_offcut none = 0
  occ_offcut (some R) = occ k R.circle

  abbrev pub one_if : {W : Type 0} → Option W → ℕ → ℕ
  one_if none a = 0
  one_if (some w) a = one k a

  pub occ_cut : (put : Bool) (a : ℕ) (c : List ℕ) → occ k (cut_circle put a (back c)) + occ k (take 2 c) ≤ occ k c + cond put (one k a) 0
  occ_cut put a [] = omega arith
  occ_cut put a (x ∷ []) = omega arith
  occ_cut put a (x ∷ y ∷ []) = omega arith
  occ_cut true a (x ∷ y ∷ z ∷ r) = omega (arith, occ_last k z r)
  occ_cut false a (x ∷ y ∷ z ∷ r) = omega (arith, occ_last k z r)

  -- a step puts no point on a second ring
  pub occ_step : {W : Type 0} (act : Act W) (R : Ring ℕ) (a b : ℕ)
      → occ k (apply (λ (v : W). a) act R).circle + occ_offcut (offcut (λ (v : W). b) act R) ≤ occ k R.circle + (one_if (rings_new act) a + one_if (offcuts_new act) b)
  occ_step stay R a b = omega arith
  occ_step (discard y) R a b = omega arith
  occ_step drop_point R a b = omega (arith, occ_rest k R.circle)
  occ_step (move_on d) R a b = omega (arith, occ_turn k R.circle)
  occ_step (to_first d) R a b = omega (arith, occ_spin k R.first R.circle)
  occ_step (double v d) R a b = omega (arith, sum_by_append (one k) R.circle (a ∷ []))
  occ_step (cut v true true d) R a b = omega (arith, occ_cut true a R.circle)
  occ_step (cut v true false d) R a b = omega (arith, occ_cut true a R.circle)
  occ_step (cut v false true d) R a b = omega (arith, occ_cut false a R.circle)
  occ_step (cut v false false d) R a b = omega (arith, occ_cut false a R.circle)

-- the points taken are the ring's new one and the offcut's
abbrev pub count : {W : Type 0} → Option W → ℕ
count none = 0
count (some w) = 1

pub takes_is : {W : Type 0} (act : Act W) → takes_points act ≡ count (rings_new act) + count (offcuts_new act)
takes_is stay = refl
takes_is (discard y) = refl
takes_is drop_point = refl
takes_is (move_on d) = refl
takes_is (to_first d) = refl
takes_is (double v d) = refl
takes_is (cut v true true d) = refl
takes_is (cut v true false d) = refl
takes_is (cut v false true d) = refl
takes_is (cut v false false d) = refl
