-- The dichotomy: either no list has a full refusal and each can be carried on until all are done, or none can be carried on so far. Decided by
-- stepping unfinished rings one after another, under a weight that falls with each step that takes no place.
use mathlib.Core.Path.{◌≡◌, refl, ap, ◌∙◌}
use mathlib.Core.Logic.{◌⊎◌, inl, inr}
use mathlib.Core.List.{List, [], ◌∷◌}
use mathlib.Core.Option.{Option, none, some}
use mathlib.Core.Bool.{Bool, true, false, cond, ◌&&◌}
use Prim.Native.Nat.{ℕ, zero, suc, ◌+◌, ◌≤◌, ◌<◌}
use native.Mathlib.Nat.{not-suc-le-zero}
use native.Mathlib.Omega.{arith}
use lib.ListN.{length, set}
use lib.Dec.{leb}
use Rattle.rings.specs.Count.{sum_by}
use Rattle.rings.proofs.Counting.{sum_by_append, sum_by_set}
use Rattle.lone.specs.Forest.{Machine, State, to_list, Entry, ringless, open_ring, closed_ring, ok, full, Forest, is_ok}
use Rattle.lone.specs.Forest.{new_entry, at, Every, step_state, carry_out, answer, step_forest, run_forest}
use Rattle.lone.specs.Order.{AllDone, ForestFits, ForestNeverEnds}
use Rattle.lone.proofs.Stepping.{Accepted, Refused, view}
use Rattle.lone.proofs.Alone.{at_closed}
use Rattle.lone.proofs.Every.{every_carry}
use Rattle.lone.proofs.Ending.{Unfinished, find, fits_of_end, never_of_full}

module _ {S X : Type 0} (M : Machine S) (lp lr : ℕ) where
  -- an invariant, kept by every step and had by every offcut; under it a step that takes no point cuts nothing off and makes the weight less:
  -- then some list ends the forest or meets the limit
  module _ (Inv : S → Type 0) (kept : (x : S) → M.over x ≡ false → Inv x → Inv (M.next x)) (had : (x y : S) → M.over x ≡ false → Inv x → M.cuts x ≡ some y → Inv y)
      (weight : S → ℕ) (falls : (x : S) → Inv x → M.over x ≡ false → M.takes x ≡ 0 → (M.cuts x ≡ none) × (weight (M.next x) < weight x)) where
    weight_of : Entry S X → ℕ
    weight_of ringless = 0
    weight_of (open_ring x) = 0
    weight_of (closed_ring q L) = weight L.now

    Found : Forest S X → Type 0
    Found F = ((s : List ℕ) × AllDone M (run_forest M lp lr F s).entries) ⊎ ((s : List ℕ) × (i : ℕ) × (answer M lp lr (run_forest M lp lr F s) i ≡ full))

    found_later : (F : Forest S X) (i : ℕ) → Found (step_forest M lp lr F i) → Found F
    unfolding Found
    found_later F i (inl r) = inl (i ∷ r.0, r.1)
    found_later F i (inr r) = inr (i ∷ r.0, r.1, r.2)

    inv_carry : (F : Forest S X) (i : ℕ) (q : Option ℕ) (L : State S) → at F.entries i ≡ closed_ring q L → M.over L.now ≡ false → Every Inv F.entries → Every Inv (carry_out M F i q L).entries
    inv_carry F i q L h v a = every_carry M Inv Inv F i q L h (λ x k. k) (kept L.now v) (λ y e k. had L.now y v k e) a

    -- a step on an unfinished ring is carried out or refused as full
    unfinished_full : (F : Forest S X) (v : Unfinished M F.entries) → is_ok (answer M lp lr F v.place) ≡ false → answer M lp lr F v.place ≡ full
    unfolding answer
    unfinished_full F v h = go _ refl
      where
        b : Bool
        b = leb (F.points + M.takes v.state.now) lp && leb (length F.entries + length (to_list (M.cuts v.state.now))) lr

        is : answer M lp lr F v.place ≡ cond b ok full
        is = rw (v.here, v.unfinished)

        go : (c : Bool) → b ≡ c → answer M lp lr F v.place ≡ full
        go true e = let y : answer M lp lr F v.place ≡ ok = is ∙ rw e in let z : is_ok (answer M lp lr F v.place) ≡ true = ap is_ok y in let z' : ◌≡◌ {A = ℕ} 0 1 = cc in absurd (omega arith)
        go false e = is ∙ rw e

    carry_weight : (F : Forest S X) (i : ℕ) (q : Option ℕ) (L : State S) → at F.entries i ≡ closed_ring q L → M.cuts L.now ≡ none → weight (M.next L.now) < weight L.now
        → sum_by weight_of (carry_out M F i q L).entries < sum_by weight_of F.entries
    unfolding weight_of
    carry_weight F i q L h e l = omega (arith, sum_by_append weight_of (set F.entries i (closed_ring q (step_state M L))) (new_entry i (M.cuts L.now)), none_weight, sum_by_set weight_of F.entries i (closed_ring q (step_state M L)) ringless (at_closed F.entries i h), ap weight_of h)
      where
        none_weight : sum_by weight_of (new_entry i (M.cuts L.now)) ≡ 0
        none_weight = rw e

    inner : (f : ℕ) → ((F : Forest S X) → Every Inv F.entries → F.points ≤ lp → lp < f + F.points → Found F) → (m : ℕ) (F : Forest S X) → Every Inv F.entries → F.points ≤ lp → lp < suc f + F.points → sum_by weight_of F.entries < m → Found F
    unfolding Found
    inner f rec zero F a h k w = absurd (not-suc-le-zero w)
    inner f rec (suc m) F a h k w = go (find M F.entries) (inner f rec m)
      where
        step : (i : ℕ) (y : Accepted M lp lr F i) (d : ℕ) → M.takes y.state.now ≡ d → ((F : Forest S X) → Every Inv F.entries → F.points ≤ lp → lp < suc f + F.points → sum_by weight_of F.entries < m → Found F) → Found (step_forest M lp lr F i)
        step i y zero e on-m =
            let now : Inv y.state.now = (rw y.here at (a i)) in
            let d = falls y.state.now now y.unfinished e in
            rw y.becomes (on-m (carry_out M F i y.who y.state) (inv_carry F i y.who y.state y.here y.unfinished a) y.fits_points (omega (arith, e)) (omega (arith, carry_weight F i y.who y.state y.here d.0 d.1)))
        step i y (suc d) e on-m = rw y.becomes (rec (carry_out M F i y.who y.state) (inv_carry F i y.who y.state y.here y.unfinished a) y.fits_points (omega (arith, e)))

        try : (v : Unfinished M F.entries) → Accepted M lp lr F v.place ⊎ Refused M lp lr F v.place → ((F : Forest S X) → Every Inv F.entries → F.points ≤ lp → lp < suc f + F.points → sum_by weight_of F.entries < m → Found F) → Found F
        try v (inl y) on-m = found_later F v.place (step v.place y _ refl on-m)
        try v (inr z) on-m = inr ([], v.place, unfinished_full F v z.says)

        go : AllDone M F.entries ⊎ Unfinished M F.entries → ((F : Forest S X) → Every Inv F.entries → F.points ≤ lp → lp < suc f + F.points → sum_by weight_of F.entries < m → Found F) → Found F
        go (inl b) on-m = inl ([], b)
        go (inr v) on-m = try v (view M lp lr F v.place) on-m

    outer : (f : ℕ) (F : Forest S X) → Every Inv F.entries → F.points ≤ lp → lp < f + F.points → Found F
    outer zero F a h k = absurd (omega arith)
    outer (suc f) F a h k = inner f (outer f) (suc (sum_by weight_of F.entries)) F a h k (omega arith)

    -- the dichotomy
    pub dichotomy : (F : Forest S X) → Every Inv F.entries → F.points ≤ lp → length F.entries ≤ lr → ForestFits M lp lr F ⊎ ForestNeverEnds M lp lr F
    unfolding Found
    dichotomy F a h k = go (outer (suc lp) F a h (omega arith))
      where
        go : Found F → ForestFits M lp lr F ⊎ ForestNeverEnds M lp lr F
        go (inl r) = inl (fits_of_end M lp lr F r.0 h k r.1)
        go (inr r) = inr (never_of_full M lp lr F r.0 r.1 h k r.2)
