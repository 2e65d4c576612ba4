-- The walk that finds a ring's box, one turn at a time; and the box of a record's ring.
use Prim.Native.Nat.{ℕ, zero, suc, ◌-◌, ◌<◌, ◌≤◌}
use mathlib.Core.Path.{◌≡◌, refl, sym, ap, ◌∙◌, subst}
use mathlib.Core.Logic.{◌≢◌}
use mathlib.Core.Bool.{Bool, true, false, cond, not}
use mathlib.Core.List.{List, []}
use mathlib.Core.Option.{Option, none, some}
use native.Mathlib.Omega.{arith}
use native.Mathlib.Numerals.{sub-one}
use lib.Dec.{eqb}
use borrow.Author.Tests.{eq-eqb, ne_eqb}
use Rattle.rings.specs.Walk.{run}
use Rattle.job.specs.Limits as limit
use Rattle.geometry.specs.declared.Rect.{Rect}
use Rattle.store.specs.declared.boxed.Sides.{Sides}
use Rattle.store.specs.Field.{pt, rc, NEXT, FIRST, NONE}
use Rattle.store.specs.Words.{Store, view}
use Rattle.store.specs.Named.{next_of, first_of}
use Rattle.store.specs.Sound.{ringless}
use Rattle.store.specs.Boxes.{sides_at, rect_of, sides_of, box_at, ring_box, differs, misboxed}
use Rattle.store.specs.Needs.{Small}
use Rattle.store.proofs.Boxing.{sides_back}
use Rattle.bounds.specs.Along.{point_sides, widen_sides, widen_along, box_from, same_sides}
use Rattle.bounds.proofs.Widening.{along_means, same_means}

-- the points of the walk from p on, of f at most; none, where it is back at a
abbrev pub rest : (ℕ → ℕ) → ℕ → ℕ → ℕ → List ℕ
rest n a f p = cond (eqb p a) [] (run n a f p)

-- the box of the ring that starts at a, found along the walk
pub found : Store → ℕ → Sides
found s a = widen_along s (point_sides s a) (rest (s (pt NEXT)) a (limit.POINTS - 1) (s (pt NEXT) a))

pub from_found : (s : Store) (a : ℕ) → box_from s a ≡ some (rect_of (found s a))
unfolding box_from run found
from_found s a = ap (λ (r : Rect). some r) (along_means s (rest (s (pt NEXT)) a (limit.POINTS - 1) (s (pt NEXT) a)) (point_sides s a))

module _ (w : List ℕ) (a : ℕ) where
  pub begins : (p : ℕ) (b : Sides) → b ≡ point_sides (view w) a → p ≡ next_of w a → widen_along (view w) b (rest (next_of w) a (limit.POINTS - 1) p) ≡ found (view w) a
  unfolding found
  begins p b e g = rw (e, g)

  module _ (p : ℕ) (b : Sides) (f : ℕ) where
    pub over : f ≤ 0 → widen_along (view w) b (rest (next_of w) a f p) ≡ found (view w) a → box_from (view w) a ≡ some (rect_of b)
    unfolding run
    over h i = go f h i (eqb p a)
      where
        go : (f : ℕ) → f ≤ 0 → widen_along (view w) b (rest (next_of w) a f p) ≡ found (view w) a → (x : Bool) → box_from (view w) a ≡ some (rect_of b)
        go zero h i x = from_found (view w) a ∙ ap (λ (c : Sides). some (rect_of c)) (sym (sym (none (eqb p a)) ∙ i))
          where
            none : (x : Bool) → widen_along (view w) b (cond x [] []) ≡ b
            none true = refl
            none false = refl
        go (suc f) h i x = absurd (omega arith)

    pub back : p ≡ a → widen_along (view w) b (rest (next_of w) a f p) ≡ found (view w) a → box_from (view w) a ≡ some (rect_of b)
    back h i = from_found (view w) a ∙ ap (λ (c : Sides). some (rect_of c)) (sym (rw (eq-eqb p a h) at i))

    pub on : (c : Sides) (q : ℕ) → 0 < f → p ≢ a → c ≡ widen_sides (view w) b p → q ≡ next_of w p → widen_along (view w) b (rest (next_of w) a f p) ≡ found (view w) a
        → widen_along (view w) c (rest (next_of w) a (f - 1) q) ≡ found (view w) a
    unfolding run
    on c q z d e g i = go f z i
      where
        go : (f : ℕ) → 0 < f → widen_along (view w) b (rest (next_of w) a f p) ≡ found (view w) a → widen_along (view w) c (rest (next_of w) a (f - 1) q) ≡ found (view w) a
        go zero z i = absurd (omega arith)
        go (suc f) z i = rw (sub-one, g, e) (rw (ne_eqb p a d) at i)

    -- the same with g points to go after it
    pub onward : (c : Sides) (q g : ℕ) → suc g ≡ f → p ≢ a → c ≡ widen_sides (view w) b p → q ≡ next_of w p → widen_along (view w) b (rest (next_of w) a f p) ≡ found (view w) a
        → widen_along (view w) c (rest (next_of w) a g q) ≡ found (view w) a
    onward c q g s d e h i =
        let k : f - 1 ≡ g = omega arith in
        subst (λ (j : ℕ). widen_along (view w) c (rest (next_of w) a j q) ≡ found (view w) a) k (on c q (omega arith) d e h i)

-- ---- a record's ring

module _ (s : Store) (i : ℕ) where
  pub ring_bare : s (rc FIRST) i ≡ NONE → ring_box s i ≡ none
  unfolding ring_box
  ring_bare h = rw (eq-eqb (s (rc FIRST) i) NONE h)

  pub ring_from : s (rc FIRST) i ≢ NONE → ring_box s i ≡ box_from s (s (rc FIRST) i)
  unfolding ring_box box_from
  ring_from h = rw (ne_eqb (s (rc FIRST) i) NONE h)

  -- a ring's box is four words'
  pub ring_found : ringless s i ≡ false → ring_box s i ≡ some (rect_of (found s (s (rc FIRST) i)))
  unfolding ring_box box_from
  ring_found h = rw h (from_found s (s (rc FIRST) i))

module _ (w : List ℕ) (i a : ℕ) (e : a ≡ first_of w i) where
  pub bare_sides : a ≡ NONE → record { left = 0; top = 0; right = 0; bottom = 0 } ≡ sides_of (ring_box (view w) i)
  bare_sides h = sym (ap sides_of (ring_bare (view w) i (sym e ∙ h)))

  ringed : a ≢ NONE → (b : Sides) → box_from (view w) a ≡ some (rect_of b) → ring_box (view w) i ≡ some (rect_of b)
  ringed d b g = ring_from (view w) i (λ z. d (e ∙ z)) ∙ ap (box_from (view w)) (sym e) ∙ g

  pub ring_sides_are : a ≢ NONE → (b : Sides) → box_from (view w) a ≡ some (rect_of b) → b ≡ sides_of (ring_box (view w) i)
  ring_sides_are d b g = sym (sides_back b) ∙ ap sides_of (sym (ringed d b g))

  pub bare_not : a ≡ NONE → false ≡ misboxed w i
  unfolding misboxed
  bare_not h = sym (ap (λ (o : Option Rect). differs o (box_at w i)) (ring_bare (view w) i (sym e ∙ h)))

  pub says_misboxed : a ≢ NONE → (b c : Sides) (x : Bool) → b ≡ sides_at w i → box_from (view w) a ≡ some (rect_of c) → x ≡ same_sides c b → not x ≡ misboxed w i
  unfolding misboxed
  says_misboxed d b c x eb ec ex =
      ap not (ex ∙ ap (same_sides c) eb ∙ sym (same_means c (sides_at w i)))
      ∙ sym (ap (λ (o : Option Rect). differs o (box_at w i)) (ringed d c ec))

  pub misboxed_is : a ≢ NONE → (b c : Sides) (x : Bool) → b ≡ sides_at w i → box_from (view w) a ≡ some (rect_of c) → x ≡ not (same_sides c b) → x ≡ misboxed w i
  misboxed_is d b c x eb ec ex = ex ∙ says_misboxed d b c (same_sides c b) eb ec refl

pub none_small : Small (record { left = 0; top = 0; right = 0; bottom = 0 })
none_small = record { left = omega arith; top = omega arith; right = omega arith; bottom = omega arith }
