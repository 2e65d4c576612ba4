-- The crossing test is false where two of its four points are one place, so a crossing's points are four places.
use mathlib.Core.Path.{◌≡◌, refl, sym, ap, ◌∙◌}
use mathlib.Core.Bool.{Bool, true, false, not, cond, ◌&&◌, true≢false}
use mathlib.Core.List.{List, [], ◌∷◌}
use borrow.Author.Tests.{le-ltb}
use native.Mathlib.Nat.{le_refl}
use lib.IntN.{ℤ, pos, negsuc}
use lib.Signed.{lt_z}
use Rattle.exact.specs.Equal.{eq_z}
use Rattle.exact.proofs.Size.{eq_eq_z}
use Rattle.exact.proofs.Poly.{Term, var, num, ◌:-◌, ◌:*◌, solve}
use Rattle.geometry.specs.declared.Point.{Point}
use Rattle.geometry.specs.Plane.{ground, same_point, divisor, along_first, along_second, strictly_within, segments_intersect}
use Rattle.geometry.proofs.Points.{same_false}

-- ---- the tests of one number
within_zero : (t cp : ℤ) → t ≡ pos 0 → strictly_within t cp ≡ false
unfolding strictly_within
within_zero t cp e = rw e

less_itself : (z : ℤ) → lt_z z z ≡ false
less_itself (pos n) = le-ltb n n (le_refl n)
less_itself (negsuc n) = le-ltb n n (le_refl n)

within_itself : (t cp : ℤ) → t ≡ cp → strictly_within t cp ≡ false
unfolding strictly_within
within_itself t cp e = rw (e, less_itself cp) (go (lt_z (pos 0) cp) (lt_z cp (pos 0)))
  where
    go : (a b : Bool) → cond a false (cond b false false) ≡ false
    go true b = refl
    go false true = refl
    go false false = refl

and_false : (b : Bool) → (b && false) ≡ false
and_false true = refl
and_false false = refl

module _ (a b c d : Point) where
  no_divisor : divisor a b c d ≡ pos 0 → segments_intersect a b c d ≡ false
  unfolding segments_intersect
  no_divisor e = rw (eq_eq_z (divisor a b c d) (pos 0) e)

  no_first : strictly_within (along_first a b c d) (divisor a b c d) ≡ false → segments_intersect a b c d ≡ false
  unfolding segments_intersect
  no_first e = rw e (and_false (not (eq_z (divisor a b c d) (pos 0))))

  no_second : strictly_within (along_second a b c d) (divisor a b c d) ≡ false → segments_intersect a b c d ≡ false
  unfolding segments_intersect
  no_second e = rw (e, and_false (strictly_within (along_first a b c d) (divisor a b c d))) (and_false (not (eq_z (divisor a b c d) (pos 0))))

-- ---- two of the four points are one
-- the three cross products as terms
abbrev divisor_t : Term → Term → Term → Term → Term → Term → Term → Term → Term
divisor_t ax ay bx by cx cy dx dy = (by :- ay) :* (dx :- cx) :- (dy :- cy) :* (bx :- ax)

abbrev first_t : Term → Term → Term → Term → Term → Term → Term
first_t ax ay cx cy dx dy = (ax :- cx) :* (dy :- cy) :- (ay :- cy) :* (dx :- cx)

abbrev second_t : Term → Term → Term → Term → Term → Term → Term
second_t ax ay bx by cx cy = (ax :- cx) :* (by :- ay) :- (ay :- cy) :* (bx :- ax)

module _ (a b c : Point) where
  zs : List ℤ
  zs = a.x ∷ a.y ∷ b.x ∷ b.y ∷ c.x ∷ c.y ∷ []

  pub first_empty : segments_intersect a a b c ≡ false
  unfolding zs
  first_empty = no_divisor a a b c (solve zs (divisor_t (var 0) (var 1) (var 0) (var 1) (var 2) (var 3) (var 4) (var 5)) (num (pos 0)) refl)

  pub second_empty : segments_intersect a b c c ≡ false
  unfolding zs
  second_empty = no_divisor a b c c (solve zs (divisor_t (var 0) (var 1) (var 2) (var 3) (var 4) (var 5) (var 4) (var 5)) (num (pos 0)) refl)

  pub starts_meet : segments_intersect a b a c ≡ false
  unfolding zs
  starts_meet = no_first a b a c (within_zero (along_first a b a c) (divisor a b a c) (solve zs (first_t (var 0) (var 1) (var 0) (var 1) (var 4) (var 5)) (num (pos 0)) refl))

  pub start_meets_end : segments_intersect a b c a ≡ false
  unfolding zs
  start_meets_end = no_first a b c a (within_zero (along_first a b c a) (divisor a b c a) (solve zs (first_t (var 0) (var 1) (var 4) (var 5) (var 0) (var 1)) (num (pos 0)) refl))

  pub end_meets_start : segments_intersect a b b c ≡ false
  unfolding zs
  end_meets_start = no_second a b b c (within_zero (along_second a b b c) (divisor a b b c) (solve zs (second_t (var 0) (var 1) (var 2) (var 3) (var 2) (var 3)) (num (pos 0)) refl))

  pub ends_meet : segments_intersect a b c b ≡ false
  unfolding zs
  ends_meet =
      no_second a b c b
      (within_itself (along_second a b c b) (divisor a b c b)
      (solve zs (second_t (var 0) (var 1) (var 2) (var 3) (var 4) (var 5)) (divisor_t (var 0) (var 1) (var 2) (var 3) (var 4) (var 5) (var 2) (var 3)) refl))

-- the four points are four places
pub record Apart (a b c d : Point) : Type 0 where
  pub first : same_point a b ≡ false
  pub second : same_point c d ≡ false
  pub starts : same_point a c ≡ false
  pub start_end : same_point a d ≡ false
  pub end_start : same_point b c ≡ false
  pub ends : same_point b d ≡ false

-- the test sees places only
on_ground_lem : (a b c d : Point) → segments_intersect a b c d ≡ segments_intersect (ground a) (ground b) (ground c) (ground d)
unfolding segments_intersect
on_ground_lem a b c d = refl

pub crossing_apart : (a b c d : Point) → segments_intersect a b c d ≡ true → Apart a b c d
crossing_apart a b c d h =
    let A : Point = ground a in
    let B : Point = ground b in
    let C : Point = ground c in
    let D : Point = ground d in
    record {
      first = same_false a b (λ e. no (ap (λ (p : Point). segments_intersect A p C D) (sym e) ∙ first_empty A C D));
      second = same_false c d (λ e. no (ap (λ (p : Point). segments_intersect A B C p) (sym e) ∙ second_empty A B C));
      starts = same_false a c (λ e. no (ap (λ (p : Point). segments_intersect A B p D) (sym e) ∙ starts_meet A B D));
      start_end = same_false a d (λ e. no (ap (λ (p : Point). segments_intersect A B C p) (sym e) ∙ start_meets_end A B C));
      end_start = same_false b c (λ e. no (ap (λ (p : Point). segments_intersect A B p D) (sym e) ∙ end_meets_start A B D));
      ends = same_false b d (λ e. no (ap (λ (p : Point). segments_intersect A B C p) (sym e) ∙ ends_meet A B C));
    }
  where
    no : segments_intersect (ground a) (ground b) (ground c) (ground d) ≡ false → ⊥
    no e = true≢false (sym h ∙ on_ground_lem a b c d ∙ e)
