-- Laws of the path that goes round a ring: its points are counted on one walk.
use Prim.Native.Nat.{ℕ, ◌+◌, ◌≤◌, ◌<◌}
use mathlib.Core.Path.{◌≡◌, refl, sym, ap}
use mathlib.Core.Logic.{◌≢◌}
use mathlib.Core.Bool.{Bool, true, false, cond}
use mathlib.Core.List.{List, [], ◌∷◌, ◌++◌, map}
use native.Mathlib.Omega.{arith}
use lib.Dec.{leb}
use lib.ListN.{length, length-append}
use borrow.Author.Tests.{le-leb, lt-leb}
use Rattle.geometry.specs.declared.Point.{Point}
use Rattle.geometry.specs.Plane.{same_point}
use Rattle.geometry.proofs.Points.{same_as}
use Rattle.store.specs.Words.{Store, view}
use Rattle.store.specs.Good.{PointIn}
use Rattle.store.specs.Value.{preserve_collinear}
use Rattle.lone.specs.Path.{drop_equals}
use Rattle.lone.specs.Plane.{plane}
use Rattle.paths.specs.Path.{point_at}
use Rattle.paths.specs.Walking.{link_of, Readable, Round, Going, after_point, path_round, more, Counting}
use Rattle.paths.proofs.Walks.{others_of, walk_is, round_here, round_short, going_begins, going_here, going_on, going_ends}

-- the point before may stand for the last one kept: they are one place, whatever their z
drop_as : (k : Bool) (p q : Point) (l : List Point) → same_point p q ≡ true → drop_equals (plane k) p l ≡ drop_equals (plane k) q l
drop_as k p q [] e = refl
drop_as k p q (x ∷ l) e = rw (same_as x p q e, drop_as k p q l e)

-- what one point adds to a path, after the point b
abbrev pub adds : Store → ℕ → ℕ → List Point
adds s b q = cond (same_point (point_at s q) (point_at s b)) [] (point_at s q ∷ [])

pub after_more : (s : Store) (b q : ℕ) (l : List ℕ) → after_point s b (q ∷ l) ≡ adds s b q ++ after_point s q l
after_more s b q l = go (same_point (point_at s q) (point_at s b)) refl
  where
    go : (t : Bool) → same_point (point_at s q) (point_at s b) ≡ t → after_point s b (q ∷ l) ≡ cond t [] (point_at s q ∷ []) ++ after_point s q l
    go true e = rw e (sym (drop_as (preserve_collinear s) (point_at s q) (point_at s b) (map (point_at s) l) e))
    go false e = rw e

pub path_is : (s : Store) (rev : Bool) (a : ℕ) → path_round s rev a ≡ point_at s a ∷ after_point s a (others_of (link_of s rev) a)
unfolding path_round
path_is s rev a = rw (walk_is (link_of s rev) a)

-- ---- counting

length_adds : (s : Store) (b q : ℕ) → length (adds s b q) ≡ more s b q
length_adds s b q = go (same_point (point_at s q) (point_at s b))
  where
    go : (t : Bool) → length (cond t [] (point_at s q ∷ [])) ≡ cond t 0 1
    go true = refl
    go false = refl

more_le : (s : Store) (b q : ℕ) → more s b q ≤ 1
more_le s b q = go (same_point (point_at s q) (point_at s b))
  where
    go : (t : Bool) → cond t 0 1 ≤ 1
    go true = omega arith
    go false = omega arith

module _ (w : List ℕ) (rev : Bool) (a : ℕ) where
  pub counting_begins : (q : ℕ) → Round w rev a → q ≡ link_of (view w) rev a → Going w rev a q (Counting w a 1 (length (path_round (view w) rev a)))
  counting_begins q r e =
      let n : ℕ → ℕ = link_of (view w) rev in
      going_begins w rev a q (Counting w a 1 (length (path_round (view w) rev a))) r e
      (record {
        before = (round_here w rev a r).here;
        sum = omega (arith, ap length (path_is (view w) rev a));
        small = omega (arith, round_short w rev a r);
      })

  pub counting_on : (b n q d p : ℕ) → Going w rev a q (Counting w b n (length (path_round (view w) rev a))) → q ≢ a → d ≡ more (view w) b q → p ≡ link_of (view w) rev q
      → Going w rev a p (Counting w q (n + d) (length (path_round (view w) rev a)))
  counting_on b n q d p g h e f =
      going_on w rev a q (Counting w b n (length (path_round (view w) rev a))) (Counting w q (n + d) (length (path_round (view w) rev a))) p g h f
      (λ l c.
      record {
        before = going_here w rev a q (Counting w b n (length (path_round (view w) rev a))) g h;
        sum =
            omega (
              arith,
              c.sum,
              ap length (after_more (view w) b q l),
              length-append (adds (view w) b q) (after_point (view w) q l),
              length_adds (view w) b q,
            );
        small = omega (arith, c.small, more_le (view w) b q);
      })

  pub counting_fits : (b n q d : ℕ) → Going w rev a q (Counting w b n (length (path_round (view w) rev a))) → q ≢ a → d ≡ more (view w) b q → n + d ≤ 2048
  counting_fits b n q d g h e =
      omega (arith, (counting_on b n q d (link_of (view w) rev q) g h e refl).says.small)

  pub counting_here : (b n q : ℕ) → Round w rev a → Going w rev a q (Counting w b n (length (path_round (view w) rev a))) → q ≢ a → Readable w b × Readable w q
  counting_here b n q r g h = (readable g.says.before, readable (going_here w rev a q (Counting w b n (length (path_round (view w) rev a))) g h))
    where
      readable : {k : ℕ} → PointIn (view w) k → Readable w k
      readable i = record { long = r.long; low = omega (arith, i.below, r.few); here = i }

  pub counting_ends : (b n q : ℕ) → Going w rev a q (Counting w b n (length (path_round (view w) rev a))) → q ≡ a → n ≡ length (path_round (view w) rev a)
  counting_ends b n q g e = omega (arith, (going_ends w rev a q (Counting w b n (length (path_round (view w) rev a))) g e).sum)

  -- four are counted, or the walk ends with fewer
  pub four_counted : (b n q d : ℕ) → Going w rev a q (Counting w b n (length (path_round (view w) rev a))) → q ≢ a → d ≡ more (view w) b q → 3 < n + d → true ≡ leb 4 (length (path_round (view w) rev a))
  four_counted b n q d g h e l =
      let c = counting_on b n q d (link_of (view w) rev q) g h e refl in
      sym (le-leb 4 (length (path_round (view w) rev a)) (omega (arith, c.says.sum)))

  pub few_counted : (b n q : ℕ) → Going w rev a q (Counting w b n (length (path_round (view w) rev a))) → q ≡ a → n ≤ 3 → false ≡ leb 4 (length (path_round (view w) rev a))
  few_counted b n q g e l = sym (lt-leb 4 (length (path_round (view w) rev a)) (omega (arith, counting_ends b n q g e)))

-- ---- one point

pub adds_none : (s : Store) (b q : ℕ) (x y : Point) (t : Bool) → x ≡ point_at s q → y ≡ point_at s b → t ≡ same_point x y → t ≡ true → 0 ≡ more s b q
adds_none s b q x y t e f g h = rw (← e, ← f, ← g, h)

pub adds_one : (s : Store) (b q : ℕ) (x y : Point) (t : Bool) → x ≡ point_at s q → y ≡ point_at s b → t ≡ same_point x y → t ≡ false → 1 ≡ more s b q
adds_one s b q x y t e f g h = rw (← e, ← f, ← g, h)
