-- Laws of a walk round a ring, in either direction.
use Prim.Native.Nat.{ℕ, zero, suc, ◌<◌}
use mathlib.Core.Path.{◌≡◌, refl, sym, ap, ◌∙◌, subst}
use mathlib.Core.Logic.{◌≢◌}
use mathlib.Core.Bool.{Bool, true, false, cond, not}
use mathlib.Core.List.{List, [], ◌∷◌, ◌++◌}
use native.Mathlib.Omega.{arith}
use lib.Dec.{eqb}
use lib.ListN.{length}
use borrow.Author.Tests.{eq-eqb, ne_eqb}
use Rattle.rings.specs.Count.{occ}
use Rattle.rings.specs.Links.{All, Seg}
use Rattle.rings.specs.Walk.{run, walk}
use Rattle.rings.specs.Whole.{Whole}
use Rattle.rings.proofs.Counting.{apart, all_in, pigeon, one_here}
use Rattle.store.specs.Field.{pt, NEXT, PREV}
use Rattle.store.specs.Words.{Store, view}
use Rattle.store.specs.Sound.{pts}
use Rattle.store.specs.Good.{PointIn}
use Rattle.paths.specs.Walking.{link_of, start_from, Readable, Round, Ahead, to_go, Going}

-- the two directions
pub link_back : (s : Store) (rev : Bool) (k r : ℕ) → rev ≡ true → r ≡ s (pt PREV) k → r ≡ link_of s rev k
link_back s rev k r e f = rw e f

pub link_on : (s : Store) (rev : Bool) (k r : ℕ) → rev ≡ false → r ≡ s (pt NEXT) k → r ≡ link_of s rev k
link_on s rev k r e f = rw e f

pub start_first : (s : Store) (rev : Bool) (f : ℕ) → rev ≡ true → f ≡ start_from s rev f
start_first s rev f e = rw e

pub start_next : (s : Store) (rev : Bool) (f r : ℕ) → rev ≡ false → r ≡ s (pt NEXT) f → r ≡ start_from s rev f
start_next s rev f r e g = rw e g

-- the points of a ring but the first
unfoldable pub others_of : (ℕ → ℕ) → ℕ → List ℕ
others_of n a = cond (eqb (n a) a) [] (run n a 2047 (n a))

pub walk_is : (n : ℕ → ℕ) (a : ℕ) → walk n a ≡ a ∷ others_of n a
unfolding run others_of
walk_is n a = refl

ahead_seg : (n p : ℕ → ℕ) (stop x : ℕ) (l : List ℕ) → Seg n p (x ∷ l ++ (stop ∷ [])) → occ stop l ≡ 0 → Ahead n stop (n x) l
ahead_seg n p stop x [] s o = s.0
ahead_seg n p stop x (y ∷ l) s o = (s.0, (apart stop (y ∷ l) o).0, ahead_seg n p stop y l s.2 (omega arith))

module _ (n : ℕ → ℕ) (stop : ℕ) where
  to_go_is : (f q : ℕ) (l : List ℕ) → Ahead n stop q l → length l < f → to_go n stop f q ≡ length l
  unfolding to_go
  to_go_is zero q l a h = absurd (omega arith)
  to_go_is (suc f) q [] a h = rw (eq-eqb q stop a)
  to_go_is (suc f) q (x ∷ l) a h = rw (a.0, ne_eqb x stop a.1, to_go_is f (n x) l a.2 (omega arith))

  ahead_less : (q : ℕ) (l : List ℕ) → Ahead n stop q l → length l < 2048 → q ≢ stop → to_go n stop 2048 (n q) < to_go n stop 2048 q
  ahead_less q [] a h d = absurd (d a)
  ahead_less q (x ∷ l) a h d = rw a.0 (omega (arith, to_go_is 2048 x (x ∷ l) (refl, a.1, a.2) h, to_go_is 2048 (n x) l a.2 (omega arith)))

module _ (w : List ℕ) (rev : Bool) (a : ℕ) where
  others : List ℕ
  others = others_of (link_of (view w) rev) a

  pub round_here : Round w rev a → Readable w a
  round_here r =
      let i : PointIn (view w) a = r.points_in_lem a (rw (walk_is (link_of (view w) rev) a) (omega (arith, one_here a))) in
      record { long = r.long; low = omega (arith, i.below, r.few); here = i }

  pub round_short : Round w rev a → length (others_of (link_of (view w) rev) a) < 2048
  round_short r =
      let n : ℕ → ℕ = link_of (view w) rev in
      let h : Whole n (link_of (view w) (not rev)) (pts (view w)) (a ∷ others_of n a) = subst (Whole n (link_of (view w) (not rev)) (pts (view w))) (walk_is n a) r.whole in
      omega (arith, pigeon (pts (view w)) (a ∷ others_of n a) h.once h.below, r.few)

  -- a walk begins at the second point
  pub going_begins : (q : ℕ) (Q : List ℕ → Type 0) → Round w rev a → q ≡ link_of (view w) rev a → Q (others_of (link_of (view w) rev) a) → Going w rev a q Q
  unfolding others
  going_begins q Q r e f =
      let n : ℕ → ℕ = link_of (view w) rev in
      let h : Whole n (link_of (view w) (not rev)) (pts (view w)) (a ∷ others) = subst (Whole n (link_of (view w) (not rev)) (pts (view w))) (walk_is n a) r.whole in
      record {
        todo = others;
        ahead = rw e (ahead_seg n (link_of (view w) (not rev)) a a others h.linked (omega (arith, h.once a, one_here a)));
        points_in_lem = all_in (PointIn (view w)) others (λ k o. r.points_in_lem k (rw (walk_is n a) (omega arith)));
        short = round_short r;
        says = f;
      }

module _ (w : List ℕ) (rev : Bool) (stop q : ℕ) where
  pub going_here : (Q : List ℕ → Type 0) → Going w rev stop q Q → q ≢ stop → PointIn (view w) q
  going_here Q g d = go g.todo g.ahead g.points_in_lem
    where
      go : (l : List ℕ) → Ahead (link_of (view w) rev) stop q l → All (PointIn (view w)) l → PointIn (view w) q
      go [] a i = absurd (d a)
      go (x ∷ l) a i = subst (PointIn (view w)) (sym a.0) i.0

  pub going_on : (Q R : List ℕ → Type 0) (p : ℕ) → Going w rev stop q Q → q ≢ stop → p ≡ link_of (view w) rev q → ((l : List ℕ) → Q (q ∷ l) → R l) → Going w rev stop p R
  going_on Q R p g d e f = go g.todo g.ahead g.points_in_lem g.short g.says
    where
      go : (l : List ℕ) → Ahead (link_of (view w) rev) stop q l → All (PointIn (view w)) l → length l < 2048 → Q l → Going w rev stop p R
      go [] a i h s = absurd (d a)
      go (x ∷ l) a i h s =
          record {
            todo = l;
            ahead = rw (e ∙ ap (link_of (view w) rev) a.0) a.2;
            points_in_lem = i.1;
            short = omega arith;
            says = f l (subst (λ (y : ℕ). Q (y ∷ l)) (sym a.0) s);
          }

  pub going_ends : (Q : List ℕ → Type 0) → Going w rev stop q Q → q ≡ stop → Q []
  going_ends Q g e = go g.todo g.ahead g.says
    where
      go : (l : List ℕ) → Ahead (link_of (view w) rev) stop q l → Q l → Q []
      go [] a s = s
      go (x ∷ l) a s = absurd (a.1 (sym a.0 ∙ e))

  pub going_less : (Q : List ℕ → Type 0) (p : ℕ) → Going w rev stop q Q → q ≢ stop → p ≡ link_of (view w) rev q → to_go (link_of (view w) rev) stop 2048 p < to_go (link_of (view w) rev) stop 2048 q
  going_less Q p g d e = rw e (ahead_less (link_of (view w) rev) stop q g.todo g.ahead g.short d)
