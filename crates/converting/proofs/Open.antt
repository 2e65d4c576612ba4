-- Segments and joins on closed rings: conversion leaves every word of the records and every open ring as it was, and its joins are of points on closed rings.
use Prim.Native.Nat.{ℕ, zero, suc, ◌+◌, ◌*◌, ◌<◌}
use mathlib.Core.Path.{◌≡◌, refl, subst}
use mathlib.Core.Logic.{◌≢◌, ◌⊎◌, inl, inr}
use mathlib.Core.Bool.{Bool, true, false, cond}
use mathlib.Core.List.{List, [], ◌∷◌, map}
use native.Mathlib.Omega.{arith}
use native.Mathlib.Decide.{ℕ_discrete}
use lib.Dec.{eqb, ltb}
use lib.ListN.{get_or, set, length, length-set}
use lib.Seq.{get_or-set_same, get_or-set_other}
use borrow.Author.Tests.{eqb-false}
use Rattle.std.proofs.Common.{Some, None}
use Rattle.store.specs.Field.{pt, REC, NONE}
use Rattle.store.specs.Words.{view}
use Rattle.store.specs.Named.{points_of}
use Rattle.store.specs.Sound.{is_open}
use Rattle.primitives.specs.Primitive.{Taken, taken, duplicate_op}
use Rattle.joins.specs.Resolve.{home_of}
use Rattle.joins.specs.Paths.{Lives}
use Rattle.joins.specs.Needs.{Point}
use Rattle.joins.proofs.Resolving.{res_same}
use Rattle.joins.proofs.Joining.{Shut}
use Rattle.sorting.specs.declared.HorzSegment.{HorzSegment}
use Rattle.segments.specs.Level.{x_of}
use Rattle.segments.specs.Needs.{Span}
use Rattle.segments.specs.Update.{valid, invalid, headed, ends_of, segment_through, claim, claim_of, segments_of}
use Rattle.segments.specs.Needs.{Listed}
use Rattle.converting.specs.Make.{Made, made, second_at, first_at, make_join, Out, out, with_lefts, apart_of, join_pair, first_one, second_one, moved_pair, pair_of, and_then, inner_from, outer_from, sorted_segments, pairs_of, made_of, convert_horz_segs_to_joins}
use Rattle.converting.specs.Needs.{Making, Pairing, Overlapping, PairAt, Converting}
use Rattle.converting.proofs.Doubling.{Copied, copied_self, copied_on, Grew, Doubles, doubles, Opens, opens}
use Rattle.converting.proofs.Making.{making_point, pair_overlaps, one_moved, two_moved, making_on, making_back, PairingOf, pair_kept}
use Rattle.converting.proofs.Looping.{inner_kept}
use Rattle.sorting.proofs.Stable.{Each, sorted_each}
use Rattle.segments.proofs.Updates.{point_at_home, ends_on, claimed, each_segment}
use Rattle.converting.proofs.Converting.{converting_pairing, sorted_256}

-- the left points of the valid segments and the points of the m joins are on closed rings
pub record Shuts (w ls rs js : List ℕ) (m : ℕ) : Type 0 where
  pub lefts : (s : ℕ) → s < 256 → get_or rs s 0 ≢ NONE → Shut (view w) (get_or ls s 0)
  pub joins : (k : ℕ) → k < 2 * m → Shut (view w) (get_or js k 0)

-- ---- two copies and their join

abbrev MadeOpen : List ℕ → ℕ → Made → Type 0
MadeOpen w m (made (Some m') x js') = Copied (view w) (view x) × ((k : ℕ) → k < 2 * m' → Shut (view x) (get_or js' k 0))
MadeOpen w m (made None x js') = Unit {0}

module _ (w js : List ℕ) (m a b : ℕ) (t : Making w js m a b) (ea : Shut (view w) a) (eb : Shut (view w) b) (p : (k : ℕ) → k < 2 * m → (get_or js k 0 < points_of w) × Shut (view w) (get_or js k 0)) where
  make_open : MadeOpen w m (make_join w js m a b)
  unfolding make_join
  make_open = go (duplicate_op w a true) (doubles w a true (making_point w js m a b t)) (opens w a true (making_point w js m a b t) ea)
    where
      next : (k : ℕ) (x : List ℕ) → Grew w x k → Copied (view w) (view x) → Shut (view x) k → (c : Taken) → Doubles x c → Opens x c → MadeOpen w m (second_at js m k c)
      next k x g o s (taken (Some j) y) h u = (copied_on (view w) (view x) (view y) o u.0, λ z l. at z l (ℕ_discrete z (2 * m + 1)) (ℕ_discrete z (2 * m)))
        where
          fits : 2 * m + 1 < length js
          fits = omega (arith, t.few, t.room, g.points, h.points, h.keeps.ready.resolved.few_points)

          at : (z : ℕ) → z < 2 * (m + 1) → Dec (z ≡ 2 * m + 1) → Dec (z ≡ 2 * m) → Shut (view y) (get_or (set (set js (2 * m) k) (2 * m + 1) j) z 0)
          at z l (yes e) f = rw (e, get_or-set_same (set js (2 * m) k) (2 * m + 1) j 0 (omega (arith, fits, length-set js (2 * m) k))) u.1
          at z l (no d) (yes f) = rw (get_or-set_other (set js (2 * m) k) (2 * m + 1) z j 0 d, f, get_or-set_same js (2 * m) k 0 (omega (arith, fits))) (u.0.opened.shut k (omega (arith, g.is, g.points)) s)
          at z l (no d) (no f) =
              let q = p z (omega arith) in
              rw (get_or-set_other (set js (2 * m) k) (2 * m + 1) z j 0 d, get_or-set_other js (2 * m) z k 0 f) (u.0.opened.shut (get_or js z 0) (omega (arith, q.0, g.points)) (o.opened.shut (get_or js z 0) q.0 q.1))
      next k x g o s (taken None y) h u = tt

      go : (c : Taken) → Doubles w c → Opens w c → MadeOpen w m (first_at js m b c)
      go (taken (Some k) x) g o =
          let pb : Point x b = record { ready = g.keeps.ready; low = omega (arith, g.keeps.more, t.two) } in
          next k x g o.0 o.1 (duplicate_op x b false) (doubles x b false pb) (opens x b false pb (o.0.opened.shut b t.two eb))
      go (taken None x) g o = tt

-- ---- a pair

abbrev pub OutOpen : List ℕ → List ℕ → Out → Type 0
OutOpen w rs (out (Some m) x ls js) = Copied (view w) (view x) × Shuts x ls rs js m
OutOpen w rs (out None x ls js) = Unit {0}

-- a point of the same ring
with_it : (w : List ℕ) (i p q : ℕ) → Lives (view w) i p → Lives (view w) i q → Shut (view w) p → Shut (view w) q
with_it w i p q a b s j y = subst (λ (x : ℕ). is_open (view w) x ≡ false) (res_same (view w) (view w (pt REC) q) i j b.res y.res) (s i a)

module _ (w ls rs fs js : List ℕ) (m i j : ℕ) (t : PairAt w ls rs fs js m i j) (s : Shuts w ls rs js m) where
  module _ (o : Overlapping w ls rs fs i j) where
    bound : (z : ℕ) → z < 256 → get_or rs z 0 ≢ NONE → get_or ls z 0 < points_of w
    bound z h d = go (t.pairing.span z h)
      where
        go : (get_or rs z 0 ≡ NONE) ⊎ Span w (get_or ls z 0) (get_or rs z 0) → get_or ls z 0 < points_of w
        go (inl e) = absurd (d e)
        go (inr q) = q.same.one.bound

    on_one : Shut (view w) (first_one w ls fs i j)
    on_one =
        let q = o.overlap.one.same in
        let r = (one_moved w ls rs fs i j o).same in
        with_it w r.at (get_or rs i 0) (first_one w ls fs i j) r.two r.one (with_it w q.at (get_or ls i 0) (get_or rs i 0) q.one q.two (s.lefts i (omega (arith, t.before, t.low)) t.one))

    on_two : Shut (view w) (second_one w ls fs i j)
    on_two =
        let q = o.overlap.two.same in
        let r = (two_moved w ls rs fs i j o).same in
        with_it w r.at (get_or rs j 0) (second_one w ls fs i j) r.two r.one (with_it w q.at (get_or ls j 0) (get_or rs j 0) q.one q.two (s.lefts j t.low t.two))

    left_of : (c : Made) → MadeOpen w m c → OutOpen w rs (with_lefts (set (set ls i (first_one w ls fs i j)) j (second_one w ls fs i j)) c)
    left_of (made (Some m') x js') p = (p.0, record { lefts = λ z h d. at z h d (ℕ_discrete z j) (ℕ_discrete z i); joins = p.1 })
      where
        at : (z : ℕ) → z < 256 → get_or rs z 0 ≢ NONE → Dec (z ≡ j) → Dec (z ≡ i) → Shut (view x) (get_or (set (set ls i (first_one w ls fs i j)) j (second_one w ls fs i j)) z 0)
        at z h d (yes e) f =
            rw (e, get_or-set_same (set ls i (first_one w ls fs i j)) j (second_one w ls fs i j) 0 (omega (arith, o.low, o.lefts, length-set ls i (first_one w ls fs i j))))
            (p.0.opened.shut (second_one w ls fs i j) (two_moved w ls rs fs i j o).same.one.bound on_two)
        at z h d (no e) (yes f) =
            rw (get_or-set_other (set ls i (first_one w ls fs i j)) j z (second_one w ls fs i j) 0 e, f, get_or-set_same ls i (first_one w ls fs i j) 0 (omega (arith, o.low, o.before, o.lefts)))
            (p.0.opened.shut (first_one w ls fs i j) (one_moved w ls rs fs i j o).same.one.bound on_one)
        at z h d (no e) (no f) =
            rw (get_or-set_other (set ls i (first_one w ls fs i j)) j z (second_one w ls fs i j) 0 e, get_or-set_other ls i z (first_one w ls fs i j) 0 f)
            (p.0.opened.shut (get_or ls z 0) (bound z h d) (s.lefts z h d))
    left_of (made None x js') p = tt

    named : (k : ℕ) → k < 2 * m → (get_or js k 0 < points_of w) × Shut (view w) (get_or js k 0)
    named k h = (t.pairing.named k h, s.joins k h)

    side : (on : Bool) → OutOpen w rs (with_lefts (set (set ls i (first_one w ls fs i j)) j (second_one w ls fs i j))
        (cond on (make_join w js m (first_one w ls fs i j) (second_one w ls fs i j)) (make_join w js m (second_one w ls fs i j) (first_one w ls fs i j))))
    side true = left_of (make_join w js m (first_one w ls fs i j) (second_one w ls fs i j)) (make_open w js m (first_one w ls fs i j) (second_one w ls fs i j) (making_on w ls rs fs i j o js m t.pairing) on_one on_two named)
    side false = left_of (make_join w js m (second_one w ls fs i j) (first_one w ls fs i j)) (make_open w js m (second_one w ls fs i j) (first_one w ls fs i j) (making_back w ls rs fs i j o js m t.pairing) on_two on_one named)

  pair_open : OutOpen w rs (pair_of rs fs js i j w ls m)
  unfolding pair_of moved_pair join_pair
  pair_open = go (apart_of w ls rs fs i j) refl
    where
      go : (z : Bool) → apart_of w ls rs fs i j ≡ z → OutOpen w rs (cond z (out (Some m) w ls js) (moved_pair w ls fs js m i j))
      go true e = (copied_self (view w), s)
      go false e = side (pair_overlaps w ls rs fs js m i j t e) (eqb (get_or fs i 0) 1)

-- ---- the loops

open_on : (w x rs : List ℕ) (c : Out) → Copied (view w) (view x) → OutOpen x rs c → OutOpen w rs c
open_on w x rs (out (Some m) y ls js) o p = (copied_on (view w) (view x) (view y) o p.0, p.1)
open_on w x rs (out None y ls js) o p = tt

after : (w rs fs : List ℕ) (g : List ℕ → List ℕ → List ℕ → ℕ → Out) (c : Out) → PairingOf rs fs c → OutOpen w rs c
    → ((x ls js : List ℕ) (k : ℕ) → Pairing x ls rs fs js k → Shuts x ls rs js k → OutOpen x rs (g x ls js k)) → OutOpen w rs (and_then g c)
after w rs fs g (out (Some k) x ls js) q u r = open_on w x rs (g x ls js k) u.0 (r x ls js k q u.1)
after w rs fs g (out None x ls js) q u r = tt

inner_open : (f : ℕ) (rs fs : List ℕ) (i j : ℕ) (w ls js : List ℕ) (m : ℕ) → Pairing w ls rs fs js m → get_or rs i 0 ≢ NONE → i < j → j + f ≡ 256 → Shuts w ls rs js m → OutOpen w rs (inner_from f rs fs i j w ls js m)
unfolding inner_from
inner_open zero rs fs i j w ls js m p v b e s = (copied_self (view w), s)
inner_open (suc f) rs fs i j w ls js m p v b e s = go (eqb (get_or rs j 0) NONE) refl (λ x ls' js' k q u. inner_open f rs fs i (j + 1) x ls' js' k q v (omega arith) (omega arith) u)
  where
    go : (z : Bool) → eqb (get_or rs j 0) NONE ≡ z → ((x ls' js' : List ℕ) (k : ℕ) → Pairing x ls' rs fs js' k → Shuts x ls' rs js' k → OutOpen x rs (inner_from f rs fs i (j + 1) x ls' js' k)) → OutOpen w rs (cond z (out (Some m) w ls js) (and_then (inner_from f rs fs i (j + 1)) (pair_of rs fs js i j w ls m)))
    go true d r = (copied_self (view w), s)
    go false d r =
        let t : PairAt w ls rs fs js m i j = record { pairing = p; before = b; low = omega arith; one = v; two = eqb-false _ _ d } in
        after w rs fs (inner_from f rs fs i (j + 1)) (pair_of rs fs js i j w ls m) (pair_kept w ls rs fs js m i j t) (pair_open w ls rs fs js m i j t s) r

pub outer_open : (f : ℕ) (rs fs : List ℕ) (i : ℕ) (w ls js : List ℕ) (m : ℕ) → Pairing w ls rs fs js m → i + f ≡ 256 → Shuts w ls rs js m → OutOpen w rs (outer_from f rs fs i w ls js m)
unfolding outer_from
outer_open zero rs fs i w ls js m p e s = (copied_self (view w), s)
outer_open (suc f) rs fs i w ls js m p e s = go (eqb (get_or rs i 0) NONE) refl (λ x ls' js' k q u. outer_open f rs fs (i + 1) x ls' js' k q (omega arith) u)
  where
    go : (z : Bool) → eqb (get_or rs i 0) NONE ≡ z → ((x ls' js' : List ℕ) (k : ℕ) → Pairing x ls' rs fs js' k → Shuts x ls' rs js' k → OutOpen x rs (outer_from f rs fs (i + 1) x ls' js' k)) → OutOpen w rs (cond z (out (Some m) w ls js) (and_then (outer_from f rs fs (i + 1)) (inner_from f rs fs i (i + 1) w ls js m)))
    go true d r = (copied_self (view w), s)
    go false d r =
        after w rs fs (outer_from f rs fs (i + 1)) (inner_from f rs fs i (i + 1) w ls js m) (inner_kept f rs fs i (i + 1) w ls js m p (eqb-false _ _ d) (omega arith) (omega arith))
        (inner_open f rs fs i (i + 1) w ls js m p (eqb-false _ _ d) (omega arith) (omega arith) s) r

-- ---- the segments

-- a segment that is struck out, or whose left point is on a closed ring
abbrev Is-shut : List ℕ → HorzSegment → Type 0
Is-shut w r = (r.right ≡ NONE) ⊎ Shut (view w) r.left

headed_shut : (w : List ℕ) (op p n : ℕ) → Shut (view w) op → Shut (view w) p → Shut (view w) n → Shut (view w) (headed w op p n).left
unfolding headed
headed_shut w op p n a b c = go (eqb (x_of w p) (x_of w n)) (ltb (x_of w p) (x_of w n))
  where
    go : (t u : Bool) → Shut (view w) (cond t (invalid op 1) (cond u (valid w p n 1) (valid w n p 0))).left
    go true u = a
    go false true = b
    go false false = c

through_shut : (w : List ℕ) (op : ℕ) → Point w op → Shut (view w) op → Shut (view w) (segment_through w op).left
unfolding segment_through
through_shut w op t s =
    let h = point_at_home w op (home_of w op) t refl in
    let e = ends_on w op (home_of w op) h in
    headed_shut w op (ends_of w op (home_of w op)).back (ends_of w op (home_of w op)).ahead s (with_it w (home_of w op) op (ends_of w op (home_of w op)).back h.here e.back s) (with_it w (home_of w op) op (ends_of w op (home_of w op)).ahead h.here e.ahead s)

claim_shut : (w ms : List ℕ) (g : HorzSegment) → Shut (view w) g.left → Shut (view w) (claimed (claim_of ms g)).left
unfolding claim_of
claim_shut w ms g s = go (eqb g.right NONE) (eqb (get_or ms g.left 0) 0)
  where
    go : (t u : Bool) → Shut (view w) (claimed (cond t (claim g ms) (cond u (claim g (set ms g.left 1)) (claim (invalid g.left g.forward) ms)))).left
    go true u = s
    go false true = s
    go false false = s

sorted_shut : (w : List ℕ) (n : ℕ) (ps : List ℕ) → Listed w n ps → ((k : ℕ) → k < n → Shut (view w) (get_or ps k 0)) → Each (Is-shut w) (sorted_segments w n ps)
unfolding sorted_segments
sorted_shut w n ps t s =
    sorted_each (Is-shut w) (segments_of w n ps)
    (each_segment (Is-shut w) w n ps (λ k xs h. inr (claim_shut w xs (segment_through w (get_or ps k 0)) (through_shut w (get_or ps k 0) (record { ready = t.ready; low = t.point k h }) (s k h)))) (inl refl))

shut_at : (w : List ℕ) (R : List HorzSegment) → Each (Is-shut w) R → (s : ℕ) → s < length R → get_or (map (λ (r : HorzSegment). r.right) R) s 0 ≢ NONE → Shut (view w) (get_or (map (λ (r : HorzSegment). r.left) R) s 0)
shut_at w [] h s l d = absurd (omega arith)
shut_at w (a ∷ R) h zero l d = go h.0
  where
    go : Is-shut w a → Shut (view w) a.left
    go (inl e) = absurd (d e)
    go (inr q) = q
shut_at w (a ∷ R) h (suc s) l d = shut_at w R h.1 s (omega arith) d

-- convert_horz_segs_to_joins of segments and joins on closed rings
abbrev pub ConvertedOpen : List ℕ → Made → Type 0
ConvertedOpen w (made (Some m) x js) = Copied (view w) (view x) × ((k : ℕ) → k < 2 * m → Shut (view x) (get_or js k 0))
ConvertedOpen w (made None x js) = Unit {0}

pub convert_open : (w ps : List ℕ) (n : ℕ) (js : List ℕ) (m : ℕ) → Converting w ps n js m → ((k : ℕ) → k < n → Shut (view w) (get_or ps k 0)) → ((k : ℕ) → k < 2 * m → Shut (view w) (get_or js k 0)) → ConvertedOpen w (convert_horz_segs_to_joins w n ps js m)
unfolding convert_horz_segs_to_joins pairs_of
convert_open w ps n js m t s e =
    go (outer_from 256 rs fs 0 w ls js m)
    (outer_open 256 rs fs 0 w ls js m (converting_pairing w ps n js m t ls rs fs refl) refl
    (record { lefts = λ z h d. shut_at w (sorted_segments w n ps) (sorted_shut w n ps t.listed s) z (omega (arith, sorted_256 w n ps)) d; joins = e }))
  where
    ls : List ℕ
    ls = map (λ (q : HorzSegment). q.left) (sorted_segments w n ps)

    rs : List ℕ
    rs = map (λ (q : HorzSegment). q.right) (sorted_segments w n ps)

    fs : List ℕ
    fs = map (λ (q : HorzSegment). q.forward) (sorted_segments w n ps)

    go : (c : Out) → OutOpen w rs c → ConvertedOpen w (made_of c)
    go (out (Some k) x ls' js') p = (p.0, p.1.joins)
    go (out None x ls' js') p = tt
