-- Segments made joins leave the words behind the live block: a copy goes to the next free place, between two points.
use Prim.Native.Nat.{ℕ, zero, suc, ◌+◌, ◌<◌}
use mathlib.Core.Path.{◌≡◌, refl}
use mathlib.Core.Logic.{◌≢◌}
use mathlib.Core.Bool.{Bool, true, false, cond}
use mathlib.Core.List.{List, map}
use native.Mathlib.Omega.{arith}
use lib.Dec.{ltb, eqb}
use lib.ListN.{get_or, set}
use borrow.Author.Tests.{ltb-true, eqb-false}
use Rattle.std.proofs.Common.{Some, None}
use Rattle.job.specs.Limits as limit
use Rattle.store.specs.Field.{NONE}
use Rattle.store.specs.Words.{view, on_words}
use Rattle.store.specs.Named.{points_of}
use Rattle.primitives.specs.Primitive.{Taken, taken, after_writes, before_writes, duplicate_op}
use Rattle.primitives.specs.Beside.{Beside}
use Rattle.joins.specs.Needs as goal
use Rattle.converting.specs.Make.{Made, made, second_at, first_at, make_join, Out, out, with_lefts, made_of, apart_of, first_one, second_one, join_pair, moved_pair, pair_of, and_then, inner_from, outer_from, sorted_segments, pairs_of, convert_horz_segs_to_joins}
use Rattle.converting.specs.Needs.{Making, Pairing, Overlapping, PairAt, Converting}
use Rattle.converting.proofs.Doubling.{Doubles, beside, doubles}
use Rattle.converting.proofs.Making.{making_point, pair_overlaps, making_on, making_back, PairingOf, pair_kept}
use Rattle.converting.proofs.Looping.{inner_kept}
use Rattle.converting.proofs.Converting.{converting_pairing}
use Rattle.sorting.specs.declared.HorzSegment.{HorzSegment}
use Rattle.opening.proofs.BehindReading.{RestSame, writes_behind}

-- the words behind the live block are `rest`
module _ (rest : List ℕ) where
  -- ---- the segments: a copy goes to the next free place, between two points

  abbrev TakenBehind : Taken → Type 0
  TakenBehind (taken r w) = RestSame rest w

  abbrev pub MadeBehind : Made → Type 0
  MadeBehind (made r w js) = RestSame rest w

  abbrev OutBehind : Out → Type 0
  OutBehind (out r w ls js) = RestSame rest w

  double_behind : (w : List ℕ) (p : ℕ) (after : Bool) → goal.Point w p → RestSame rest w → TakenBehind (duplicate_op w p after)
  unfolding duplicate_op
  double_behind w p after t z = go (ltb (points_of w) limit.POINTS) after refl
    where
      b : Beside w p
      b = beside w p t

      go : (m s : Bool) → ltb (points_of w) limit.POINTS ≡ m → TakenBehind (cond m (taken (Some (points_of w)) (cond s (on_words w (after_writes (view w) p)) (on_words w (before_writes (view w) p)))) (taken None w))
      go true true e =
          let h : points_of w < limit.POINTS = ltb-true _ _ e in
          writes_behind rest w (after_writes (view w) p) (omega arith, (h, (h, (h, (h, (h, (h, (b.here, (b.next, tt))))))))) z
      go true false e =
          let h : points_of w < limit.POINTS = ltb-true _ _ e in
          writes_behind rest w (before_writes (view w) p) (omega arith, (h, (h, (h, (h, (h, (h, (b.prev, (b.here, tt))))))))) z
      go false s e = z

  make_behind : (w js : List ℕ) (m a b : ℕ) → Making w js m a b → RestSame rest w → MadeBehind (make_join w js m a b)
  unfolding make_join
  make_behind w js m a b t z = go (duplicate_op w a true) (doubles w a true p) (double_behind w a true p z)
    where
      p : goal.Point w a
      p = making_point w js m a b t

      next : (k : ℕ) (c : Taken) → TakenBehind c → MadeBehind (second_at js m k c)
      next k (taken (Some j) y) q = q
      next k (taken None y) q = q

      go : (c : Taken) → Doubles w c → TakenBehind c → MadeBehind (first_at js m b c)
      go (taken (Some k) x) g q = next k (duplicate_op x b false) (double_behind x b false (record { ready = g.keeps.ready; low = omega (arith, g.keeps.more, t.two) }) q)
      go (taken None x) g q = q

  pair_behind : (w ls rs fs js : List ℕ) (m i j : ℕ) → PairAt w ls rs fs js m i j → RestSame rest w → OutBehind (pair_of rs fs js i j w ls m)
  unfolding pair_of moved_pair join_pair
  pair_behind w ls rs fs js m i j t z = go (apart_of w ls rs fs i j) refl
    where
      left : (l : List ℕ) (c : Made) → MadeBehind c → OutBehind (with_lefts l c)
      left l (made r x js') q = q

      side : (o : Overlapping w ls rs fs i j) (on : Bool) → OutBehind (with_lefts (set (set ls i (first_one w ls fs i j)) j (second_one w ls fs i j))
          (cond on (make_join w js m (first_one w ls fs i j) (second_one w ls fs i j)) (make_join w js m (second_one w ls fs i j) (first_one w ls fs i j))))
      side o true = left _ (make_join w js m (first_one w ls fs i j) (second_one w ls fs i j)) (make_behind w js m (first_one w ls fs i j) (second_one w ls fs i j) (making_on w ls rs fs i j o js m t.pairing) z)
      side o false = left _ (make_join w js m (second_one w ls fs i j) (first_one w ls fs i j)) (make_behind w js m (second_one w ls fs i j) (first_one w ls fs i j) (making_back w ls rs fs i j o js m t.pairing) z)

      go : (y : Bool) → apart_of w ls rs fs i j ≡ y → OutBehind (cond y (out (Some m) w ls js) (moved_pair w ls fs js m i j))
      go true e = z
      go false e = side (pair_overlaps w ls rs fs js m i j t e) (eqb (get_or fs i 0) 1)

  after_behind : (rs fs : List ℕ) (g : List ℕ → List ℕ → List ℕ → ℕ → Out) (c : Out) → PairingOf rs fs c → OutBehind c
      → ((x ls js : List ℕ) (k : ℕ) → Pairing x ls rs fs js k → RestSame rest x → OutBehind (g x ls js k)) → OutBehind (and_then g c)
  after_behind rs fs g (out (Some k) x ls js) p q f = f x ls js k p q
  after_behind rs fs g (out None x ls js) p q f = q

  inner_behind : (f : ℕ) (rs fs : List ℕ) (i j : ℕ) (w ls js : List ℕ) (m : ℕ) → Pairing w ls rs fs js m → get_or rs i 0 ≢ NONE → i < j → j + f ≡ limit.SEGMENTS → RestSame rest w → OutBehind (inner_from f rs fs i j w ls js m)
  unfolding inner_from
  inner_behind zero rs fs i j w ls js m p v b e z = z
  inner_behind (suc f) rs fs i j w ls js m p v b e z = go (eqb (get_or rs j 0) NONE) refl (λ x ls' js' k q u. inner_behind f rs fs i (j + 1) x ls' js' k q v (omega arith) (omega arith) u)
    where
      go : (y : Bool) → eqb (get_or rs j 0) NONE ≡ y → ((x ls' js' : List ℕ) (k : ℕ) → Pairing x ls' rs fs js' k → RestSame rest x → OutBehind (inner_from f rs fs i (j + 1) x ls' js' k)) → OutBehind (cond y (out (Some m) w ls js) (and_then (inner_from f rs fs i (j + 1)) (pair_of rs fs js i j w ls m)))
      go true d r = z
      go false d r =
          let t : PairAt w ls rs fs js m i j = record { pairing = p; before = b; low = omega arith; one = v; two = eqb-false _ _ d } in
          after_behind rs fs (inner_from f rs fs i (j + 1)) (pair_of rs fs js i j w ls m) (pair_kept w ls rs fs js m i j t) (pair_behind w ls rs fs js m i j t z) r

  outer_behind : (f : ℕ) (rs fs : List ℕ) (i : ℕ) (w ls js : List ℕ) (m : ℕ) → Pairing w ls rs fs js m → i + f ≡ limit.SEGMENTS → RestSame rest w → OutBehind (outer_from f rs fs i w ls js m)
  unfolding outer_from
  outer_behind zero rs fs i w ls js m p e z = z
  outer_behind (suc f) rs fs i w ls js m p e z = go (eqb (get_or rs i 0) NONE) refl (λ x ls' js' k q u. outer_behind f rs fs (i + 1) x ls' js' k q (omega arith) u)
    where
      go : (y : Bool) → eqb (get_or rs i 0) NONE ≡ y → ((x ls' js' : List ℕ) (k : ℕ) → Pairing x ls' rs fs js' k → RestSame rest x → OutBehind (outer_from f rs fs (i + 1) x ls' js' k)) → OutBehind (cond y (out (Some m) w ls js) (and_then (outer_from f rs fs (i + 1)) (inner_from f rs fs i (i + 1) w ls js m)))
      go true d r = z
      go false d r =
          after_behind rs fs (outer_from f rs fs (i + 1)) (inner_from f rs fs i (i + 1) w ls js m) (inner_kept f rs fs i (i + 1) w ls js m p (eqb-false _ _ d) (omega arith) (omega arith))
          (inner_behind f rs fs i (i + 1) w ls js m p (eqb-false _ _ d) (omega arith) (omega arith) z) r

  pub convert_behind : (w ps : List ℕ) (n : ℕ) (js : List ℕ) (m : ℕ) → Converting w ps n js m → RestSame rest w → MadeBehind (convert_horz_segs_to_joins w n ps js m)
  unfolding convert_horz_segs_to_joins pairs_of
  convert_behind w ps n js m t z = go (outer_from limit.SEGMENTS rs fs 0 w ls js m) (outer_behind limit.SEGMENTS rs fs 0 w ls js m (converting_pairing w ps n js m t ls rs fs refl) refl z)
    where
      ls : List ℕ
      ls = map (λ (q : HorzSegment). q.left) (sorted_segments w n ps)

      rs : List ℕ
      rs = map (λ (q : HorzSegment). q.right) (sorted_segments w n ps)

      fs : List ℕ
      fs = map (λ (q : HorzSegment). q.forward) (sorted_segments w n ps)

      go : (c : Out) → OutBehind c → MadeBehind (made_of c)
      go (out r x ls' js') q = q
