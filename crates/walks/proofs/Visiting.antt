-- A walk round a ring, one point at a time: what is left of it, and what the loop at hand says of the points yet to be visited.
use Prim.Native.Nat.{ℕ, ◌+◌, ◌*◌, ◌≤◌, ◌<◌, ◌^◌}
use mathlib.Core.Path.{◌≡◌, refl, ap, ◌∙◌, sym, subst}
use mathlib.Core.Logic.{◌≢◌}
use mathlib.Core.Bool.{cond}
use mathlib.Core.List.{List, [], ◌∷◌, ◌++◌, map}
use native.Mathlib.Omega.{arith}
use lib.Dec.{eqb}
use lib.ListN.{length}
use lib.IntN.{ℤ, pos, nat_abs, ◌+ℤ◌, +ℤ_assoc, +ℤ_idl, +ℤ_idr}
use mir.Syntax.{w64}
use mir.Val.{SFits}
use Rattle.exact.proofs.Size.{size_add, fits_size}
use Rattle.job.specs.Limits as limit
use Rattle.rings.specs.Count.{one, occ}
use Rattle.rings.specs.Links.{Seg}
use Rattle.rings.specs.Walk.{run}
use Rattle.rings.specs.Whole.{Whole}
use Rattle.rings.proofs.Counting.{one_here, occ_head, pigeon}
use Rattle.rings.proofs.Linking.{prev_is}
use Rattle.rings.proofs.Mapping.{map_last_of}
use Rattle.rings.proofs.Members.{next_on, prev_on}
use Rattle.rings.proofs.Walking.{run_seg, Seen, seen}
use Rattle.geometry.specs.declared.Point.{Point}
use Rattle.geometry.specs.Plane.{edge_area, area_from, area_outpt}
use Rattle.geometry.specs.Table.{InTable}
use Rattle.geometry.proofs.Coordinates.{edge_within}
use Rattle.store.specs.Field.{BLOCK}
use Rattle.store.specs.Words.{view}
use Rattle.store.specs.Named.{points_of, next_of, prev_of, ring_of}
use Rattle.store.specs.Sound.{recs, ring_at}
use Rattle.store.specs.Good.{PointIn, Sound}
use Rattle.store.specs.Value.{point_of}
use Rattle.primitives.specs.Beside.{Beside}
use Rattle.primitives.proofs.Coordinates.{in_table}
use Rattle.store.proofs.Soundness.{whole}
use Rattle.walks.specs.Ring.{OnRing, Edge, values_from}

-- a point of a ring of a sound store is on a ring as a walk asks it
pub on_ring_lem : (w : List ℕ) → BLOCK ≤ length w → Sound (view w) → (i : ℕ) → i < recs (view w) → (a : ℕ) → 0 < occ a (ring_at (view w) i) → OnRing w a
on_ring_lem w l s i h a o =
    let t : Seen (next_of w) (prev_of w) (points_of w) (ring_at (view w) i) a = seen (next_of w) (prev_of w) (points_of w) (ring_at (view w) i) a s.few_points (whole (view w) s i h) o in
    record {
      long = l;
      few = s.few_points;
      whole = rw t.walked t.whole;
      points_in_lem = λ k p. (s.good i h).points_in_lem k (rw (sym (t.occs k)) (rw t.walked at p));
    }

-- it starts at its point
starts : (w : List ℕ) (a : ℕ) → ring_of w a ≡ a ∷ cond (eqb (next_of w a) a) [] (run (next_of w) a 2047 (next_of w a))
unfolding run
starts w a = refl

-- what the primitives ask of a point on a ring
pub beside : (w : List ℕ) (a : ℕ) → OnRing w a → Beside w a
beside w a r =
    let o : 0 < occ a (ring_of w a) = subst (λ (l : List ℕ). 0 < occ a l) (sym (starts w a)) (occ_head a (cond (eqb (next_of w a) a) [] (run (next_of w) a 2047 (next_of w a)))) in
    record {
      long = r.long;
      here = omega (arith, r.whole.below a o, r.few);
      next = omega (arith, r.whole.below (next_of w a) (next_on (next_of w) (prev_of w) (points_of w) (ring_of w a) r.whole a o), r.few);
      prev = omega (arith, r.whole.below (prev_of w a) (prev_on (next_of w) (prev_of w) (points_of w) (ring_of w a) r.whole a o), r.few);
    }

pub record Split (w : List ℕ) (a : ℕ) : Type 0 where
  pub others : List ℕ
  pub is : ring_of w a ≡ a ∷ others
  pub ring : Whole (next_of w) (prev_of w) (points_of w) (a ∷ others)

pub split : (w : List ℕ) (a : ℕ) → OnRing w a → Split w a
split w a r = record { others = _; is = starts w a; ring = rw (starts w a) at r.whole }

-- ---- at a, on the way to stop: Q holds of a and those after it

pub record Left (w : List ℕ) (stop a : ℕ) (Q : List ℕ → Type 0) : Type 0 where
  pub todo : List ℕ
  pub seg : Seg (next_of w) (prev_of w) (a ∷ todo ++ (stop ∷ []))
  pub out : occ stop todo ≡ 0
  pub on : (k : ℕ) → 0 < occ k (a ∷ todo) → 0 < occ k (ring_of w stop)
  pub short : length todo < 2048
  pub says : Q (a ∷ todo)

-- how many are left, a among them: the loop's measure
unfoldable pub to_go : List ℕ → ℕ → ℕ → ℕ
to_go w stop a = length (run (next_of w) stop 2048 a)

begin : (w : List ℕ) (s : ℕ) (Q : List ℕ → Type 0) → OnRing w s → Q (ring_of w s) → Left w s s Q
begin w s Q r q =
    let t = split w s r in
    record {
      todo = t.others;
      seg = t.ring.linked;
      out = omega (arith, t.ring.once s, one_here s);
      on = λ k o. rw t.is o;
      short = omega (arith, pigeon (points_of w) (s ∷ t.others) t.ring.once t.ring.below, r.few);
      says = subst Q t.is q;
    }

module _ (w : List ℕ) (stop a : ℕ) (Q : List ℕ → Type 0) where
  here_on : Left w stop a Q → 0 < occ a (ring_of w stop)
  here_on t = t.on a (occ_head a t.todo)

  here_low : OnRing w stop → Left w stop a Q → a < limit.POINTS
  here_low r t = omega (arith, r.whole.below a (here_on t), r.few)

  module _ (q : ℕ) (e : q ≡ next_of w a) where
    step : (R : List ℕ → Type 0) (l : List ℕ) → Seg (next_of w) (prev_of w) (a ∷ l ++ (stop ∷ [])) → occ stop l ≡ 0 → ((k : ℕ) → 0 < occ k (a ∷ l) → 0 < occ k (ring_of w stop)) → length l < 2048 → Q (a ∷ l)
        → ((m : List ℕ) → Q (a ∷ q ∷ m) → R (q ∷ m)) → q ≢ stop → Left w stop q R
    step R [] s o f h g r d = absurd (d (e ∙ s.0))
    step R (x ∷ l) s o f h g r d =
        let z : x ≡ q = sym (e ∙ s.0) in
        record {
          todo = l;
          seg = subst (λ (y : ℕ). Seg (next_of w) (prev_of w) (y ∷ l ++ (stop ∷ []))) z s.2;
          out = omega arith;
          on = λ k p. f k (omega (arith, ap (one k) z));
          short = omega arith;
          says = r l (subst (λ (y : ℕ). Q (a ∷ y ∷ l)) z g);
        }

    on_to : (R : List ℕ → Type 0) → Left w stop a Q → ((m : List ℕ) → Q (a ∷ q ∷ m) → R (q ∷ m)) → q ≢ stop → Left w stop q R
    on_to R t r d = step R t.todo t.seg t.out t.on t.short t.says r d

    fewer : (l : List ℕ) → Seg (next_of w) (prev_of w) (a ∷ l ++ (stop ∷ [])) → occ stop l ≡ 0 → length l < 2048 → q ≢ stop → to_go w stop q < to_go w stop a
    unfolding to_go
    fewer [] s o h d = absurd (d (e ∙ s.0))
    fewer (x ∷ l) s o h d =
        rw (e ∙ s.0) (omega (
          arith,
          ap length (run_seg (next_of w) (prev_of w) stop 2048 a (x ∷ l) s o h),
          ap length (run_seg (next_of w) (prev_of w) stop 2048 x l s.2 (omega arith) (omega arith)),
        ))

    falls : Left w stop a Q → q ≢ stop → to_go w stop q < to_go w stop a
    falls t d = fewer t.todo t.seg t.out t.short d

    last : (l : List ℕ) → Seg (next_of w) (prev_of w) (a ∷ l ++ (stop ∷ [])) → occ stop l ≡ 0 → Q (a ∷ l) → q ≡ stop → Q (a ∷ [])
    last [] s o g d = g
    last (x ∷ l) s o g d = absurd (omega (arith, subst (λ (y : ℕ). one stop y ≡ 1) (sym (sym s.0 ∙ sym e ∙ d)) (one_here stop)))

    at_end : Left w stop a Q → q ≡ stop → Q (a ∷ [])
    at_end t d = last t.todo t.seg t.out t.says d

-- a ring has at most as many points as there may be
pub ring_short : (w : List ℕ) (s : ℕ) → OnRing w s → length (ring_of w s) ≤ limit.POINTS
ring_short w s r = omega (arith, pigeon (points_of w) (ring_of w s) r.whole.once r.whole.below, r.few)

-- ---- summing: z, and the edges to the points from a on, come to t

pub record Summing (w : List ℕ) (stop a : ℕ) (z t : ℤ) : Type 0 where
  pub ring : OnRing w stop
  pub left : Left w stop a (λ l. (z +ℤ area_from (point_of w (prev_of w a)) (map (point_of w) l) ≡ t) × (nat_abs z + length l * 2 ^ 42 ≤ 2 ^ 53))

module _ (w : List ℕ) (s : ℕ) (r : OnRing w s) where
  from_last : area_outpt (values_from w s) ≡ area_from (point_of w (prev_of w s)) (values_from w s)
  unfolding area_outpt
  from_last =
      let t = split w s r in
      rw t.is (ap (λ (p : Point). area_from p (map (point_of w) (s ∷ t.others)))
      (sym (map_last_of (point_of w) s t.others) ∙ ap (point_of w) (sym (prev_is (next_of w) (prev_of w) s t.others t.ring.linked))))

  pub sum_begun : Summing w s s (pos 0) (area_outpt (values_from w s))
  sum_begun =
      record {
        ring = r;
        left = begin w s (λ l. (pos 0 +ℤ area_from (point_of w (prev_of w s)) (map (point_of w) l) ≡ area_outpt (values_from w s)) × (nat_abs (pos 0) + length l * 2 ^ 42 ≤ 2 ^ 53)) r
            (+ℤ_idl (area_from (point_of w (prev_of w s)) (values_from w s)) ∙ sym from_last, omega (arith, ring_short w s r));
      }

  -- the point before a member is a member
  before_on : (a : ℕ) → 0 < occ a (ring_of w s) → 0 < occ (prev_of w a) (ring_of w s)
  before_on a o = prev_on (next_of w) (prev_of w) (points_of w) (ring_of w s) r.whole a o

  edge_at : (a : ℕ) → 0 < occ a (ring_of w s) → Edge w a
  edge_at a o = record { long = r.long; few = r.few; here = r.points_in_lem a o; before = r.points_in_lem (prev_of w a) (before_on a o) }

pub table_at : (w : List ℕ) (k : ℕ) → PointIn (view w) k → InTable (point_of w k)
table_at w k p = in_table (view w) k p.x_in p.y_in

module _ (w : List ℕ) (stop a : ℕ) (z t : ℤ) where
  Q : List ℕ → Type 0
  Q l = (z +ℤ area_from (point_of w (prev_of w a)) (map (point_of w) l) ≡ t) × (nat_abs z + length l * 2 ^ 42 ≤ 2 ^ 53)

  pub sum_edge : Summing w stop a z t → Edge w a
  unfolding Q
  sum_edge c = edge_at w stop c.ring a (here_on w stop a Q c.left)

  pub sum_low : Summing w stop a z t → a < limit.POINTS
  unfolding Q
  sum_low c = here_low w stop a Q c.ring c.left

  module _ (d : ℤ) (ed : d ≡ edge_area (point_of w (prev_of w a)) (point_of w a)) where
    edge_small : Summing w stop a z t → nat_abs d ≤ 2 ^ 42
    edge_small c = let g = sum_edge c in omega (arith, ap nat_abs ed, (edge_within (table_at w (prev_of w a) g.before) (table_at w a g.here)).size)

    pub sum_small : Summing w stop a z t → nat_abs (z +ℤ d) ≤ 2 ^ 53
    sum_small c = omega (arith, size_add z d, edge_small c, c.left.says.1)

    pub edge_fits : Summing w stop a z t → SFits w64 d
    edge_fits c = fits_size w64 d (omega (arith, edge_small c))

    pub sum_fits : Summing w stop a z t → SFits w64 (z +ℤ d)
    sum_fits c = fits_size w64 (z +ℤ d) (omega (arith, sum_small c))

    module _ (q : ℕ) (e : q ≡ next_of w a) where
      pub sum_falls : Summing w stop a z t → q ≢ stop → to_go w stop q < to_go w stop a
      unfolding Q
      sum_falls c x = falls w stop a Q q e c.left x

      -- q's prev is a
      back : (l : List ℕ) → Seg (next_of w) (prev_of w) (a ∷ l ++ (stop ∷ [])) → prev_of w q ≡ a
      back [] s = ap (prev_of w) (e ∙ s.0) ∙ s.1
      back (x ∷ l) s = ap (prev_of w) (e ∙ s.0) ∙ s.1

      pub sum_on : Summing w stop a z t → q ≢ stop → Summing w stop q (z +ℤ d) t
      unfolding Q
      sum_on c x =
          record {
            ring = c.ring;
            left = on_to w stop a Q q e (λ l. ((z +ℤ d) +ℤ area_from (point_of w (prev_of w q)) (map (point_of w) l) ≡ t) × (nat_abs (z +ℤ d) + length l * 2 ^ 42 ≤ 2 ^ 53)) c.left
                (λ m g. (rw (back c.left.todo c.left.seg, ed) (+ℤ_assoc z (edge_area (point_of w (prev_of w a)) (point_of w a)) (area_from (point_of w a) (map (point_of w) (q ∷ m))) ∙ g.0), omega (arith, size_add z d, edge_small c, g.1)))
                x;
          }

      pub sum_end : Summing w stop a z t → q ≡ stop → z +ℤ d ≡ t
      unfolding Q
      sum_end c x =
          let g = at_end w stop a Q q e c.left x in
          ap (λ (y : ℤ). z +ℤ y) (ed ∙ sym (+ℤ_idr (edge_area (point_of w (prev_of w a)) (point_of w a)))) ∙ g.0
