-- Two drawings on one table: the theorem.
use Prim.Native.Nat.{ℕ, ◌+◌, ◌%◌, ◌/◌, ◌≤◌, ◌<◌}
use mathlib.Core.Path.{◌≡◌, refl, ap, ◌∙◌, sym, subst}
use mathlib.Core.Bool.{Bool, true, false}
use mathlib.Core.List.{List, [], ◌∷◌, ◌++◌}
use native.Mathlib.Nat.{zero-add}
use native.Mathlib.Omega.{arith}
use lib.Dec.{eqb}
use lib.ListN.{length, get_or, get_or-append}
use lib.Seq.{get_or-append-add}
use Rattle.rings.specs.Progress.{Ring, at_start}
use Rattle.rings.specs.Count.{sum_by}
use Rattle.rings.proofs.Counting.{length_table}
use Rattle.geometry.specs.declared.Point.{Point}
use Rattle.job.specs.Limits as limit
use Rattle.lone.specs.Forest.{Machine, State, initial, Fed, left_ringless, left_closed, Forest, opening, steps_state, run_forest}
use Rattle.lone.specs.Order.{Alone, AllDone}
use Rattle.lone.specs.Path.{outline}
use Rattle.lone.specs.Plane.{plane, lone_ring}
use Rattle.lone.specs.Writing.{closed_paths, open_paths}
use Rattle.store.specs.Field.{RecordCol, rc, ct, FLAGS, FIRST, REASON, TAKER, SETTINGS, NONE}
use Rattle.store.specs.Words.{Store, view}
use Rattle.store.specs.Sound.{pts, recs, ringless, is_open}
use Rattle.store.specs.Value.{ring_points, preserve_collinear, reverse_solution}
use Rattle.audit.specs.Left.{Left}
use Rattle.telling.specs.Telling.{reason_at}
use Rattle.tidied.proofs.Theorem.{nothing_left}
use Rattle.acts.specs.Opened.{opened_at, records}
use Rattle.turns.specs.Form.{raised}
use Rattle.finishing.specs.Start.{Start}
use Rattle.finishing.specs.Run.{granted}
use Rattle.order.specs.Demand3.{offcuts_in, Same, M, G, reversed, now, fed, opened, lones, AllDoneAfter, RunsTo, EndIn, no_more, ends}
use Rattle.order.proofs.Table.{opened_is}
use Rattle.order.proofs.Ends.{same_ends}
use Rattle.order.proofs.Theorem.{left_at, lones_are, done_lones, after_list, demand_3}
use Rattle.pooling.specs.Words.{pooled_words}
use Rattle.laid.specs.Trees.{EachOwn}
use Rattle.pooling.proofs.Raising.{raise_low}
use Rattle.laying.proofs.Deciding.{refused_leaves}
use Rattle.pooling.proofs.Pooling.{record_before, record_after, plain_record, ringless_up, open_up, first_values, second_values}
use Rattle.laid.specs.Two.{closed_after, open_after, raised_reason, OwnOf, OfTwo, TwoDrawings}
use Rattle.laid.proofs.Reasons.{own_record, own_offcuts}
use Rattle.laid.proofs.Forests.{each_own, first_alone, second_alone}
use Rattle.laid.proofs.Outlines.{own_closed, own_open}
use Rattle.laid.proofs.Together.{Lies, lies, bits, view_is, behind, first_start, second_start, pooled_start, settings_first, points_are, records_are, forest_is}

-- ---- a start: all done of the lone rings, and of its forest

abbrev rings : List ℕ → List (Fed (Ring Point) (List Point))
rings w = records raised.of (view w)

abbrev after : Machine (Ring Point) → List ℕ → List ℕ → Forest (Ring Point) (List Point)
after N w is = run_forest N limit.POINTS limit.RECORDS (opening (rings w) (pts (view w))) is

length_rings : (w : List ℕ) → length (rings w) ≡ recs (view w)
length_rings w = length_table (opened_at raised.of (view w)) 0 (recs (view w))

module _ (w : List ℕ) (o : Start w) (is : List ℕ) where
  ended_forest : AllDoneAfter w is → AllDone (M w) (after (M w) w is).entries
  ended_forest d = subst (AllDone (M w)) (sym (lones_are w o is)) d

  ended_lones : AllDone (M w) (after (M w) w is).entries → AllDoneAfter w is
  ended_lones d = done_lones w o is d

-- ---- what rings end in depends on the settings only

runs_as : (u w : List ℕ) → M u ≡ M w → (R : Ring Point) (L : State (Ring Point)) → RunsTo u R L → RunsTo w R L
runs_as u w e R L r =
    record {
      steps = r.steps;
      is = r.is ∙ ap (λ (N : Machine (Ring Point)). steps_state N r.steps (initial R)) e;
      over = subst (λ (N : Machine (Ring Point)). N.over L.now ≡ true) e r.over;
      not_before = λ k h. subst (λ (N : Machine (Ring Point)). N.over (steps_state N k (initial R)).now ≡ false) e (r.not_before k h);
    }

end_as : (u w : List ℕ) → preserve_collinear (view u) ≡ preserve_collinear (view w) → reverse_solution (view u) ≡ reverse_solution (view w) → (s : Store) (js : List ℕ) (Rs : List (Ring Point)) → EndIn u s js Rs → EndIn w s js Rs
end_as u w p r s js Rs no_more = no_more
end_as u w p r s js Rs (ends {j = j} {js = ks} {R = R} {Rs = Ss} L t a b c d e) =
    ends L (runs_as u w (ap lone_ring p) R L t) a (b ∙ ap (λ (x : Bool). outline (plane x) (reverse_solution (view u)) L.now) p ∙ ap (λ (x : Bool). outline (plane (preserve_collinear (view w))) x L.now) r) c
    (end_as u w p r s (offcuts_in s j) L.offcuts d) (end_as u w p r s ks Ss e)

module _ (w v : List ℕ) (L : Lies w v) where
  abbrev u : List ℕ
  u = pooled_words w v

  preserves_first : preserve_collinear (view u) ≡ preserve_collinear (view w)
  preserves_first = ap (λ (n : ℕ). eqb (n % 2) 1) (settings_first w v L)

  preserves_second : preserve_collinear (view v) ≡ preserve_collinear (view w)
  preserves_second = sym (ap (λ (n : ℕ). eqb n 1) (bits (view w (ct SETTINGS) 0) (view v (ct SETTINGS) 0) L.settings).0)

  reverses_first : reverse_solution (view u) ≡ reverse_solution (view w)
  reverses_first = ap (λ (n : ℕ). eqb (n / 2 % 2) 1) (settings_first w v L)

  reverses_second : reverse_solution (view v) ≡ reverse_solution (view w)
  reverses_second = sym (ap (λ (n : ℕ). eqb n 1) (bits (view w (ct SETTINGS) 0) (view v (ct SETTINGS) 0) L.settings).1)

  -- one machine for all
  machine_first : M u ≡ M w
  machine_first = ap lone_ring preserves_first

  machine_second : M v ≡ M w
  machine_second = ap lone_ring preserves_second

  -- ---- if all steps finish

  module _ (ks : List ℕ) (e : AllDoneAfter u ks) where
    pooled_ended : AllDone (M w) (run_forest (M w) limit.POINTS limit.RECORDS (opening (rings w ++ rings v) (pts (view w) + pts (view v))) ks).entries
    pooled_ended =
        subst (λ (p : ℕ). AllDone (M w) (run_forest (M w) limit.POINTS limit.RECORDS (opening (rings w ++ rings v) p) ks).entries) (points_are w v L)
        (subst (λ (os : List (Fed (Ring Point) (List Point))). AllDone (M w) (run_forest (M w) limit.POINTS limit.RECORDS (opening os (pts (view u))) ks).entries) (forest_is w v L)
        (subst (λ (K : Machine (Ring Point)). AllDone K (after K u ks).entries) machine_first (ended_forest u (pooled_start w v L) ks e)))

    few : pts (view w) + pts (view v) ≤ limit.POINTS
    few = L.fit.fit_points

    some_left : length (rings w) + length (rings v) ≤ limit.RECORDS
    some_left = omega (arith, L.fit.fit_records, length_rings w, length_rings v)

    first_ends : (is : List ℕ) × AllDoneAfter w is
    first_ends =
        let r = first_alone (M w) limit.POINTS limit.RECORDS (rings w) (rings v) (pts (view w)) (pts (view v)) few some_left ks pooled_ended in
        (r.0, ended_lones w (first_start w v L) r.0 r.1)

    second_ends : (js : List ℕ) × AllDoneAfter v js
    second_ends =
        let r = second_alone (M w) limit.POINTS limit.RECORDS (rings w) (rings v) (pts (view w)) (pts (view v)) few some_left ks pooled_ended in
        (r.0, ended_lones v (second_start w v L) r.0 (subst (λ (K : Machine (Ring Point)). AllDone K (after K v r.0).entries) (sym machine_second) r.1))

  -- ---- what is fed to the lone rings

  opened_are : opened u ≡ opened w ++ opened v
  opened_are = opened_is u ∙ forest_is w v L ∙ ap (λ (os : List (Fed (Ring Point) (List Point))). os ++ rings v) (sym (opened_is w)) ∙ ap (λ (os : List (Fed (Ring Point) (List Point))). opened w ++ os) (sym (opened_is v))

  fed_at : (x : List ℕ) → Start x → (j : ℕ) → j < recs (view x) → get_or (rings x) j left_ringless ≡ fed x j
  fed_at x o j l = left_at x o j l

  fed_first : (j : ℕ) → j < recs (view w) → fed u j ≡ fed w j
  fed_first j l =
      sym (fed_at u (pooled_start w v L) j (omega (arith, records_are w v L)))
      ∙ ap (λ (os : List (Fed (Ring Point) (List Point))). get_or os j left_ringless) (forest_is w v L)
      ∙ get_or-append (rings w) (rings v) left_ringless j (omega (arith, length_rings w))
      ∙ fed_at w (first_start w v L) j l

  fed_second : (j : ℕ) → j < recs (view v) → fed u (recs (view w) + j) ≡ fed v j
  fed_second j l =
      sym (fed_at u (pooled_start w v L) (recs (view w) + j) (omega (arith, records_are w v L)))
      ∙ ap (λ (os : List (Fed (Ring Point) (List Point))). get_or os (recs (view w) + j) left_ringless) (forest_is w v L)
      ∙ ap (λ (n : ℕ). get_or (rings w ++ rings v) (n + j) left_ringless) (sym (length_rings w))
      ∙ get_or-append-add (rings w) (rings v) j left_ringless
      ∙ fed_at v (second_start w v L) j l

  -- ---- each drawing's own rings

  first_rings_own : (ks is : List ℕ) → AllDoneAfter u ks → AllDoneAfter w is → (j : ℕ) (R : Ring Point) → j < recs (view w) → fed w j ≡ left_closed R → Same (now u ks) (now w is) (j ∷ []) (j ∷ [])
  first_rings_own ks is a b j R l e =
      same_ends w (now u ks) (now w is) (j ∷ []) (j ∷ []) (R ∷ [])
      (end_as u w preserves_first reverses_first (now u ks) (j ∷ []) (R ∷ []) ((after_list u (pooled_start w v L) ks).ends_in a j R (omega (arith, records_are w v L)) (fed_first j l ∙ e)))
      ((after_list w (first_start w v L) is).ends_in b j R l e)

  second_rings_own : (ks js : List ℕ) → AllDoneAfter u ks → AllDoneAfter v js → (j : ℕ) (R : Ring Point) → j < recs (view v) → fed v j ≡ left_closed R → Same (now u ks) (now v js) ((recs (view w) + j) ∷ []) (j ∷ [])
  second_rings_own ks js a b j R l e =
      same_ends w (now u ks) (now v js) ((recs (view w) + j) ∷ []) (j ∷ []) (R ∷ [])
      (end_as u w preserves_first reverses_first (now u ks) ((recs (view w) + j) ∷ []) (R ∷ []) ((after_list u (pooled_start w v L) ks).ends_in a (recs (view w) + j) R (omega (arith, records_are w v L)) (fed_second j l ∙ e)))
      (end_as v w preserves_second reverses_second (now v js) (j ∷ []) (R ∷ []) ((after_list v (second_start w v L) js).ends_in b j R l e))

  -- ---- and its own reasons

  record_first : (f : RecordCol) (j : ℕ) → j < recs (view w) → view u (rc f) j ≡ view w (rc f) j
  record_first f j l = ap (λ (s : Store). s (rc f) j) (view_is w v L) ∙ record_before (view w) (view v) f j l

  first_own : (ks is : List ℕ) → AllDoneAfter u ks → AllDoneAfter w is → OwnOf w u 0 ks is
  first_own ks is a b =
      record {
        rings = λ j R l e. rw (zero-add j) (first_rings_own ks is a b j R l e);
        reasons = λ j l. rw (zero-add j) (reasons j l);
        offcut_reasons = own_offcuts 0 u w (pooled_start w v L) (first_start w v L) preserves_first reverses_first ks is;
      }
    where
      reasons : (j : ℕ) → j < recs (view w) → raised_reason 0 (reason_at (now u ks) j) ≡ raised_reason 0 (reason_at (now w is) j)
      reasons j l =
          own_record 0 u w (pooled_start w v L) (first_start w v L) preserves_first reverses_first ks is j j (omega (arith, records_are w v L)) l
          (ap (λ (n : ℕ). eqb n NONE) (record_first FIRST j l))
          (ap (λ (n : ℕ). eqb (n % 2) 1) (record_first FLAGS j l))
          (ap (λ (s : Store). ring_points s j) (view_is w v L) ∙ first_values raised.of (view w) (view v) L.sound j l)
          (λ r. (record_first REASON j l, λ d. record_first TAKER j l ∙ sym (zero-add _)))
          (λ r c. first_rings_own ks is a b j (at_start (ring_points (view w) j)) l (rw (r, c)))

  second_own : (ks js : List ℕ) → AllDoneAfter u ks → AllDoneAfter v js → OwnOf v u (recs (view w)) ks js
  second_own ks js a b =
      record {
        rings = second_rings_own ks js a b;
        reasons = reasons;
        offcut_reasons = own_offcuts (recs (view w)) u v (pooled_start w v L) (second_start w v L) same_kind same_way ks js;
      }
    where
      same_kind : preserve_collinear (view u) ≡ preserve_collinear (view v)
      same_kind = preserves_first ∙ sym preserves_second

      same_way : reverse_solution (view u) ≡ reverse_solution (view v)
      same_way = reverses_first ∙ sym reverses_second

      reasons : (j : ℕ) → j < recs (view v) → raised_reason 0 (reason_at (now u ks) (recs (view w) + j)) ≡ raised_reason (recs (view w)) (reason_at (now v js) j)
      reasons j l =
          own_record (recs (view w)) u v (pooled_start w v L) (second_start w v L) same_kind same_way ks js (recs (view w) + j) j (omega (arith, records_are w v L)) l
          (ap (λ (s : Store). ringless s (recs (view w) + j)) (view_is w v L) ∙ ringless_up (view w) (view v) L.sound_second L.fit j l)
          (ap (λ (s : Store). is_open s (recs (view w) + j)) (view_is w v L) ∙ open_up (view w) (view v) L.sound_second L.fit j l)
          (ap (λ (s : Store). ring_points s (recs (view w) + j)) (view_is w v L) ∙ second_values raised.of (view w) (view v) L.sound_second L.fit j l)
          (λ r. (
            ap (λ (s : Store). s (rc REASON) (recs (view w) + j)) (view_is w v L) ∙ plain_record (view w) (view v) REASON j refl l,
            λ d. ap (λ (s : Store). s (rc TAKER) (recs (view w) + j)) (view_is w v L) ∙ record_after (view w) (view v) TAKER j l
                ∙ raise_low (recs (view w)) (recs (view v)) (view v (rc TAKER) j) (((L.sound_second.good j l).explained r).taker d),
          ))
          (λ r c. second_rings_own ks js a b j (at_start (ring_points (view v) j)) l (rw (r, c)))

  module _ (ks is js : List ℕ) where
    pooled_alone : Alone (M w) (rings w ++ rings v) (lones u ks) (granted u ks)
    pooled_alone =
        subst (λ (os : List (Fed (Ring Point) (List Point))). Alone (M w) os (lones u ks) (granted u ks)) (opened_is u ∙ forest_is w v L)
        (subst (λ (K : Machine (Ring Point)). Alone K (opened u) (lones u ks) (granted u ks)) machine_first (after_list u (pooled_start w v L) ks).alone)

    first_lone : Alone (M w) (rings w) (lones w is) (granted w is)
    first_lone = subst (λ (os : List (Fed (Ring Point) (List Point))). Alone (M w) os (lones w is) (granted w is)) (opened_is w) (after_list w (first_start w v L) is).alone

    second_lone : Alone (M w) (rings v) (lones v js) (granted v js)
    second_lone =
        subst (λ (os : List (Fed (Ring Point) (List Point))). Alone (M w) os (lones v js) (granted v js)) (opened_is v)
        (subst (λ (K : Machine (Ring Point)). Alone K (opened v) (lones v js) (granted v js)) machine_second (after_list v (second_start w v L) js).alone)

    own : AllDoneAfter u ks → AllDoneAfter w is → AllDoneAfter v js → EachOwn (rings w) (rings v) (lones u ks) (lones w is) (lones v js)
    own a b c =
        each_own (M w) (rings w) (rings v) (lones u ks) (lones w is) (lones v js) (granted u ks) (granted w is) (granted v js)
        pooled_alone (subst (λ (K : Machine (Ring Point)). AllDone K (lones u ks)) machine_first a) first_lone b second_lone (subst (λ (K : Machine (Ring Point)). AllDone K (lones v js)) machine_second c)

    -- one setting for all three
    closed_first : closed_after u ks ≡ closed_paths (G w) (reversed w) (lones u ks)
    closed_first = cc (preserves_first, reverses_first)

    closed_second : closed_after v js ≡ closed_paths (G w) (reversed w) (lones v js)
    closed_second = cc (preserves_second, reverses_second)

    open_first : open_after u ks ≡ open_paths (G w) (reversed w) (lones u ks)
    open_first = cc (preserves_first, reverses_first)

    open_second : open_after v js ≡ open_paths (G w) (reversed w) (lones v js)
    open_second = cc (preserves_second, reverses_second)

    closed_outlines : AllDoneAfter u ks → AllDoneAfter w is → AllDoneAfter v js → (f : List Point → ℕ) → sum_by f (closed_after u ks) ≡ sum_by f (closed_after w is) + sum_by f (closed_after v js)
    closed_outlines a b c f =
        ap (sum_by f) closed_first
        ∙ own_closed (G w) (reversed w) (M w) (rings w) (rings v) (lones u ks) (lones w is) (lones v js) (granted u ks) (granted w is) (granted v js) pooled_alone first_lone second_lone (own a b c) f
        ∙ ap (λ (l : List (List Point)). sum_by f (closed_after w is) + sum_by f l) (sym closed_second)

    open_outlines : open_after u ks ≡ open_after w is ++ open_after v js
    open_outlines =
        open_first
        ∙ own_open (G w) (reversed w) (M w) (rings w) (rings v) (lones u ks) (lones w is) (lones v js) (granted u ks) (granted w is) (granted v js) pooled_alone first_lone second_lone
        ∙ ap (λ (l : List (List Point)). open_after w is ++ l) (sym open_second)

  two : OfTwo w v u
  two =
      record {
        laid = L.is;
        first = first_start w v L;
        second = second_start w v L;
        both = pooled_start w v L;
        preserves = (preserves_first, preserves_second);
        reverses = (reverses_first, reverses_second);
        points_are = points_are w v L;
        records_are = records_are w v L;
        rings_are = opened_are;
        behind = behind w v L;
        holds = demand_3 u (pooled_start w v L);
        tidy = nothing_left u (pooled_start w v L);
        first_ends = first_ends;
        second_ends = second_ends;
        first_own = first_own;
        second_own = second_own;
        closed_outlines = closed_outlines;
        open_outlines = open_outlines;
      }

-- of every two work spaces
pub two_drawings : (w v : List ℕ) → TwoDrawings w v
two_drawings w v =
    record {
      refused = refused_leaves w v;
      together = λ e. let L : Lies w v = lies w v e in subst (OfTwo w v) (ap (λ (l : Left). l.words) (sym L.is)) (two w v L);
    }
