-- No stage after reading writes the settings, which are the first word: so those that opening and finishing leave are the job's.
use mathlib.Core.Path.{◌≡◌, refl, sym, ap, ◌∙◌, subst}
use mathlib.Core.Bool.{Bool, true, false, cond}
use mathlib.Core.List.{List, [], ◌∷◌, ◌++◌, map}
use Prim.Native.Nat.{ℕ, zero, suc, ◌+◌, ◌*◌, ◌/◌, ◌%◌, ◌≤◌}
use native.Mathlib.Omega.{arith}
use lib.Dec.{eqb, ltb}
use lib.ListN.{length, get_or, set, replicate}
use lib.Seq.{get_or-set_other}
use Rattle.std.proofs.Common.{Some, None, Ok, Err}
use Rattle.job.specs.Limits as limit
use Rattle.job.specs.declared.Job.{Job}
use Rattle.lone.specs.Act.{Act, stay, discard, drop_point, move_on, to_first, double, cut}
use Rattle.lone.specs.Lone.{Geo}
use Rattle.lone.specs.Forest.{Answer, ok, full, out_of_turn}
use Rattle.lone.specs.Rounds.{enough}
use Rattle.store.specs.Field.{Field, pt, ct, REC, SETTINGS, NONE, base}
use Rattle.store.specs.Words.{Store, Write, view, cell, put, on_words}
use Rattle.store.specs.Boxes.{all_boxed}
use Rattle.bounds.proofs.Beside.{view_all}
use Rattle.store.specs.Named.{settings_of, points_of, records_of, next_of, rec_of, first_of, set_rec}
use Rattle.store.specs.Sound.{ring_at}
use Rattle.joins.specs.declared.JoinError.TheVariants.{Knot, Full}
use Rattle.primitives.specs.Primitive.{Taken, taken, after_writes, before_writes, duplicate_op}
use Rattle.acts.specs.Writes.{move_writes, to_first_writes, discard_writes, drop_writes, double_writes}
use Rattle.acts.specs.Apply.{Coding, ring_writes, off_writes, after_w}
use Rattle.acts.specs.Step.{Outcome, outcome, answer_s, act_at, step_by_w, step_w}
use Rattle.acts.specs.Finish.{RingsEnd, rings_done, rings_full, and_then, steps_by_w, finish_record, finish_from_w, finish_w}
use Rattle.reading.specs.Fill as fill
use Rattle.accepting.specs.Accept.{accept_of}
use Rattle.joins.specs.Resolve.{home_of}
use Rattle.joins.specs.Join as join
use Rattle.joins.specs.Join.{relink_writes, made_writes, empty_writes, first_writes, relink_of, new_out_rec, name_all, fix_outrec_pts, move_first, split_ring, split_of, merge_of, by_records, join_of, joins_from, process_horz_joins}
use Rattle.sorting.specs.declared.HorzSegment.{HorzSegment}
use Rattle.converting.specs.Make as make
use Rattle.converting.specs.Make.{Made, made, Out, out, second_at, first_at, make_join, with_lefts, made_of, apart_of, join_pair, first_one, second_one, moved_pair, pair_of, inner_from, outer_from, sorted_segments, pairs_of, convert_horz_segs_to_joins}
use Rattle.opening.specs.Start.{start_writes, start_ring, start_to, start_rings}
use Rattle.opening.specs.Open.{JOIN_POINTS, End, end, after_joins, after_segments, after_rows, cleared, open_of}
use Rattle.opening.proofs.Accepted.{accepts}
use Rattle.turns.specs.Form.{raised, geometry_of}
use Rattle.std.specs.Prelude.{Result, Ok, Err}
use Rattle.job.specs.declared.refusal.Refusal.{Refusal}
use Rattle.paths.specs.Wrote.{ok_paths}
use Rattle.paths.specs.declared.Written.{Written}
use Rattle.paths.specs.Wrote.{build_paths64}
use Rattle.finishing.specs.Finish.{then_boxed, finish_rings}
use Rattle.finishing.specs.InOneCall.{Finished, after_writing, after_steps, after_opening, finish_of}
use Rattle.job_listing.specs.Cutlist.{paths_at, listed_as, cutlist_of}
use Rattle.job_listing.specs.Setting.{settings_in, JobsSetting}
use Rattle.job_listing.proofs.Taking.{settings_accepted}

-- x: the settings
module _ (x : ℕ) where
  abbrev Has : List ℕ → Type 0
  Has w = settings_of w ≡ x

  -- a column that begins after the first word
  has_put : (f : Field) (w : List ℕ) (i v : ℕ) → 1 ≤ base f → Has w → Has (put f w i v)
  unfolding cell put
  has_put f w i v l h = get_or-set_other w (base f + i) 0 v 0 (λ e. omega (arith, e, l)) ∙ h

  abbrev Behind : List Write → Type 0
  Behind [] = Unit {0}
  Behind (y ∷ ys) = (1 ≤ base y.to) × Behind ys

  has_writes : (w : List ℕ) (ys : List Write) → Behind ys → Has w → Has (on_words w ys)
  has_writes w [] b h = h
  has_writes w (y ∷ ys) b h = has_writes (put y.to w y.at y.is) ys b.1 (has_put y.to w y.at y.is b.0 h)

  both : (xs ys : List Write) → Behind xs → Behind ys → Behind (xs ++ ys)
  both [] ys a b = b
  both (y ∷ xs) ys a b = (a.0, both xs ys a.1 b)

  -- ---- joins made from segments

  abbrev HasTaken : Taken → Type 0
  HasTaken (taken r w) = Has w

  has_copy : (w : List ℕ) (p : ℕ) (after : Bool) → Has w → HasTaken (duplicate_op w p after)
  unfolding duplicate_op
  has_copy w p after h = go (ltb (points_of w) limit.POINTS) after
    where
      go : (b : Bool) (a : Bool) → HasTaken (cond b (taken (Some (points_of w)) (cond a (on_words w (after_writes (view w) p)) (on_words w (before_writes (view w) p)))) (taken None w))
      go true true = has_writes w (after_writes (view w) p) (omega arith, (omega arith, (omega arith, (omega arith, (omega arith, (omega arith, (omega arith, (omega arith, (omega arith, tt))))))))) h
      go true false = has_writes w (before_writes (view w) p) (omega arith, (omega arith, (omega arith, (omega arith, (omega arith, (omega arith, (omega arith, (omega arith, (omega arith, tt))))))))) h
      go false a = h

  abbrev HasMade : Made → Type 0
  HasMade (made c w js) = Has w

  has_join_made : (w js : List ℕ) (m a b : ℕ) → Has w → HasMade (make_join w js m a b)
  unfolding make_join
  has_join_made w js m a b h = one (duplicate_op w a true) (has_copy w a true h)
    where
      two : (k : ℕ) (t : Taken) → HasTaken t → HasMade (second_at js m k t)
      two k (taken (Some j) u) g = g
      two k (taken None u) g = g

      one : (t : Taken) → HasTaken t → HasMade (first_at js m b t)
      one (taken (Some k) u) g = two k (duplicate_op u b false) (has_copy u b false g)
      one (taken None u) g = g

  abbrev HasOut : Out → Type 0
  HasOut (out c w ls js) = Has w

  has_pair : (rs fs js : List ℕ) (i j : ℕ) (w ls : List ℕ) (m : ℕ) → Has w → HasOut (pair_of rs fs js i j w ls m)
  unfolding pair_of moved_pair join_pair
  has_pair rs fs js i j w ls m h = go (apart_of w ls rs fs i j)
    where
      a : ℕ
      a = first_one w ls fs i j

      b : ℕ
      b = second_one w ls fs i j

      lefts : (ms : List ℕ) (t : Made) → HasMade t → HasOut (with_lefts ms t)
      lefts ms (made c u ks) g = g

      way : (on : Bool) → HasMade (cond on (make_join w js m a b) (make_join w js m b a))
      way true = has_join_made w js m a b h
      way false = has_join_made w js m b a h

      go : (z : Bool) → HasOut (cond z (out (Some m) w ls js) (with_lefts (set (set ls i a) j b) (cond (eqb (get_or fs i 0) 1) (make_join w js m a b) (make_join w js m b a))))
      go true = h
      go false = lefts (set (set ls i a) j b) (cond (eqb (get_or fs i 0) 1) (make_join w js m a b) (make_join w js m b a)) (way (eqb (get_or fs i 0) 1))

  has_then : (g : List ℕ → List ℕ → List ℕ → ℕ → Out) (c : Out) → HasOut c → ((u ls js : List ℕ) (k : ℕ) → Has u → HasOut (g u ls js k)) → HasOut (make.and_then g c)
  has_then g (out (Some k) u ls js) h r = r u ls js k h
  has_then g (out None u ls js) h r = h

  has_inner : (f : ℕ) (rs fs : List ℕ) (i j : ℕ) (w ls js : List ℕ) (m : ℕ) → Has w → HasOut (inner_from f rs fs i j w ls js m)
  unfolding inner_from
  has_inner zero rs fs i j w ls js m h = h
  has_inner (suc f) rs fs i j w ls js m h = go (eqb (get_or rs j 0) NONE) (λ u ls' js' k g. has_inner f rs fs i (j + 1) u ls' js' k g)
    where
      go : (z : Bool) → ((u ls' js' : List ℕ) (k : ℕ) → Has u → HasOut (inner_from f rs fs i (j + 1) u ls' js' k)) → HasOut (cond z (out (Some m) w ls js) (make.and_then (inner_from f rs fs i (j + 1)) (pair_of rs fs js i j w ls m)))
      go true r = h
      go false r = has_then (inner_from f rs fs i (j + 1)) (pair_of rs fs js i j w ls m) (has_pair rs fs js i j w ls m h) r

  has_outer : (f : ℕ) (rs fs : List ℕ) (i : ℕ) (w ls js : List ℕ) (m : ℕ) → Has w → HasOut (outer_from f rs fs i w ls js m)
  unfolding outer_from
  has_outer zero rs fs i w ls js m h = h
  has_outer (suc f) rs fs i w ls js m h = go (eqb (get_or rs i 0) NONE) (λ u ls' js' k g. has_outer f rs fs (i + 1) u ls' js' k g)
    where
      go : (z : Bool) → ((u ls' js' : List ℕ) (k : ℕ) → Has u → HasOut (outer_from f rs fs (i + 1) u ls' js' k)) → HasOut (cond z (out (Some m) w ls js) (make.and_then (outer_from f rs fs (i + 1)) (inner_from f rs fs i (i + 1) w ls js m)))
      go true r = h
      go false r = has_then (outer_from f rs fs (i + 1)) (inner_from f rs fs i (i + 1) w ls js m) (has_inner f rs fs i (i + 1) w ls js m h) r

  has_converted : (w : List ℕ) (n : ℕ) (ps js : List ℕ) (m : ℕ) → Has w → HasMade (convert_horz_segs_to_joins w n ps js m)
  unfolding convert_horz_segs_to_joins pairs_of
  has_converted w n ps js m h = go (outer_from limit.SEGMENTS rs fs 0 w ls js m) (has_outer limit.SEGMENTS rs fs 0 w ls js m h)
    where
      ls : List ℕ
      ls = map (λ (q : HorzSegment). q.left) (sorted_segments w n ps)

      rs : List ℕ
      rs = map (λ (q : HorzSegment). q.right) (sorted_segments w n ps)

      fs : List ℕ
      fs = map (λ (q : HorzSegment). q.forward) (sorted_segments w n ps)

      go : (c : Out) → HasOut c → HasMade (made_of c)
      go (out r u ls' js') g = g

  -- ---- joins

  abbrev HasJoin : join.JoinEnd → Type 0
  HasJoin (join.end t w) = Has w

  has_relinked : (w : List ℕ) (a c : ℕ) → Has w → Has (relink_of w a c)
  unfolding relink_of
  has_relinked w a c h = has_writes w (relink_writes (view w) a c) (omega arith, (omega arith, (omega arith, (omega arith, tt)))) h

  has_record : (w : List ℕ) (k n i : ℕ) → Has w → Has (new_out_rec w k n i)
  unfolding new_out_rec
  has_record w k n i h = has_writes w (made_writes k n i) (omega arith, (omega arith, (omega arith, (omega arith, tt)))) h

  has_named : (k : ℕ) (w l : List ℕ) → Has w → Has (name_all w k l)
  unfolding name_all
  has_named k w [] h = h
  has_named k w (p ∷ l) h = has_named k (set_rec w p k) l (has_put (pt REC) w p k (omega arith) h)

  has_moved : (w : List ℕ) (i k a : ℕ) → Has w → Has (move_first w i k a)
  unfolding move_first
  has_moved w i k a h = go (eqb (rec_of w (first_of w i)) k)
    where
      go : (b : Bool) → Has (cond b (on_words w (first_writes i a)) w)
      go true = has_writes w (first_writes i a) (omega arith, (omega arith, tt)) h
      go false = h

  has_split : (w : List ℕ) (a c i k : ℕ) → Has w → Has (split_ring w a c i k)
  unfolding split_ring fix_outrec_pts
  has_split w a c i k h =
      let u : List ℕ = new_out_rec (relink_of w a c) k (next_of w a) i in
      has_moved (name_all u k (ring_at (view u) k)) i k a (has_named k u (ring_at (view u) k) (has_record (relink_of w a c) k (next_of w a) i (has_relinked w a c h)))

  has_merged : (w : List ℕ) (a c i j : ℕ) → Has w → Has (merge_of w a c i j)
  unfolding merge_of
  has_merged w a c i j h = has_writes (relink_of w a c) (empty_writes j i) (omega arith, (omega arith, (omega arith, (omega arith, tt)))) (has_relinked w a c h)

  has_join : (w : List ℕ) (a c : ℕ) → Has w → HasJoin (join_of w a c)
  unfolding join_of by_records split_of
  has_join w a c h = go (eqb (next_of w a) c) (eqb (home_of w a) (home_of w c)) (ltb (records_of w) limit.RECORDS)
    where
      go : (z y v : Bool) → HasJoin (cond z (join.end (Err Knot) w) (cond y (cond v (join.end (Ok tt) (split_ring w a c (home_of w a) (records_of w))) (join.end (Err Full) w)) (join.end (Ok tt) (merge_of w a c (home_of w a) (home_of w c)))))
      go true y v = h
      go false true true = has_split w a c (home_of w a) (records_of w) h
      go false true false = h
      go false false v = has_merged w a c (home_of w a) (home_of w c) h

  has_joins : (f i : ℕ) (js w : List ℕ) → Has w → HasJoin (joins_from f i js w)
  unfolding joins_from
  has_joins zero i js w h = h
  has_joins (suc f) i js w h = go (join_of w (get_or js (2 * i) 0) (get_or js (2 * i + 1) 0)) (has_join w (get_or js (2 * i) 0) (get_or js (2 * i + 1) 0) h) (λ u g. has_joins f (i + 1) js u g)
    where
      go : (t : join.JoinEnd) → HasJoin t → ((u : List ℕ) → Has u → HasJoin (joins_from f (i + 1) js u)) → HasJoin (join.follow (joins_from f (i + 1) js) t)
      go (join.end (Ok tt) u) g r = r u g
      go (join.end (Err Knot) u) g r = g
      go (join.end (Err Full) u) g r = g

  -- ---- rings at their start

  has_started : (i : ℕ) (w : List ℕ) → Has w → Has (start_to i w)
  unfolding start_to start_ring
  has_started zero w h = h
  has_started (suc i) w h = has_writes (start_to i w) (start_writes i (first_of (start_to i w) i)) (omega arith, (omega arith, (omega arith, (omega arith, tt)))) (has_started i w h)

  has_boxes : (w : List ℕ) → Has w → Has (all_boxed w)
  has_boxes w h = ap (λ (s : Store). s (ct SETTINGS) 0) (view_all w) ∙ h

  -- ---- stage by stage

  abbrev HasEnd : End → Type 0
  HasEnd (end a w) = Has w

  has_afterjoins : (t : join.JoinEnd) → HasJoin t → HasEnd (after_joins t)
  unfolding start_rings
  has_afterjoins (join.end (Ok tt) u) h = has_boxes (start_to (records_of u) u) (has_started (records_of u) u h)
  has_afterjoins (join.end (Err Knot) u) h = h
  has_afterjoins (join.end (Err Full) u) h = h

  has_aftersegments : (t : Made) → HasMade t → HasEnd (after_segments t)
  has_aftersegments (made (Some k) u js) h = has_afterjoins (process_horz_joins k js u) (has_joins k 0 js u h)
  has_aftersegments (made None u js) h = h

  -- ---- steps

  module _ {P : Type 0} (G : Geo P) (f : Coding P) where
    has_act : (w : List ℕ) (i : ℕ) (act : Act P) → Has w → Has (after_w f w i act)
    has_act w i stay h = h
    has_act w i (discard y) h = has_writes w (discard_writes i y) (omega arith, (omega arith, (omega arith, tt))) h
    has_act w i drop_point h = has_writes w (drop_writes (view w) i) (omega arith, (omega arith, (omega arith, (omega arith, (omega arith, tt))))) h
    has_act w i (move_on d) h = has_writes w (move_writes (view w) i d) (omega arith, (omega arith, tt)) h
    has_act w i (to_first d) h = has_writes w (to_first_writes (view w) i d) (omega arith, (omega arith, (omega arith, tt))) h
    has_act w i (double v d) h = has_writes w (double_writes (view w) i (f.xw v) (f.yw v) (f.zw v) d) (omega arith, (omega arith, (omega arith, (omega arith, (omega arith, (omega arith, (omega arith, (omega arith, (omega arith, (omega arith, tt)))))))))) h
    has_act w i (cut v put off d) h =
        has_writes (on_words w (ring_writes f (view w) i v put d)) (off_writes f (view w) (view (on_words w (ring_writes f (view w) i v put d))) i v off) (offs off)
        (has_writes w (ring_writes f (view w) i v put d) (rings put) h)
      where
        rings : (p : Bool) → Behind (ring_writes f (view w) i v p d)
        rings true = (omega arith, (omega arith, (omega arith, (omega arith, (omega arith, (omega arith, (omega arith, (omega arith, (omega arith, (omega arith, (omega arith, (omega arith, tt))))))))))))
        rings false = (omega arith, (omega arith, (omega arith, (omega arith, (omega arith, tt)))))

        offs : (o : Bool) → Behind (off_writes f (view w) (view (on_words w (ring_writes f (view w) i v put d))) i v o)
        offs true = (
          omega arith,
          (
            omega arith,
            (
              omega arith,
              (
                omega arith,
                (
                  omega arith,
                  (
                    omega arith,
                    (
                      omega arith,
                      (
                        omega arith,
                        (
                          omega arith,
                          (
                            omega arith,
                            (
                              omega arith,
                              (
                                omega arith,
                                (omega arith, (omega arith, (omega arith, (omega arith, (omega arith, (omega arith, (omega arith, tt))))))),
                              ),
                            ),
                          ),
                        ),
                      ),
                    ),
                  ),
                ),
              ),
            ),
          ),
        )
        offs false = tt

    has_step : (w : List ℕ) (i : ℕ) → Has w → Has (step_w G f w i)
    unfolding step_w
    has_step w i h = go (answer_s G f (view w) i)
      where
        go : (a : Answer) → Has (step_by_w G f w i a)
        go ok = has_act w i (act_at G f (view w) i) h
        go full = h
        go out_of_turn = h

    abbrev HasOutcome : Outcome → Type 0
    HasOutcome (outcome a w) = Has w

    has_steps : (n : ℕ) (a : Answer) (w : List ℕ) (i : ℕ) → Has w → HasOutcome (steps_by_w G f n a w i)
    has_steps zero a w i h = h
    has_steps (suc n) ok w i h = has_steps n (answer_s G f (view (step_w G f w i)) i) (step_w G f w i) i (has_step w i h)
    has_steps (suc n) full w i h = h
    has_steps (suc n) out_of_turn w i h = h

    abbrev HasRings : RingsEnd → Type 0
    HasRings (rings_done w) = Has w
    HasRings (rings_full w) = Has w

    has_rings : (m : ℕ) (w : List ℕ) (i : ℕ) → Has w → HasRings (finish_from_w G f m w i)
    unfolding finish_record
    has_rings zero w i h = h
    has_rings (suc m) w i h = go (steps_by_w G f (enough limit.POINTS) (answer_s G f (view w) i) w i) (has_steps (enough limit.POINTS) (answer_s G f (view w) i) w i h) (λ u g. has_rings m u (suc i) g)
      where
        go : (o : Outcome) → HasOutcome o → ((u : List ℕ) → Has u → HasRings (finish_from_w G f m u (suc i))) → HasRings (and_then o (λ (u : List ℕ). finish_from_w G f m u (suc i)))
        go (outcome ok u) g r = r u g
        go (outcome full u) g r = g
        go (outcome out_of_turn u) g r = r u g

  abbrev HasDone : RingsEnd → Type 0
  HasDone (rings_done w) = Has w
  HasDone (rings_full w) = Has w

  has_finished : (w : List ℕ) → Has w → HasDone (finish_rings w)
  unfolding finish_rings finish_w
  has_finished w h = go (finish_from_w (geometry_of (view w)) raised limit.RECORDS w 0) (has_rings (geometry_of (view w)) raised limit.RECORDS w 0 h)
    where
      go : (r : RingsEnd) → HasRings (geometry_of (view w)) raised r → HasDone (then_boxed r)
      go (rings_done u) g = has_boxes u g
      go (rings_full u) g = has_boxes u g

-- ---- of a job

module _ (bytes lent : List ℕ) where
  settings_opened : (w : List ℕ) → open_of bytes lent ≡ end (Ok tt) w → settings_of w ≡ settings_in bytes
  settings_opened w e = go (accept_of bytes (cleared lent) (replicate limit.SEGMENTS 0) (replicate JOIN_POINTS 0)) refl (accepts w bytes lent e).1
    where
      go : (T : fill.ReadEnd) → accept_of bytes (cleared lent) (replicate limit.SEGMENTS 0) (replicate JOIN_POINTS 0) ≡ T → after_rows T ≡ end (Ok tt) w → settings_of w ≡ settings_in bytes
      go (fill.end (Ok j) v ts ks) h f =
          subst (HasEnd (settings_in bytes)) f
          (has_aftersegments (settings_in bytes) (convert_horz_segs_to_joins v j.segments ts ks j.joins)
          (has_converted (settings_in bytes) v j.segments ts ks j.joins (settings_accepted bytes (cleared lent) (replicate limit.SEGMENTS 0) (replicate JOIN_POINTS 0) j v ts ks (accepts w bytes lent e).0 h)))
      go (fill.end (Err x) v ts ks) h f = absurd (let z : ◌≡◌ {A = ℕ} 0 1 = cc in omega arith)

  abbrev Left : Finished → Type 0
  Left f = (c o : ℕ) → f.answer ≡ ok_paths c o → settings_of f.words ≡ settings_in bytes

  left_written : (w t : List ℕ) (r : Result Written Refusal) → settings_of w ≡ settings_in bytes → Left (after_writing w r t)
  left_written w t (Ok p) h c o e = h
  left_written w t (Err x) h c o e = absurd (let z : ◌≡◌ {A = ℕ} 0 1 = cc in omega arith)

  left_stepped : (r : RingsEnd) (t : List ℕ) → HasDone (settings_in bytes) r → Left (after_steps r t)
  left_stepped (rings_done w) t h = left_written w (build_paths64 (view w) t).tray (build_paths64 (view w) t).answer h
  left_stepped (rings_full w) t h = λ c o e. absurd (let z : ◌≡◌ {A = ℕ} 0 1 = cc in omega arith)

  settings_finished : (t : List ℕ) → Left (finish_of bytes lent t)
  unfolding finish_of
  settings_finished t = go (open_of bytes lent) refl
    where
      go : (r : End) → open_of bytes lent ≡ r → Left (after_opening r t)
      go (end (Ok tt) w) e = left_stepped (finish_rings w) t (has_finished (settings_in bytes) w (settings_opened w e))
      go (end (Err x) w) e = λ c o f. absurd (let z : ◌≡◌ {A = ℕ} 0 1 = cc in omega arith)

  pub jobs_setting : JobsSetting bytes lent
  unfolding cutlist_of
  jobs_setting =
      record {
        opened = settings_opened;
        finished = settings_finished;
        listed = λ rate t c o e.
            ap (λ (r : Result Written Refusal). listed_as rate r (finish_of bytes lent t).words (finish_of bytes lent t).tray) e
            ∙ ap (λ (n : ℕ). paths_at rate (eqb (n / 2 % 2) 1) c o (finish_of bytes lent t).tray) (settings_finished t c o e);
      }
