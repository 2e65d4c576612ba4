-- Which rows the calls can give: opening those up to 10, the tests of a handed work space those up to 7, and 10 where it is too short; and with a tray of `TRAY` bytes neither writing
-- out nor finishing in one call ever gives 11.
use Prim.Native.Nat.{ℕ, zero, suc, ◌≤◌}
use mathlib.Core.Path.{◌≡◌, refl, sym, subst}
use mathlib.Core.Logic.{◌≢◌}
use mathlib.Core.Bool.{Bool, true, false, cond, ◌||◌}
use mathlib.Core.List.{List}
use native.Mathlib.Omega.{arith}
use lib.Dec.{ltb, eqb}
use lib.ListN.{length, drop, replicate}
use Rattle.std.specs.Prelude.{Result, Ok, Err}
use Rattle.std.proofs.Common.{Some, None}
use Rattle.job.specs.Refusal.{number_of}
use Rattle.job.specs.declared.refusal.Refusal.{Refusal}
use Rattle.job.specs.declared.refusal.Refusal.TheVariants.{Torn, Strange, Crowded, OffTheTable, NoSuch, Loose, Muddled, OpenEdge, Full, SmallTray, OutOfTurn}
use Rattle.job.specs.declared.Job.{Job}
use Rattle.job.specs.declared.field.Field.{Field}
use Rattle.job.specs.declared.field.Field.TheVariants.{Settings, Point, Record, Segment, Join}
use Rattle.job.specs.declared.refusal.Refusal.{Refusal}
use Rattle.joins.specs.declared.JoinError.TheVariants as join_error
use Rattle.joins.specs.declared.JoinError.TheVariants.{Knot}
use Rattle.job.specs.Field.{tag_of, kind_of, torn_header, strange_tag, torn_value, field_in, value_of, strange_bits, crowded, body_of, field_of}
use Rattle.job.specs.Job.{fresh}
use Rattle.store.specs.Field.{LENGTH}
use Rattle.store.specs.Words.{view}
use Rattle.audit.specs.Tests.{any_reached, any_record, off_table, no_such, no_such_of, lost_taker, loose, shared, misplaced, untold, tests_of}
use Rattle.audit.specs.Tests as tests
use Rattle.handed.specs.Handed.{any_misboxed, boxes_tested, kept_twice, names_tested, tested_of, handed_of}
use Rattle.handed.proofs.Handing.{handed_sound}
use Rattle.reading.specs.Fill as fill
use Rattle.reading.specs.Fill.{placed, taken, turn_of, follow, run, fill_of}
use Rattle.reading.specs.Read.{with_counts, read_of}
use Rattle.rows.specs.Rows.{off_the_table, no_such_number, loose_link, muddled, open_edge, rows_of}
use Rattle.accepting.specs.Accept.{answer, judged, accept_of}
use Rattle.converting.specs.Make.{Made, made, convert_horz_segs_to_joins}
use Rattle.joins.specs.Join as join
use Rattle.joins.specs.Join.{process_horz_joins}
use Rattle.opening.specs.Open.{End, end, after_joins, after_segments, after_rows, stages_of, settled, cleared, open_of, JOIN_POINTS}
use Rattle.job.specs.Limits.{SEGMENTS}
use Rattle.acts.specs.Finish.{RingsEnd, rings_done, rings_full}
use Rattle.std.specs.Prelude.{Result, Ok, Err}
use Rattle.job.specs.declared.refusal.Refusal.{Refusal}
use Rattle.paths.specs.declared.Written.{Written}
use Rattle.paths.specs.Tray.{TRAY}
use Rattle.paths.specs.Wrote.{Wrote, wrote, build_paths64}
use Rattle.paths.proofs.Bound.{never_small}
use Rattle.store.specs.Good.{Sound}
use Rattle.finishing.specs.Start.{Start}
use Rattle.steps.specs.Live.{any_live}
use Rattle.finishing.specs.Write.{write_by, write_of}
use Rattle.finishing.specs.Finish.{finish_rings}
use Rattle.finishing.specs.InOneCall.{after_writing, after_steps, after_opening, finish_of}
use Rattle.finishing.proofs.InOneCall.{done_ready, opening_left}

-- ---- reading gives rows 1 to 3, judging 4 to 8

abbrev ReadTo : ℕ → Result (Field × ℕ) Refusal → Type 0
ReadTo m (Ok (f, n)) = Unit {0}
ReadTo m (Err x) = number_of x ≤ m

abbrev JudgedTo : ℕ → Result (Unit {0}) Refusal → Type 0
JudgedTo m (Ok _) = Unit {0}
JudgedTo m (Err x) = number_of x ≤ m

abbrev FilledTo : ℕ → fill.ReadEnd → Type 0
FilledTo m (fill.end (Ok j) w ss js) = Unit {0}
FilledTo m (fill.end (Err x) w ss js) = number_of x ≤ m

field_rows : (j : Job) (s : List ℕ) → ReadTo 8 (field_of j s)
unfolding field_of body_of
field_rows j s = go (torn_header s) (strange_tag j.last (tag_of s)) (torn_value (kind_of (tag_of s)) s) (strange_bits (field_in (kind_of (tag_of s)) (value_of s))) (crowded (kind_of (tag_of s)) j) (field_in (kind_of (tag_of s)) (value_of s)) _
  where
    go : (a b c d e : Bool) (f : Field) (n : ℕ)
        → ReadTo 8 (cond a (Err Torn) (cond b (Err Strange) (cond c (Err Torn) (cond d (Err Strange) (cond e (Err Crowded) (Ok (f, n)))))))
    go true b c d e f n = omega arith
    go false true c d e f n = omega arith
    go false false true d e f n = omega arith
    go false false false true e f n = omega arith
    go false false false false true f n = omega arith
    go false false false false false f n = tt

placed_rows : (f : Field) (n : ℕ) (j : Job) (w ss js : List ℕ) → FilledTo 8 (placed f n j w ss js)
placed_rows (Settings bits) n j w ss js = tt
placed_rows (Point x y next prev rec z) n j w ss js = tt
placed_rows (Record flags owner first) n j w ss js = tt
placed_rows (Segment p) n j w ss js = tt
placed_rows (Join a b) n j w ss js = tt

taken_rows : (r : Result (Field × ℕ) Refusal) (j : Job) (w ss js : List ℕ) → ReadTo 8 r → FilledTo 8 (taken r j w ss js)
taken_rows (Ok (f, n)) j w ss js h = placed_rows f n j w ss js
taken_rows (Err x) j w ss js h = h

follow_rows : (f : Job → List ℕ → List ℕ → List ℕ → fill.ReadEnd) → ((j : Job) (w ss js : List ℕ) → FilledTo 8 (f j w ss js)) → (e : fill.ReadEnd) → FilledTo 8 e → FilledTo 8 (follow f e)
follow_rows f g (fill.end (Ok j) w ss js) h = g j w ss js
follow_rows f g (fill.end (Err x) w ss js) h = h

run_rows : (k : ℕ) (bytes : List ℕ) (j : Job) (w ss js : List ℕ) → FilledTo 8 (run k bytes j w ss js)
unfolding run turn_of
run_rows zero bytes j w ss js = omega arith
run_rows (suc k) bytes j w ss js =
    go (ltb j.at (length bytes)) (follow (run k bytes) (turn_of bytes j w ss js))
    (follow_rows (run k bytes) (run_rows k bytes) (turn_of bytes j w ss js) (taken_rows (field_of j (drop j.at bytes)) j w ss js (field_rows j (drop j.at bytes))))
  where
    go : (b : Bool) (e : fill.ReadEnd) → FilledTo 8 e → FilledTo 8 (cond b e (fill.end (Ok j) w ss js))
    go true e h = h
    go false e h = tt

fill_rows : (bytes w ss js : List ℕ) → FilledTo 8 (fill_of bytes w ss js)
unfolding fill_of
fill_rows bytes w ss js = go (eqb (length bytes) 0) (run (suc (length bytes)) bytes fresh w ss js) (run_rows (suc (length bytes)) bytes fresh w ss js)
  where
    go : (b : Bool) (e : fill.ReadEnd) → FilledTo 8 e → FilledTo 8 (cond b (fill.end (Err Strange) w ss js) e)
    go true e h = omega arith
    go false e h = h

count_rows : (e : fill.ReadEnd) → FilledTo 8 e → FilledTo 8 (with_counts e)
count_rows (fill.end (Ok j) w ss js) h = tt
count_rows (fill.end (Err x) w ss js) h = h

rows_rows : (w ss : List ℕ) (m : ℕ) (js : List ℕ) (n : ℕ) → JudgedTo 8 (rows_of w ss m js n)
unfolding rows_of
rows_rows w ss m js n = go (off_the_table w) (no_such_number w ss m js n) (loose_link w) (muddled w) (open_edge w ss m js n)
  where
    go : (a b c d e : Bool)
        → JudgedTo 8 (cond a (Err OffTheTable) (cond b (Err NoSuch) (cond c (Err Loose) (cond d (Err Muddled) (cond e (Err OpenEdge) (Ok tt))))))
    go true b c d e = omega arith
    go false true c d e = omega arith
    go false false true d e = omega arith
    go false false false true e = omega arith
    go false false false false true = omega arith
    go false false false false false = tt

judged_rows : (e : fill.ReadEnd) → FilledTo 8 e → FilledTo 8 (judged e)
judged_rows (fill.end (Ok j) w ss js) h = go (rows_of w ss j.segments js j.joins) (rows_rows w ss j.segments js j.joins)
  where
    go : (v : Result (Unit {0}) Refusal) → JudgedTo 8 v → FilledTo 8 (fill.end (answer v j) w ss js)
    go (Ok _) k = tt
    go (Err x) k = k
judged_rows (fill.end (Err x) w ss js) h = h

-- ---- opening gives rows 1 to 10

abbrev pub OpenedTo : ℕ → End → Type 0
OpenedTo m (end (Ok tt) w) = Unit {0}
OpenedTo m (end (Err x) w) = number_of x ≤ m

joins_rows : (e : join.JoinEnd) → OpenedTo 10 (after_joins e)
joins_rows (join.end (Ok tt) w) = tt
joins_rows (join.end (Err Knot) w) = omega arith
joins_rows (join.end (Err join_error.Full) w) = omega arith

segments_rows : (m : Made) → OpenedTo 10 (after_segments m)
segments_rows (made (Some k) w js) = joins_rows (process_horz_joins k js w)
segments_rows (made None w js) = omega arith

stages_rows : (e : fill.ReadEnd) → FilledTo 8 e → OpenedTo 10 (after_rows e)
stages_rows (fill.end (Ok j) w ss js) h = segments_rows (convert_horz_segs_to_joins w j.segments ss js j.joins)
stages_rows (fill.end (Err x) w ss js) h = omega (arith, h)

settled_rows : (n : ℕ) (e : End) → OpenedTo 10 e → OpenedTo 10 (settled n e)
settled_rows n (end (Ok tt) w) h = tt
settled_rows n (end (Err x) w) h = h

pub open_rows : (bytes lent : List ℕ) → OpenedTo 10 (open_of bytes lent)
unfolding open_of stages_of accept_of read_of
open_rows bytes lent =
    let n : ℕ = length lent in
    let w : List ℕ = cleared lent in
    let ss : List ℕ = replicate SEGMENTS 0 in
    let js : List ℕ = replicate JOIN_POINTS 0 in
    let read : fill.ReadEnd = fill_of bytes w ss js in
    go (ltb n LENGTH) (settled n (after_rows (judged (with_counts read))))
    (settled_rows n (after_rows (judged (with_counts read))) (stages_rows (judged (with_counts read)) (judged_rows (with_counts read) (count_rows read (fill_rows bytes w ss js)))))
  where
    go : (b : Bool) (e : End) → OpenedTo 10 e → OpenedTo 10 (cond b (end (Err Full) (replicate (length lent) 0)) e)
    go true e h = omega arith
    go false e h = h

-- ---- the tests of a handed work space give rows 3 to 7

pub tests_rows : (w : List ℕ) → JudgedTo 7 (tests_of w)
unfolding tests_of
tests_rows w =
    go (tests.crowded w) (any_reached w (off_table w)) (any_reached w (no_such w) || (any_record w (no_such_of w) || any_record w (lost_taker w))) (any_reached w (loose w))
    (any_record w (shared w) || (any_record w (misplaced w) || any_record w (untold w)))
  where
    go : (a b c d e : Bool)
        → JudgedTo 7 (cond a (Err Crowded) (cond b (Err OffTheTable) (cond c (Err NoSuch) (cond d (Err Loose) (cond e (Err Muddled) (Ok tt))))))
    go true b c d e = omega arith
    go false true c d e = omega arith
    go false false true d e = omega arith
    go false false false true e = omega arith
    go false false false false true = omega arith
    go false false false false false = tt

-- and its length row 10
pub handed_rows : (w : List ℕ) → JudgedTo 10 (handed_of w)
unfolding handed_of tested_of
handed_rows w = go (ltb (length w) LENGTH) (tests_of w) (tests_rows w)
  where
    names : (c : Bool) → JudgedTo 10 (cond c (Err Muddled) (Ok tt))
    names true = omega arith
    names false = tt

    boxes : (c : Bool) → JudgedTo 10 (names_tested w (cond c (Err Muddled) (Ok tt)))
    boxes true = omega arith
    boxes false = names (kept_twice w)

    go : (b : Bool) (v : Result (Unit {0}) Refusal) → JudgedTo 7 v → JudgedTo 10 (cond b (Err Full) (names_tested w (boxes_tested w v)))
    go true v h = omega arith
    go false (Err x) h = omega (arith, h)
    go false (Ok _) h = boxes (any_misboxed w)

-- ---- never 11

abbrev NotSmall : Result Written Refusal → Type 0
NotSmall (Ok p) = Unit {0}
NotSmall (Err x) = number_of x ≢ 11

module _ (t : List ℕ) (long : TRAY ≤ length t) where
  written_not_small : (w : List ℕ) → Sound (view w) → NotSmall (build_paths64 (view w) t).answer
  written_not_small w s = subst (λ (b : Wrote). NotSmall b.answer) (sym (never_small (view w) s t long)) tt

  pub write_not_small : (w : List ℕ) → (write_of w t).answer ≢ Err SmallTray
  unfolding write_of
  write_not_small w e = subst NotSmall e (go (handed_of w) refl (handed_rows w)) refl
    where
      passed : (l : Bool) → Sound (view w) → NotSmall (cond l (wrote (Err OutOfTurn) t) (build_paths64 (view w) t)).answer
      passed true s = λ z. omega (arith, z)
      passed false s = written_not_small w s

      go : (v : Result (Unit {0}) Refusal) → handed_of w ≡ v → JudgedTo 10 v → NotSmall (write_by v w t).answer
      go (Err r) h k = λ z. omega (arith, z, k)
      go (Ok _) h k = passed (any_live (view w)) (handed_sound w h).sound

  after_writing_lem : (w : List ℕ) (r : Result Written Refusal) (u : List ℕ) → NotSmall r → NotSmall (after_writing w r u).answer
  after_writing_lem w (Ok p) u h = tt
  after_writing_lem w (Err x) u h = h

  after_steps_lem : (w : List ℕ) → Start w → (r : RingsEnd) → finish_rings w ≡ r → NotSmall (after_steps r t).answer
  after_steps_lem w o (rings_done w₁) e = after_writing_lem w₁ (build_paths64 (view w₁) t).answer (build_paths64 (view w₁) t).tray (written_not_small w₁ (done_ready w w₁ o e).sound)
  after_steps_lem w o (rings_full w₁) e = λ z. omega (arith, z)

  pub finish_not_small : (bytes lent : List ℕ) → (finish_of bytes lent t).answer ≢ Err SmallTray
  unfolding finish_of
  finish_not_small bytes lent e = subst NotSmall e (go (open_of bytes lent) refl (open_rows bytes lent)) refl
    where
      go : (r : End) → open_of bytes lent ≡ r → OpenedTo 10 r → NotSmall (after_opening r t).answer
      go (end (Ok tt) w) h k = after_steps_lem w (opening_left bytes lent w h) (finish_rings w) refl
      go (end (Err x) w) h k = λ z. omega (arith, z, k)
