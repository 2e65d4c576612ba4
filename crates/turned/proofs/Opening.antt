-- Opening two jobs that differ in the settings byte only: the same refusal, or words that differ in the settings only.
use Prim.Native.Nat.{ℕ, zero, suc}
use mathlib.Core.Path.{◌≡◌, refl, ap, ◌∙◌}
use mathlib.Core.Bool.{Bool, true, false, cond}
use mathlib.Core.List.{List}
use lib.Dec.{ltb}
use lib.ListN.{length, get_or, set, replicate}
use Rattle.std.specs.Prelude.{Result, Ok, Err}
use Rattle.std.proofs.Common.{Some, None}
use Rattle.job.specs.Limits.{SEGMENTS}
use Rattle.job.specs.declared.Job.{Job}
use Rattle.job.specs.declared.refusal.Refusal.{Refusal}
use Rattle.job.specs.declared.refusal.Refusal.TheVariants as refusal
use Rattle.store.specs.Field.{ct, SETTINGS, LENGTH}
use Rattle.store.specs.Words.{put}
use Rattle.store.specs.Named.{records_of}
use Rattle.store.specs.Boxes.{all_boxed}
use Rattle.rows.specs.Rows.{rows_of}
use Rattle.joins.specs.declared.JoinError.TheVariants.{Knot, Full}
use Rattle.reading.specs.Fill as fill
use Rattle.reading.specs.Fill.{fill_of}
use Rattle.reading.specs.Read.{counted, with_counts, read_of}
use Rattle.accepting.specs.Accept.{answer, judged, accept_of}
use Rattle.converting.specs.Make.{Made, made, convert_horz_segs_to_joins}
use Rattle.joins.specs.Join as join
use Rattle.joins.specs.Join.{process_horz_joins}
use Rattle.opening.specs.Start.{start_ring, start_to, start_rings}
use Rattle.opening.specs.Open.{End, end, after_joins, after_segments, after_rows, JOIN_POINTS, stages_of, settled, cleared, open_of}
use Rattle.turned.proofs.Settings.{re, cell_re, put_re, re_re}
use Rattle.turned.proofs.Judging.{rows_re}
use Rattle.turned.proofs.Boxes.{all_re}
use Rattle.turned.proofs.Joining.{re_end, joins_re}
use Rattle.turned.proofs.Converting.{re_made, convert_re}
use Rattle.turned.proofs.Reading.{with_bits, re_read, fill_bits}

pub settings_put : (v : ℕ) (w : List ℕ) → put (ct SETTINGS) w 0 v ≡ re v w
unfolding put re
settings_put v w = refl

module _ (b : ℕ) where
  -- ---- rings at their start

  ring_re : (w : List ℕ) (i : ℕ) → start_ring (re b w) i ≡ re b (start_ring w i)
  unfolding start_ring
  ring_re w i = simp (cell_re, put_re)

  to_re : (i : ℕ) (w : List ℕ) → start_to i (re b w) ≡ re b (start_to i w)
  unfolding start_to
  to_re zero w = refl
  to_re (suc i) w = ap (λ (u : List ℕ). start_ring u i) (to_re i w) ∙ ring_re (start_to i w) i

  rings_re : (w : List ℕ) → start_rings (re b w) ≡ re b (start_rings w)
  unfolding start_rings
  rings_re w = ap (λ (n : ℕ). all_boxed (start_to n (re b w))) (simp cell_re) ∙ ap all_boxed (to_re (records_of w) w) ∙ all_re b (start_to (records_of w) w)

  -- ---- a job that was read

  abbrev re_job : fill.ReadEnd → fill.ReadEnd
  re_job (fill.end (Ok j) w ss js) = fill.end (Ok (with_bits b j)) (re b w) ss js
  re_job (fill.end (Err r) w ss js) = fill.end (Err r) w ss js

  counted_re : (j : Job) (w : List ℕ) → counted (with_bits b j) w ≡ re b (counted j w)
  counted_re j w = simp (settings_put, put_re, re_re)

  counts_re : (e : fill.ReadEnd) → with_counts (re_read b e) ≡ re_job (with_counts e)
  counts_re (fill.end (Ok j) w ss js) = ap (λ (u : List ℕ). fill.end (Ok (with_bits b j)) u ss js) (counted_re j w)
  counts_re (fill.end (Err r) w ss js) = refl

  read_re : (p w ss js : List ℕ) → ltb 3 b ≡ ltb 3 (get_or p 3 0) → read_of (set p 3 b) w ss js ≡ re_job (read_of p w ss js)
  unfolding read_of
  read_re p w ss js e = ap with_counts (fill_bits b p w ss js e) ∙ counts_re (fill_of p w ss js)

  -- ---- the stages after it

  abbrev pub re_open : End → End
  re_open (end (Ok tt) w) = end (Ok tt) (re b w)
  re_open (end (Err r) w) = end (Err r) w

  module _ (n : ℕ) where
    joins_end : (e : join.JoinEnd) → settled n (after_joins (re_end b e)) ≡ re_open (settled n (after_joins e))
    joins_end (join.end (Ok tt) w) = ap (end (Ok tt)) (rings_re w)
    joins_end (join.end (Err Knot) w) = refl
    joins_end (join.end (Err Full) w) = refl

    segments_end : (m : Made) → settled n (after_segments (re_made b m)) ≡ re_open (settled n (after_segments m))
    segments_end (made (Some k) w js) = ap (λ (e : join.JoinEnd). settled n (after_joins e)) (joins_re b k 0 js w) ∙ joins_end (process_horz_joins k js w)
    segments_end (made None w js) = refl

    rows_end : (e : fill.ReadEnd) → settled n (after_rows (judged (re_job e))) ≡ re_open (settled n (after_rows (judged e)))
    rows_end (fill.end (Err r) w ss js) = refl
    rows_end (fill.end (Ok j) w ss js) =
        ap (λ (v : Result (Unit {0}) Refusal). settled n (after_rows (fill.end (answer v (with_bits b j)) (re b w) ss js))) (rows_re b w ss j.segments js j.joins)
        ∙ go (rows_of w ss j.segments js j.joins)
      where
        go : (v : Result (Unit {0}) Refusal) → settled n (after_rows (fill.end (answer v (with_bits b j)) (re b w) ss js)) ≡ re_open (settled n (after_rows (fill.end (answer v j) w ss js)))
        go (Ok _) = ap (λ (m : Made). settled n (after_segments m)) (convert_re b w j.segments ss js j.joins) ∙ segments_end (convert_horz_segs_to_joins w j.segments ss js j.joins)
        go (Err r) = refl

  -- ---- the whole

  pub open_re : (p lent : List ℕ) → ltb 3 b ≡ ltb 3 (get_or p 3 0) → open_of (set p 3 b) lent ≡ re_open (open_of p lent)
  unfolding open_of stages_of accept_of
  open_re p lent e =
      let n : ℕ = length lent in
      ap (λ (x : fill.ReadEnd). cond (ltb n LENGTH) (end (Err refusal.Full) (replicate n 0)) (settled n (after_rows (judged x)))) (read_re p (cleared lent) (replicate SEGMENTS 0) (replicate JOIN_POINTS 0) e)
      ∙ ap (λ (x : End). cond (ltb n LENGTH) (end (Err refusal.Full) (replicate n 0)) x) (rows_end n (read_of p (cleared lent) (replicate SEGMENTS 0) (replicate JOIN_POINTS 0)))
      ∙ go (ltb n LENGTH) (settled n (after_rows (judged (read_of p (cleared lent) (replicate SEGMENTS 0) (replicate JOIN_POINTS 0)))))
    where
      go : (t : Bool) (x : End) → cond t (end (Err refusal.Full) (replicate (length lent) 0)) (re_open x) ≡ re_open (cond t (end (Err refusal.Full) (replicate (length lent) 0)) x)
      go true x = refl
      go false x = refl
