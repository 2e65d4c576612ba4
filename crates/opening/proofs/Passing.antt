-- What the stages before give the stages after: a job that passed rows 1 to 8 may be converted, its joins may be made, its rings may be started.
use Prim.Native.Nat.{ℕ, ◌*◌, ◌≤◌}
use mathlib.Core.Path.{◌≡◌, refl, ap, ◌∙◌, sym, subst}
use mathlib.Core.List.{List}
use native.Mathlib.Omega.{arith}
use lib.ListN.{length, replicate, length-replicate}
use Rattle.std.proofs.Common.{Option, Some, Result, Ok, Err}
use Rattle.job.specs.Limits as limit
use Rattle.job.specs.declared.Job.{Job}
use Rattle.store.specs.Field.{BLOCK}
use Rattle.store.specs.Named.{records_of}
use Rattle.job.specs.declared.refusal.Refusal.{Refusal}
use Rattle.joins.specs.declared.JoinError.{JoinError}
use Rattle.reading.specs.Fill as fill
use Rattle.reading.specs.Fill.{fill_of}
use Rattle.reading.specs.Needs.{Space}
use Rattle.reading.specs.Read.{with_counts, read_of}
use Rattle.reading.proofs.Counted.{filled}
use Rattle.rows.proofs.Homes.{named_at}
use Rattle.accepting.specs.Accept.{judged, accept_of}
use Rattle.accepting.specs.Accepted.{Accepted}
use Rattle.accepting.proofs.Accepting.{accepted}
use Rattle.converting.specs.Make.{made, convert_horz_segs_to_joins}
use Rattle.converting.specs.Needs.{Converting}
use Rattle.converting.proofs.Converting.{JoinsOf, convert_joins}
use Rattle.joins.specs.Join as join
use Rattle.joins.specs.Join.{process_horz_joins}
use Rattle.joins.specs.Needs.{Joins}
use Rattle.joins.specs.Resolved.{Ready}
use Rattle.joins.proofs.Turns.{Still, words, joins_kept}
use Rattle.opening.specs.Open.{JOIN_POINTS}

-- ---- a job that passed rows 1 to 8

-- the two lists are as long as they were
module _ (bytes w ss js v ts ks : List ℕ) (j : Job) where
  by_fill : (T : fill.ReadEnd) → fill_of bytes w ss js ≡ T → judged (with_counts T) ≡ fill.end (Ok j) v ts ks → (length ts ≡ length ss) × (length ks ≡ length js)
  by_fill (fill.end (Ok i) u us ls) e f =
      let c : us ≡ ts = cc in
      let d : ls ≡ ks = cc in
      let t = filled bytes i u us ls w ss js e in
      (ap length (sym c) ∙ t.segments, ap length (sym d) ∙ t.joins)
  by_fill (fill.end (Err x) u us ls) e f = absurd (let z : ◌≡◌ {A = ℕ} 0 1 = cc in omega arith)

  lengths : accept_of bytes w ss js ≡ fill.end (Ok j) v ts ks → (length ts ≡ length ss) × (length ks ≡ length js)
  unfolding accept_of read_of
  lengths e = by_fill (fill_of bytes w ss js) refl e

lists : (w : List ℕ) → BLOCK ≤ length w → Space w (replicate limit.SEGMENTS 0) (replicate JOIN_POINTS 0)
lists w h = record { words = h; segments = omega (arith, length-replicate {A = ℕ} limit.SEGMENTS 0); joins = omega (arith, length-replicate {A = ℕ} JOIN_POINTS 0) }

module _ (bytes w v ts ks : List ℕ) (j : Job) (long : BLOCK ≤ length w) where
  pub passed : accept_of bytes w (replicate limit.SEGMENTS 0) (replicate JOIN_POINTS 0) ≡ fill.end (Ok j) v ts ks → Accepted j v ts ks
  passed e = accepted bytes w (replicate limit.SEGMENTS 0) (replicate JOIN_POINTS 0) (lists w long) j v ts ks e

  pub converting : accept_of bytes w (replicate limit.SEGMENTS 0) (replicate JOIN_POINTS 0) ≡ fill.end (Ok j) v ts ks → Converting v ts j.segments ks j.joins
  converting e =
      let a = passed e in
      let l = lengths bytes w (replicate limit.SEGMENTS 0) (replicate JOIN_POINTS 0) v ts ks j e in
      let i = a.counts.within in
      record {
        listed = record { ready = a.ready; fits = omega (arith, l.0, length-replicate {A = ℕ} limit.SEGMENTS 0, i.segments); few = i.segments; point = named_at v ts j.segments a.segments };
        room = omega (arith, l.1, length-replicate {A = ℕ} JOIN_POINTS 0);
        few = i.joins;
        named = named_at v ks (2 * j.joins) a.joins;
      }

  -- for the code of `stages`
  pub may_convert : (r : Result Job Refusal) → fill.end r v ts ks ≡ accept_of bytes w (replicate limit.SEGMENTS 0) (replicate JOIN_POINTS 0) → r ≡ Ok j → Converting v ts j.segments ks j.joins
  may_convert r e f = converting (sym e ∙ ap (λ (o : Result Job Refusal). fill.end o v ts ks) f)

-- ---- its joins

pub may_join : (w ss : List ℕ) (m : ℕ) (js : List ℕ) (n : ℕ) (c : Option ℕ) (k : ℕ) (x ks : List ℕ) → Converting w ss m js n → made c x ks ≡ convert_horz_segs_to_joins w m ss js n → c ≡ Some k → Joins x k ks
may_join w ss m js n c k x ks g e f =
    subst (JoinsOf w ss m js n g) (let z : convert_horz_segs_to_joins w m ss js n ≡ made (Some k) x ks = cc in z) (convert_joins w ss m js n g)

pub made_ready : (k : ℕ) (js w x : List ℕ) (t : Result (Unit {0}) JoinError) → Joins w k js → join.end t x ≡ process_horz_joins k js w → Ready x
made_ready k js w x t g e = (subst (λ (z : join.JoinEnd). Still w (words z)) (sym e) (joins_kept k js w g)).ready

-- the needs of `start_rings`
pub made_long : (k : ℕ) (js w x : List ℕ) (t : Result (Unit {0}) JoinError) → Joins w k js → join.end t x ≡ process_horz_joins k js w → BLOCK ≤ length x
made_long k js w x t g e = (made_ready k js w x t g e).long

pub made_few : (k : ℕ) (js w x : List ℕ) (t : Result (Unit {0}) JoinError) → Joins w k js → join.end t x ≡ process_horz_joins k js w → records_of x ≤ limit.RECORDS
made_few k js w x t g e = (made_ready k js w x t g e).resolved.few_records
