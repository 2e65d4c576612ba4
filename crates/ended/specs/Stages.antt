-- The stages of opening an accepted job, by the words that each leaves.
use Rattle.std.specs.Prelude.{◌≡◌, List, ℕ, replicate, Some, Ok}
use Rattle.job.specs.Limits as limit
use Rattle.job.specs.declared.Job.{Job}
use Rattle.reading.specs.Fill as fill
use Rattle.accepting.specs.Accept.{accept_of}
use Rattle.converting.specs.Make.{made, convert_horz_segs_to_joins}
use Rattle.joins.specs.Join.{end, process_horz_joins}
use Rattle.opening.specs.Start.{start_rings}
use Rattle.opening.specs.Open.{JOIN_POINTS, cleared}

-- of the job's bytes and the lent work space; w is what opening leaves
pub record Stages (bytes lent w : List ℕ) : Type 0 where
  pub job : Job
  -- rows 1 to 8: the job as read, its segments, its own joins
  pub read : List ℕ
  pub segments : List ℕ
  pub own : List ℕ
  pub accepted : accept_of bytes (cleared lent) (replicate limit.SEGMENTS 0) (replicate JOIN_POINTS 0) ≡ fill.end (Ok job) read segments own
  -- `convert_horz_segs_to_joins`: the words, and all joins
  pub levelled : List ℕ
  pub joins : List ℕ
  pub many : ℕ
  pub converted : convert_horz_segs_to_joins read job.segments segments own job.joins ≡ made (Some many) levelled joins
  -- `process_horz_joins`
  pub joined : List ℕ
  pub done : process_horz_joins many joins levelled ≡ end (Ok tt) joined
  pub started : start_rings joined ≡ w
