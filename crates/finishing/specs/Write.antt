-- Writing out as a call: what it answers and the tray that it leaves, for every work space and every tray.
use Rattle.std.specs.Prelude.{ℕ, cond, List, Result, Ok, Err}
use Rattle.job.specs.declared.refusal.Refusal.{Refusal}
use Rattle.job.specs.declared.refusal.Refusal.TheVariants.{OutOfTurn}
use Rattle.store.specs.Words.{view}
use Rattle.handed.specs.Handed.{handed_of}
use Rattle.steps.specs.Live.{any_live}
use Rattle.paths.specs.Wrote.{Wrote, wrote, build_paths64}

-- by what was found out about the work space: then 12, then 11, "11 is last"
abbrev pub write_by : Result (Unit {0}) Refusal → List ℕ → List ℕ → Wrote
write_by (Err r) w t = wrote (Err r) t
write_by (Ok _) w t = cond (any_live (view w)) (wrote (Err OutOfTurn) t) (build_paths64 (view w) t)

-- `write_out`. A refused one leaves the tray as found; the work space is only read
unfoldable pub write_of : List ℕ → List ℕ → Wrote
write_of w t = write_by (handed_of w) w t
