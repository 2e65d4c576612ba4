-- Asking where a record's ring went: document 02, "one of eight reasons", for every work space and every record number.
use Rattle.std.specs.Prelude.{ℕ, Bool, cond, not, ◌||◌, List, eqb, ltb, length, Result, Ok, Err}
use Rattle.std.proofs.Math.Option.{Option, none, some}
use Rattle.job.specs.declared.refusal.Refusal.{Refusal}
use Rattle.job.specs.declared.refusal.Refusal.TheVariants.{OutOfTurn}
use Rattle.rings.specs.Progress.{Discard, at_validity, while_removing, at_split}
use Rattle.store.specs.Field.{rc, REASON, TAKER}
use Rattle.store.specs.Words.{Store, view}
use Rattle.store.specs.Reason.{JOINED, discard_of}
use Rattle.store.specs.Sound.{recs, ringless, is_open}
use Rattle.store.specs.Value.{reverse_solution}
use Rattle.handed.specs.Handed.{handed_of}
use Rattle.steps.specs.Live.{any_live}
use Rattle.paths.specs.declared.NoPath.{NoPath}
use Rattle.paths.specs.declared.NoPath.TheVariants.{Short, Small}
use Rattle.paths.specs.Path.{path_end, paths_below}
use Rattle.telling.specs.declared.Reason.{Reason}
use Rattle.telling.specs.declared.Reason.TheVariants.{NoRing, Joined, SmallRing, RingFell, SmallArea, ShortPath, SmallPath, Written}

-- "too small at the validity test; fell invalid while points were removed; area under 2.0 at a split"; no rule is kept: "no ring in the job"
abbrev pub discard_reason : Option Discard → Reason
discard_reason none = NoRing
discard_reason (some at_validity) = SmallRing
discard_reason (some while_removing) = RingFell
discard_reason (some at_split) = SmallArea

-- of a record without a ring, by the number and the taker that it keeps: "joined into another record, with the number of the one that took it in that join"
unfoldable pub kept_reason : ℕ → ℕ → Reason
kept_reason v t = cond (eqb v JOINED) (Joined t) (discard_reason (discard_of v))

-- "too short when the path was built (by any test but the small one); too small when the path was built; written, with its place from 0 among the closed or among the open paths"
abbrev pub end_reason : Bool → ℕ → Result ℕ NoPath → Reason
end_reason o place (Err Short) = ShortPath
end_reason o place (Err Small) = SmallPath
end_reason o place (Ok n) = Written o place

-- of a record with a ring: as many paths of its list come before its own
unfoldable pub path_reason : Store → ℕ → Reason
path_reason s i = end_reason (is_open s i) (length (paths_below i (is_open s i) s)) (path_end s (reverse_solution s) (is_open s i) i)

unfoldable pub reason_at : Store → ℕ → Reason
reason_at s i = cond (ringless s i) (kept_reason (s (rc REASON) i) (s (rc TAKER) i)) (path_reason s i)

-- by what was found out about the work space: then 12, "an unknown record, or while a closed ring isn't done"
abbrev pub reason_by : Result (Unit {0}) Refusal → List ℕ → ℕ → Result Reason Refusal
reason_by (Err r) w i = Err r
reason_by (Ok _) w i = cond (not (ltb i (recs (view w))) || any_live (view w)) (Err OutOfTurn) (Ok (reason_at (view w) i))

-- `reason_of`
unfoldable pub reason_of : List ℕ → ℕ → Result Reason Refusal
reason_of w i = reason_by (handed_of w) w i
