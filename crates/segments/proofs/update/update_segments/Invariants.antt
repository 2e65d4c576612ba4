-- `segments::update::update_segments` meets its contract: the loop follows the definition.
use Rattle.segments.specs.Update.{segments_of}
use Rattle.segments.proofs.Updates.{Updating}
use Rattle.segments.proofs.update.update_segments.Given as goal

abbrev pub invariant-loop-i : goal.invariant-loop-i
invariant-loop-i l = Updating (segments_of l.w l.n l.segments) l.w l.segments l.n l.list l.marks l.i
