-- mark_all meets its contract: after record i the marks are those of the records so far.
use mathlib.Core.Path.{◌≡◌}
use Rattle.audit.specs.Tests.{any_below}
use Rattle.audit.specs.Marks.{marks_by, meets}
use Rattle.audit.proofs.walks.mark_all.Given as goal

abbrev pub invariant-loop-i : goal.invariant-loop-i
invariant-loop-i l = (l.marks ≡ marks_by l.w l.initial.marks l.i) × (l.shared ≡ any_below l.i (meets l.w l.initial.marks))
