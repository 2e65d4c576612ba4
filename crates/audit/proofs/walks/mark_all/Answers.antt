-- mark_all meets its contract: after record i the marks are those of the records so far.
use borrow.Author.Rules.{rules}
use mathlib.Core.Path.{sym}
use Rattle.audit.proofs.Testing.{none, marks_none, marks_more, met_more}
use Rattle.audit.proofs.walks.mark_all.Goals as goal

pub loop-i-init : goal.loop-i-init
loop-i-init c = (marks_none _ _, sym (none _))

pub loop-i-preserved : goal.loop-i-preserved
loop-i-preserved c = (search (rules, marks_more), search met_more)
