-- `rewriting::rewrite` meets its contract: zeros, the length, the stages, zeros again.
use borrow.Author.Rules.{rules}
use Rattle.rewriting.proofs.Ends.{too_short, all_written}
use Rattle.rewriting.proofs.rewrite.Goals as goal

pub returns-then-work-lt-LENGTH : goal.returns-then-work-lt-LENGTH
returns-then-work-lt-LENGTH c = too_short _ _ _ _ _ c.clear.ensures c.clear-2.ensures c.if-work-lt-LENGTH.true

pub returns : goal.returns
returns c = all_written _ _ _ _ _ c.clear.ensures c.clear-2.ensures _ _ _ _ _ c.if-work-lt-LENGTH.false c.stages-a.ensures (search rules) c.clear-3.ensures c.settle.ensures
