-- `visits::gather` meets its contract: the loop goes from ring to ring as long as their points lie in one word.
use mathlib.Core.Path.{refl}
use borrow.Author.Rules.{rules}
use Rattle.visits.proofs.Rounds.{gather_begun, gather_met, gather_on, gather_more}
use Rattle.visits.proofs.gather.Goals as goal

pub loop-c-init : goal.loop-c-init
loop-c-init c = gather_begun _ _ _

pub returns-in_err-s : goal.returns-in_err-s
returns-in_err-s c = search (rules, gather_met c.loop-c.invariant _ c.requires.2 c.loop-c-test.true)

pub returns-in-Some : goal.returns-in-Some
returns-in-Some c = search (rules, gather_on c.loop-c.invariant _ c.requires.2 c.loop-c-test.true)

pub loop-c-preserved : goal.loop-c-preserved
loop-c-preserved c = gather_more c.loop-c.invariant _ c.requires.2 c.loop-c-test.true _ _ refl (rw c.in-None.is at c.in_ok-s.ensures) c.place_of-c.ensures
