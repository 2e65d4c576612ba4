-- try_from meets its contract: the loop follows `mark_from`, with the turns left to go, gathers the box on the way and tells whether it met k.
use borrow.Author.Rules.{rules}
use Rattle.audit.proofs.Testing.{mark_on}
use Rattle.handed.proofs.Trying.{tried_more, goes_on}
use Rattle.handed.proofs.Gathering.{gathers_on, round_back, round_over}
use Rattle.handed.proofs.rounds.Tested.try_from.Goals as goal

pub returns-then-marks-p-ne0 : goal.returns-then-marks-p-ne0
returns-then-marks-p-ne0 c = search (rules, round_back)

pub loop-turn-preserved : goal.loop-turn-preserved
loop-turn-preserved c = (search (rules, mark_on), search tried_more, search (rules, gathers_on c.loop-turn.invariant.2), search goes_on)

pub returns : goal.returns
returns c = round_over c.loop-turn.invariant.1 c.loop-turn.invariant.2 c.loop-turn.invariant.0 (search rules)
