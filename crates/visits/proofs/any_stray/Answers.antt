-- `visits::any_stray` meets its contract: the loop goes from word to word, and what has no mark then is on no ring.
use borrow.Author.Rules.{rules}
use Rattle.visits.proofs.Rounds.{stands_first, stray_over}
use Rattle.visits.proofs.any_stray.Goals as goal

pub loop-c-init : goal.loop-c-init
loop-c-init c = search (rules, stands_first)

pub returns : goal.returns
returns c = search (rules, stray_over)
