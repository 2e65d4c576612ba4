-- `visits::resolving::find_all` meets its contract: no chain circles, so each record's home can be reached and written down.
use mathlib.Core.Path.{refl}
use borrow.Author.Rules.{rules}
use Rattle.visits.proofs.Reaching.{none_found, no_circle}
use Rattle.visits.proofs.resolving.find_all.Goals as goal

pub loop-i-init : goal.loop-i-init
loop-i-init c = (search (rules, none_found), refl)

pub reach-h-requires : goal.reach-h-requires
reach-h-requires c = search (rules, no_circle)

pub note-requires : goal.note-requires
note-requires c = search (rules, no_circle)
