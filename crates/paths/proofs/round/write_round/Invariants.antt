-- `paths::write_round` meets its contract: what is written and what the rest of the walk adds is the path.
use Rattle.store.specs.Words.{view}
use Rattle.paths.specs.Walking.{link_of, to_go, Going, Laying, path_round}
use Rattle.paths.proofs.round.write_round.Given as goal

abbrev pub invariant-loop-q : goal.invariant-loop-q
invariant-loop-q l = Going l.w l.rev l.a l.q (Laying l.w l.b l.at l.initial.t l.t (path_round (view l.w) l.rev l.a))

abbrev pub decreases-loop-q : goal.decreases-loop-q
decreases-loop-q l = to_go (link_of (view l.w) l.rev) l.a 2048 l.q
