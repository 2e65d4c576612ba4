-- `paths::round_size` meets its contract: the points counted and those that the rest of the walk adds are all.
use lib.ListN.{length}
use Rattle.store.specs.Words.{view}
use Rattle.paths.specs.Walking.{link_of, to_go, Going, Counting, path_round}
use Rattle.paths.proofs.round.round_size.Given as goal

abbrev pub invariant-loop-q : goal.invariant-loop-q
invariant-loop-q l = Going l.w l.rev l.a l.q (Counting l.w l.b l.n (length (path_round (view l.w) l.rev l.a)))

abbrev pub decreases-loop-q : goal.decreases-loop-q
decreases-loop-q l = to_go (link_of (view l.w) l.rev) l.a 2048 l.q
