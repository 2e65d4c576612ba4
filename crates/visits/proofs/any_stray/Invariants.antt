-- `visits::any_stray` meets its contract: the loop goes from word to word, and what has no mark then is on no ring.
use Rattle.visits.specs.Marks.{Standing, to_go}
use Rattle.visits.proofs.any_stray.Given as goal

abbrev pub invariant-loop-c : goal.invariant-loop-c
invariant-loop-c l = Standing l.w l.c l.m.words

abbrev pub decreases-loop-c : goal.decreases-loop-c
decreases-loop-c l = to_go l.w l.c
