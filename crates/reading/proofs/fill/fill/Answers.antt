-- `reading::fill::fill` meets its contract: the loop follows `run`, one turn at a time.
use mathlib.Core.Path.{refl}
use borrow.Author.Rules.{rules}
use Rattle.reading.proofs.Going.{begun, empty, stop, done}
use Rattle.reading.proofs.Running.{still_within, run_next, run_falls}
use Rattle.reading.proofs.fill.fill.Goals as goal

pub returns-then-is_empty : goal.returns-then-is_empty
returns-then-is_empty c = search (rules, empty)

pub loop-j-init : goal.loop-j-init
loop-j-init c = (rw c.fresh-j.ensures (search (rules, begun)), refl, refl, refl)

pub run_points-j-requires : goal.run_points-j-requires
run_points-j-requires c = (search rules, still_within c.loop-j.invariant.0 c.loop-j-test.true c.in_ok-n.was c.turn.ensures)

pub loop-j-smaller : goal.loop-j-smaller
loop-j-smaller c = run_falls c.loop-j.invariant.0 c.loop-j-test.true c.in_ok-n.was c.turn.ensures c.run_points-j.ensures

pub loop-j-preserved : goal.loop-j-preserved
loop-j-preserved c = (run_next c.loop-j.invariant.0 c.loop-j-test.true c.in_ok-n.was c.turn.ensures c.run_points-j.ensures, search rules, search rules, search rules)

pub returns-in_err-n : goal.returns-in_err-n
returns-in_err-n c = search (rules, stop c.loop-j.invariant.0 c.loop-j-test.true c.in_err-n.was c.turn.ensures)

pub returns : goal.returns
returns c = search (rules, done)
