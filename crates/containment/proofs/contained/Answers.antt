-- `containment::contained` meets its contract.
use Rattle.std.proofs.lemmas.Result.{err_from_is_err_and}
use borrow.Author.Rules.{rules}
use Rattle.containment.proofs.Answering.{zeros_again, may_answer, all_answered, none_answered}
use Rattle.containment.proofs.contained.Goals as goal

pub answer-requires-clause-fact_1 : goal.answer-requires-clause-fact_1
answer-requires-clause-fact_1 c = search (may_answer, c.in_ok-p.was, rules)

pub answer-requires-clause-fact_2 : goal.answer-requires-clause-fact_2
answer-requires-clause-fact_2 c = search (rules, zeros_again)

pub returns : goal.returns
returns c = search (all_answered, c.in_ok-p.was, rules)

pub returns-in_err-p : goal.returns-in_err-p
returns-in_err-p c =
    let p = err_from_is_err_and c.from_residual.result c.from_residual.ensures.1 in
    rw (p.1, p.2) (search (none_answered, c.in_err-p.was, rules))
