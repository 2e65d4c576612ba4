-- `finish_records` meets its contract: what is left to finish is said of the records from i on.
use mathlib.Core.Path.{sym, ◌∙◌}
use denote.Enum.Bare.{same_true, same_false}
use borrow.Author.Rules.{rules}
use Rattle.steps.specs.contracts.StepError.{the_type}
use Rattle.steps.specs.declared.StepError.TheVariants.{Full}
use Rattle.steps.proofs.Looping.{begun_all, past_all, next_all, stop_all}
use Rattle.steps.proofs.finish.finish_records.Goals as goal

pub loop-i-init : goal.loop-i-init
loop-i-init c = search (begun_all, rules)

pub returns-then-get-i : goal.returns-then-get-i
returns-then-get-i c = search (past_all, rules)

pub returns-then-eq : goal.returns-then-eq
returns-then-eq c = search (stop_all, same_true the_type tt c.finish_record.result Full (sym c.eq.ensures ∙ c.if-eq.true), rules)

pub loop-i-preserved : goal.loop-i-preserved
loop-i-preserved c = search (next_all, same_false the_type c.finish_record.result Full (sym c.eq.ensures ∙ c.if-eq.false), rules)
