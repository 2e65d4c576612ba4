-- opened_number meets its contract: opening answers as every call does that changes words.
use Rattle.std.proofs.Common.{◌≡◌, refl, ◌∙◌}
use Rattle.std.specs.Prelude.{Result, Ok, Err}
use Rattle.job.specs.declared.refusal.Refusal.{Refusal}
use Rattle.answers.specs.Answers.{opened_number, reply_number}
use Rattle.answers.proofs.opened_number.Goals as goal

same : (a : Result (Unit {0}) Refusal) → reply_number a ≡ opened_number a
same (Ok _) = refl
same (Err x) = refl

pub returns : goal.returns
returns c = c.reply_number.ensures ∙ same c.args.a
