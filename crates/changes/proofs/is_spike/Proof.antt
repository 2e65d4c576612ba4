-- is_spike meets its contract.
use borrow.Author.Rules.{rules}
use Rattle.changes.proofs.Changing.{three, spike_is}
use Rattle.changes.proofs.is_spike.Statement.{statement}
use Rattle.changes.proofs.is_spike.Tie as tie

pub is_spike_spec : {M : Type 1} → statement M
is_spike_spec =
    tie.close
    (tie.spec
    (λ c κs. search rules)
    (λ c κs. search rules)
    (λ c κs. search three)
    (λ c. search spike_is))
