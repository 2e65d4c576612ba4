-- `joins::new_out_rec` meets its contract.
use borrow.Author.Rules.{rules}
use Rattle.joins.specs.Join.{new_out_rec}
use Rattle.joins.proofs.new_out_rec.Statement.{statement}
use Rattle.joins.proofs.new_out_rec.Tie as tie

pub new_out_rec_spec : {M : Type 1} → statement M
unfolding new_out_rec
new_out_rec_spec =
    tie.close
    (tie.spec
    (λ c. search rules)
    (λ c κs. search rules)
    (λ c κs. search rules)
    (λ c κs. search rules)
    (λ c κs. search rules)
    (λ c. search rules)
    (λ c. cc))
