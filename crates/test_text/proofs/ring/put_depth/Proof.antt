-- `test_text::ring::put_depth` meets its contract.
use borrow.Author.Rules.{rules}
use Rattle.listing.proofs.Points.{shallow_poured, deep_poured}
use Rattle.test_text.proofs.ring.put_depth.Statement.{statement}
use Rattle.test_text.proofs.ring.put_depth.Tie as tie

pub put_depth_spec : {M : Type 1} → statement M
put_depth_spec =
    tie.close
    (tie.spec
    (λ c κs. search rules)
    (λ c. search rules)
    (λ c. search (rules, shallow_poured))
    (λ c κs. search rules)
    (λ c. search rules)
    (λ c κs. search rules)
    (λ c. search rules)
    (λ c. search (rules, deep_poured)))
