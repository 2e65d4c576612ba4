-- is_in meets its contract.
use borrow.Author.Rules.{rules}
use Rattle.windows.proofs.Listing.{in_bare, in_ringed}
use Rattle.windows.proofs.is_in.Statement.{statement}
use Rattle.windows.proofs.is_in.Tie as tie

pub is_in_spec : {M : Type 1} → statement M
is_in_spec = tie.close (tie.spec (λ c κs. search rules) (λ c. search in_bare) (λ c κs. search rules) (λ c κs. search rules) (λ c. search in_ringed))
