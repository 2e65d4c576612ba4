-- `charge_of` meets its contract: the product does not wrap.
use Rattle.rates.proofs.Charging.{product_fits, is_charge}
use Rattle.rates.proofs.charge_of.Statement.{statement}
use Rattle.rates.proofs.charge_of.Tie as tie

pub charge_of_spec : {M : Type 1} → statement M
charge_of_spec =
    tie.close
    (tie.spec
    (λ c. record { fits = product_fits _ _ c.requires.0 c.requires.1 })
    (λ c. search is_charge))
