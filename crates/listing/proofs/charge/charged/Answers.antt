-- `charge::charged` meets its contract: the listing, then the charge line.
use Rattle.listing.specs.Charge.{charged_of}
use Rattle.listing.proofs.Charging.{charged_poured}
use Rattle.listing.proofs.Telling.{told_all}
use Rattle.listing.proofs.charge.charged.Goals as goal

pub returns : goal.returns
returns c = told_all (charged_of c.args.rev c.args.rate c.args.closed c.args.opened c.args.t.now) _ _ _ _
    (charged_poured c.args.rev c.args.rate c.args.closed c.args.opened c.args.t.now _ _ _ _ _ _ c.charge_in-c.ensures c.put_listing-a.ensures c.put_charge-b.ensures)
    c.answer.ensures
