-- `listing::refusal` meets its contract.
use Rattle.listing.proofs.Telling.{told_all, refused_poured}
use Rattle.listing.specs.Lines.{refused_line}
use Rattle.listing.proofs.refusal.Goals as goal

pub returns : goal.returns
returns c = told_all (refused_line c.args.number) _ _ _ _ (refused_poured c.args.number _ _ _ _ _ _ _ c.put_text-a.ensures c.put_decimal-b.ensures c.put-c.ensures) c.answer.ensures
