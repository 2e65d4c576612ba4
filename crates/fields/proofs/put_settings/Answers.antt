-- `fields::put_settings` meets its contract.
use Rattle.std.proofs.Common.{rules}
use Rattle.fields.proofs.Pours.{settings_poured}
use Rattle.fields.proofs.put_settings.Goals as goal

pub returns : goal.returns
returns c = search (rules, settings_poured)
