-- `segments::update::ends` meets its contract.
use Rattle.segments.proofs.Updates.{ends_walled, ends_free}
use Rattle.segments.proofs.update.ends.Goals as goal

pub returns-then-has_front : goal.returns-then-has_front
returns-then-has_front c = search ends_walled

pub returns : goal.returns
returns c = search ends_free
