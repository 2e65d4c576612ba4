-- What writing out answers can be listed.
use Rattle.stepped_cases.proofs.Answers.{listable}
use Rattle.stepped_cases.proofs.list.Goals as goal

pub listing-requires : goal.listing-requires
listing-requires g c = listable _ _ _ _ _ c.in-Ok.is c.write_out.ensures
