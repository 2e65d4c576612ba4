-- `paths::write_points` meets its contract.
use borrow.Author.Rules.{rules}
use Rattle.paths.proofs.Walks.{round_here}
use Rattle.paths.proofs.Fields.{points_first, points_room, points_laid}
use Rattle.paths.proofs.field.write_points.Goals as goal

pub start_from-start-requires : goal.start_from-start-requires
start_from-start-requires c = let h = round_here _ _ _ (points_first _ _ _ _ c.requires _ c.get-f.ensures.0) in search rules

pub write_round-requires : goal.write_round-requires
write_round-requires c = points_room _ _ _ _ c.requires _ c.get-f.ensures.0 _ c.start_from-start.ensures

pub returns : goal.returns
returns c = points_laid _ _ _ _ c.requires _ c.get-f.ensures.0 _ _ _ c.start_from-start.ensures c.write_round.ensures
