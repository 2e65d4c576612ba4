-- `paths::fill` meets its contract.
use mathlib.Core.Path.{refl}
use Rattle.paths.proofs.Filling.{closed_fit, open_fit, filled_all}
use Rattle.paths.proofs.fill.Goals as goal

pub write_paths-closed-requires : goal.write_paths-closed-requires
write_paths-closed-requires c = closed_fit _ _ _ c.requires

pub write_paths-opened-requires : goal.write_paths-opened-requires
write_paths-opened-requires c = open_fit _ _ _ c.requires _ _ c.write_paths-closed.ensures.0

pub returns : goal.returns
returns c = filled_all _ _ _ c.requires _ _ c.write_paths-closed.ensures.0 _ _ _ c.write_paths-opened.ensures.0 refl _ _ c.write_paths-closed.ensures.1 c.write_paths-opened.ensures.1 _ c.clear.ensures
