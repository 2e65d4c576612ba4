-- `paths::write_paths` meets its contract: the fields of the records below i are written, and their paths counted.
use mathlib.Core.Path.{ap}
use Rattle.paths.specs.Walking.{Laid}
use Rattle.paths.proofs.Counts.{no_paths, paths_on, paths_all}
use Rattle.paths.proofs.Filling.{filled_begins, filled_ends, field_fits, filled_on}
use Rattle.paths.proofs.write_paths.Goals as goal

pub loop-i-init : goal.loop-i-init
loop-i-init c = (filled_begins _ _ _ _ c.requires, no_paths _ _)

pub write_path-size-requires : goal.write_path-size-requires
write_path-size-requires c = field_fits _ _ _ _ _ _ c.loop-i.invariant.0 _ c.requires.directed _ c.get-n.ensures.0 c.loop-i-test.true

pub loop-i-preserved : goal.loop-i-preserved
loop-i-preserved c = (filled_on _ _ _ _ _ _ c.loop-i.invariant.0 _ c.requires.directed _ c.get-n.ensures.0 c.loop-i-test.true _ _ c.write_path-size.ensures, paths_on _ _ _ _ _ _ c.loop-i.invariant.1 (ap (λ (x : Laid). x.at) c.write_path-size.ensures) c.path_count-paths.ensures)

pub returns : goal.returns
returns c = (filled_ends _ _ _ _ _ _ c.loop-i.invariant.0 _ c.get-n.ensures.0 c.loop-i-test.false, paths_all _ _ _ _ _ c.loop-i.invariant.1 c.loop-i.invariant.0.within c.get-n.ensures.0 c.loop-i-test.false)
