-- `paths::is_long` meets its contract: a path of four points or more is neither short nor small.
use mathlib.Core.Bool.{true}
use mathlib.Core.Path.{refl}
use borrow.Author.Rules.{rules}
use Rattle.paths.proofs.Walks.{round_here}
use Rattle.paths.proofs.Sizes.{first_round, along_round, long_some}
use Rattle.paths.proofs.field.is_long.Goals as goal

pub start_from-start-requires : goal.start_from-start-requires
start_from-start-requires c = let h = round_here _ _ _ (first_round _ true true _ c.requires.of _ c.get-f.ensures.0 c.if-f-eq-NONE.false) in search rules

pub has_four-requires : goal.has_four-requires
has_four-requires c = along_round _ _ true _ c.requires.of _ c.get-f.ensures.0 c.if-f-eq-NONE.false _ c.start_from-start.ensures

pub returns : goal.returns
returns c = long_some _ _ _ _ c.requires _ c.is_open.ensures _ refl c.if-is_open-opened.false _ c.get-f.ensures.0 c.if-f-eq-NONE.false _ c.start_from-start.ensures _ c.has_four.ensures
