-- `paths::path_end` meets its contract.
use mathlib.Core.Bool.{true}
use borrow.Author.Rules.{rules}
use Rattle.paths.proofs.Walks.{round_here}
use Rattle.paths.proofs.Sizes.{none_end, first_round, short_end, along_round, ahead_sized, small_end, few_end, all_end}
use Rattle.paths.proofs.path_end.Goals as goal

pub returns-then-f-eq-NONE : goal.returns-then-f-eq-NONE
returns-then-f-eq-NONE c = none_end _ _ _ _ c.requires _ c.get-f.ensures.0 c.if-f-eq-NONE.true

pub too_short-requires : goal.too_short-requires
too_short-requires c = first_round _ true true _ c.requires _ c.get-f.ensures.0 c.if-f-eq-NONE.false

pub returns-then-too_short : goal.returns-then-too_short
returns-then-too_short c = short_end _ _ _ _ c.requires _ c.get-f.ensures.0 c.if-f-eq-NONE.false _ c.too_short.ensures c.if-too_short.true

pub start_from-a-requires : goal.start_from-a-requires
start_from-a-requires c = let h = round_here _ _ _ (first_round _ true true _ c.requires _ c.get-f.ensures.0 c.if-f-eq-NONE.false) in search rules

pub round_size-n-requires : goal.round_size-n-requires
round_size-n-requires c = along_round _ _ true _ c.requires _ c.get-f.ensures.0 c.if-f-eq-NONE.false _ c.start_from-a.ensures

pub is_small-requires : goal.is_small-requires
is_small-requires c = ahead_sized _ _ true _ c.requires _ c.get-f.ensures.0 c.if-f-eq-NONE.false _ c.start_from-a.ensures _ c.round_size-n.ensures

pub returns-then-is_small : goal.returns-then-is_small
returns-then-is_small c = small_end _ _ _ _ c.requires _ c.get-f.ensures.0 c.if-f-eq-NONE.false _ c.start_from-a.ensures _ c.round_size-n.ensures _
    c.too_short.ensures c.if-too_short.false _ c.is_small.ensures c.if-is_small.true

pub returns-then-n-lt2 : goal.returns-then-n-lt2
returns-then-n-lt2 c = few_end _ _ _ _ c.requires _ c.get-f.ensures.0 c.if-f-eq-NONE.false _ c.start_from-a.ensures _ c.round_size-n.ensures _
    c.too_short.ensures c.if-too_short.false _ c.is_small.ensures c.if-is_small.false c.if-n-lt2.true

pub returns : goal.returns
returns c = all_end _ _ _ _ c.requires _ c.get-f.ensures.0 c.if-f-eq-NONE.false _ c.start_from-a.ensures _ c.round_size-n.ensures _
    c.too_short.ensures c.if-too_short.false _ c.is_small.ensures c.if-is_small.false c.if-n-lt2.false
