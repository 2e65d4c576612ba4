-- `paths::is_small_ring` meets its contract.
use borrow.Author.Rules.{rules}
use Rattle.paths.proofs.Walks.{round_here}
use Rattle.paths.proofs.Sizes.{next_here, prev_here, small_no, small_yes}
use Rattle.paths.proofs.is_small_ring.Goals as goal

pub get-n-requires : goal.get-n-requires
get-n-requires c = let h = round_here _ _ _ c.requires.round in search rules

pub get-p-requires : goal.get-p-requires
get-p-requires c = let h = round_here _ _ _ c.requires.round in search rules

pub get-m-requires : goal.get-m-requires
get-m-requires c = let h = next_here _ _ c.requires.round _ c.get-n.ensures.0 in search rules

pub returns-then-m-p : goal.returns-then-m-p
returns-then-m-p c = small_no _ _ c.requires _ _ _ c.get-n.ensures.0 c.get-p.ensures.0 c.get-m.ensures.0 c.if-m-p.true

pub point_at-prev-requires : goal.point_at-prev-requires
point_at-prev-requires c = prev_here _ _ c.requires.round _ c.get-p.ensures.0

pub point_at-pt-requires : goal.point_at-pt-requires
point_at-pt-requires c = round_here _ _ _ c.requires.round

pub point_at-next-requires : goal.point_at-next-requires
point_at-next-requires c = next_here _ _ c.requires.round _ c.get-n.ensures.0

pub returns : goal.returns
returns c = small_yes _ _ c.requires _ _ _ _ _ _ _
    c.get-n.ensures.0
    c.get-p.ensures.0
    c.get-m.ensures.0
    c.if-m-p.false
    c.point_at-prev.ensures
    c.point_at-pt.ensures
    c.point_at-next.ensures
    c.is_very_small_triangle.ensures
