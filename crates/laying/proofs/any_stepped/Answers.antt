-- `laying::any_stepped` meets its contract: `any` over the records' numbers.
use Rattle.std.proofs.Common.{rules}
use Rattle.store.specs.Words.{view}
use Rattle.store.specs.Sound.{recs}
use Rattle.audit.proofs.Finding.{any_below-by_any}
use Rattle.laying.specs.Lay.{is_stepped, any_stepped}
use Rattle.laying.proofs.any_stepped.Goals as goal

pub returns : goal.returns
unfolding any_stepped
returns c = any_below-by_any (recs (view c.args.w.now)) (is_stepped (view c.args.w.now)) _ _ _ c.any.ensures.ran (search rules) (λ x b t k. search rules)
