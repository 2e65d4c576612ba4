-- `any_live` meets its contract: `any` over the records' numbers.
use Rattle.std.proofs.Common.{rules}
use Rattle.store.specs.Words.{view}
use Rattle.store.specs.Sound.{recs}
use Rattle.acts.specs.Step.{live}
use Rattle.steps.specs.Live.{any_live}
use Rattle.audit.proofs.Finding.{any_below-by_any}
use Rattle.steps.proofs.step.any_live.Goals as goal

pub returns : goal.returns
unfolding any_live
returns c = any_below-by_any (recs (view c.args.w.now)) (live (view c.args.w.now)) _ _ _ c.any.ensures.ran (search rules) (λ x b t k. search rules)
