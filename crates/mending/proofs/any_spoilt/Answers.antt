-- `mending::any_spoilt` meets its contract: `any` over the points' numbers.
use Rattle.std.proofs.Common.{rules}
use Rattle.store.specs.Named.{points_of}
use Rattle.mending.specs.Needs.{spoilt}
use Rattle.audit.proofs.Finding.{any_below-by_any}
use Rattle.mending.proofs.any_spoilt.Goals as goal

pub returns : goal.returns
returns c = any_below-by_any (points_of c.args.w.now) (spoilt c.args.w.now c.args.t.now) _ _ _ c.any.ensures.ran (search rules) (λ x b t k. search rules)
