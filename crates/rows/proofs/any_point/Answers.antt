-- `rows::any_point` meets its contract: `any` over the points' numbers.
use Rattle.std.proofs.Common.{rules}
use Rattle.store.specs.Named.{points_of}
use Rattle.audit.proofs.Finding.{any_below-by_any}
use Rattle.rows.proofs.any_point.Goals as goal

pub returns : goal.returns
returns g c = λ q h. any_below-by_any (points_of c.args.w.now) q _ _ _ c.any.ensures.ran (search rules) (λ x b t k. search (rules, h))
