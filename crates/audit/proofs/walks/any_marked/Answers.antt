-- any_marked meets its contract: `any` over the points' numbers.
use Rattle.std.proofs.Common.{rules}
use mathlib.Core.Bool.{◌&&◌}
use Rattle.store.specs.Named.{points_of}
use Rattle.audit.specs.Marks.{is_marked}
use Rattle.audit.proofs.Finding.{any_below-by_any}
use Rattle.audit.proofs.Testing.{both_yes, both_no}
use Rattle.audit.proofs.walks.any_marked.Goals as goal

pub returns : goal.returns
returns g c = λ q h. any_below-by_any (points_of c.args.w.now) (λ k. is_marked c.args.marks.now k && q k) _ _ _ c.any.ensures.ran (search rules) (λ x b t k. search (rules, h, both_yes, both_no))
