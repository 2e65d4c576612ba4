-- any_chained meets its contract: `any` over the records' numbers.
use Rattle.std.proofs.Common.{rules}
use Rattle.store.specs.Named.{records_of}
use Rattle.owners.specs.Owners.{chained}
use Rattle.audit.proofs.Finding.{any_below-by_any}
use Rattle.owners.proofs.any_chained.Goals as goal

pub returns : goal.returns
returns c = any_below-by_any (records_of c.args.w.now) (chained c.args.w.now) _ _ _ c.any.ensures.ran (search rules) (λ x b t k. search rules)
