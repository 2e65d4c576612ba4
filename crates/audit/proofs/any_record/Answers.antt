-- any_record meets its contract: `any` over the records' numbers.
use Rattle.std.proofs.Common.{rules}
use Rattle.store.specs.Named.{records_of}
use Rattle.audit.proofs.Finding.{any_below-by_any}
use Rattle.audit.proofs.any_record.Goals as goal

pub returns : goal.returns
returns g c = λ q h. any_below-by_any (records_of c.args.w.now) q _ _ _ c.any.ensures.ran (search rules) (λ x b t k. search (rules, h))
