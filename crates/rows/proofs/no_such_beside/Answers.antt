-- `rows::no_such_beside` meets its contract: the records by `any` over their numbers, then both lists.
use Rattle.std.proofs.Common.{◌≡◌, rules}
use Rattle.store.specs.Named.{records_of}
use Rattle.audit.specs.Tests.{any_below, no_such_of}
use Rattle.audit.proofs.Finding.{any_below-by_any}
use Rattle.rows.proofs.no_such_beside.Goals as goal

pub returns : goal.returns
returns c =
    let e : c.any-a.result ≡ any_below (records_of c.args.w.now) (no_such_of c.args.w.now) = any_below-by_any (records_of c.args.w.now) (no_such_of c.args.w.now) _ _ _ c.any-a.ensures.ran (search rules) (λ x b t k. search rules) in
    search rules
