-- any_misboxed meets its contract: `any` over the records' numbers.
use Rattle.std.proofs.Common.{rules}
use Rattle.std.proofs.lemmas.Iterator.{serves_from_Range}
use Rattle.store.specs.Named.{records_of}
use Rattle.store.specs.Boxes.{misboxed}
use Rattle.handed.specs.Handed.{any_misboxed}
use Rattle.audit.proofs.Finding.{any_below-by_any}
use Rattle.handed.proofs.boxes.any_misboxed.Goals as goal

pub any-requires : goal.any-requires
any-requires c = record { can = tt; finite = tt; callable = serves_from_Range (λ x q k. search rules) (λ x low high. search rules) }

pub returns : goal.returns
unfolding any_misboxed
returns c = any_below-by_any (records_of c.args.w.now) (misboxed c.args.w.now) _ _ _ c.any.ensures.ran (search rules) (λ x b t k. search rules)
