-- `cut_itself` meets its contract.
use borrow.Author.Rules.{rules}
use Rattle.applying.proofs.Applying.{cut_free, with_put, without_put}
use Rattle.applying.proofs.cut_itself.Goals as goal

pub cut_put-requires : goal.cut_put-requires
cut_put-requires c = search (cut_free, with_put, without_put, rules)

pub returns-then-put : goal.returns-then-put
returns-then-put c = search (with_put, without_put)

pub returns-else-put : goal.returns-else-put
returns-else-put c = search (with_put, without_put)
