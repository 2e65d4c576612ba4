-- `containing::path2_contains_path1` meets its contract.
use borrow.Author.Rules.{rules}
use Rattle.containing.proofs.Deciding.{contains_none, deciding_begins, deciding_on}
use Rattle.containing.proofs.path2_contains_path1.Goals as goal

pub returns-then-n1-eq0 : goal.returns-then-n1-eq0
returns-then-n1-eq0 c = search (rules, contains_none)

pub loop-i-init : goal.loop-i-init
loop-i-init c = search (rules, deciding_begins)

pub loop-i-preserved : goal.loop-i-preserved
loop-i-preserved c = search (rules, deciding_on)
