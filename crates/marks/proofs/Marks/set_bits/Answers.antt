-- `Marks::set_bits` meets its contract: past the words there is nothing to set.
use Rattle.std.proofs.Common.{rules}
use Rattle.marks.specs.Marks.{with_bits}
use Rattle.marks.proofs.Marking.{past_words}
use Rattle.marks.proofs.Marks.set_bits.Goals as goal

pub returns-then-j-ge-WORDS : goal.returns-then-j-ge-WORDS
returns-then-j-ge-WORDS c = search (rules, past_words)

pub returns : goal.returns
unfolding with_bits
returns c = search rules
