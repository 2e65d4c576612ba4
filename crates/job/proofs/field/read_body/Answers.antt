-- `job::field::read_body` meets its contract: length and value, bits, count.
use borrow.Author.Rules.{rules}
use Rattle.job.proofs.Fields.{value_there, torn_value_lem, strange_bits_lem, crowds, field_read}
use Rattle.job.proofs.field.read_body.Goals as goal

pub read_value-field-requires : goal.read_value-field-requires
read_value-field-requires c = search (rules, value_there)

pub returns-then-torn_value : goal.returns-then-torn_value
returns-then-torn_value c = search (rules, torn_value_lem)

pub returns-then-strange_bits : goal.returns-then-strange_bits
returns-then-strange_bits c = search (rules, strange_bits_lem)

pub returns-then-crowded : goal.returns-then-crowded
returns-then-crowded c = search (rules, crowds)

pub returns : goal.returns
returns c = search (rules, field_read)
