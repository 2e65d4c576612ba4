-- `job::field::read_field` meets its contract: the header, the tag, the rest.
use borrow.Author.Rules.{rules}
use Rattle.job.proofs.Fields.{torn_header, strange_tag_lem, body_read}
use Rattle.job.proofs.field.read_field.Goals as goal

pub returns-then-part-lt-HEADER : goal.returns-then-part-lt-HEADER
returns-then-part-lt-HEADER c = search (rules, torn_header)

pub returns-then-strange_tag : goal.returns-then-strange_tag
returns-then-strange_tag c = search (rules, strange_tag_lem)

pub returns : goal.returns
returns c = search (rules, body_read)
