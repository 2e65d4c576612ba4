-- `Marks::all_set` meets its contract: `all` over the whole words, and then the last one's low bits.
use Rattle.std.proofs.Common.{◌/◌, arith, rules}
use Rattle.marks.specs.Marks.{BITS}
use Rattle.marks.proofs.Marking.{past_count, words_by_all, words_bare, no_rest, rest_is}
use Rattle.marks.proofs.Marks.all_set.Goals as goal

pub returns-then-count-gt-POINTS : goal.returns-then-count-gt-POINTS
returns-then-count-gt-POINTS c = search (rules, past_count)

pub returns-then-not-all : goal.returns-then-not-all
returns-then-not-all c = words_bare c.args.self.words c.args.count c.all.result
    (words_by_all c.args.self.words (c.args.count / BITS) _ _ c.all.result (omega arith) c.all.ensures.ran c.iter.ensures.rest (λ x b t k. search rules))
    c.if-not-all.true

pub returns-then-rest-eq0 : goal.returns-then-rest-eq0
returns-then-rest-eq0 c = rw c.if-rest-eq0.true (no_rest c.args.self.words c.args.count c.all.result
    (words_by_all c.args.self.words (c.args.count / BITS) _ _ c.all.result (omega arith) c.all.ensures.ran c.iter.ensures.rest (λ x b t k. search rules))
    c.if-not-all.false c.if-rest-eq0.true)

pub returns-else-rest-eq0 : goal.returns-else-rest-eq0
returns-else-rest-eq0 c = rest_is c.args.self.words c.args.count c.all.result
    (words_by_all c.args.self.words (c.args.count / BITS) _ _ c.all.result (omega arith) c.all.ensures.ran c.iter.ensures.rest (λ x b t k. search rules))
    c.if-not-all.false c.low_set.result c.low_set.ensures
