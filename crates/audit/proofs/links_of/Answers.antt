-- links_of meets its contract.
use Rattle.std.proofs.Common.{◌≡◌, rules}
use Rattle.audit.specs.Tests.{loose}
use Rattle.audit.specs.Marks.{any_marked}
use Rattle.audit.proofs.Testing.{says_no_such, says_loose, says_muddled, says_passed}
use Rattle.audit.proofs.links_of.Goals as goal

pub returns-then-any_no_such : goal.returns-then-any_no_such
returns-then-any_no_such c = search says_no_such

pub returns-then-any_marked : goal.returns-then-any_marked
returns-then-any_marked c =
    let e : c.any_marked.result ≡ any_marked c.args.w.now c.args.marks.now (loose c.args.w.now) = search rules in
    says_loose _ _ _ _ c.any_no_such.ensures c.if-any_no_such.false _ e c.if-any_marked.true

pub returns-then-any_muddled : goal.returns-then-any_muddled
returns-then-any_muddled c =
    let e : c.any_marked.result ≡ any_marked c.args.w.now c.args.marks.now (loose c.args.w.now) = search rules in
    says_muddled _ _ _ _ c.any_no_such.ensures c.if-any_no_such.false _ e c.if-any_marked.false _ c.any_muddled.ensures c.if-any_muddled.true

pub returns : goal.returns
returns c =
    let e : c.any_marked.result ≡ any_marked c.args.w.now c.args.marks.now (loose c.args.w.now) = search rules in
    says_passed _ _ _ _ c.any_no_such.ensures c.if-any_no_such.false _ e c.if-any_marked.false _ c.any_muddled.ensures c.if-any_muddled.false
