-- `rows::any_unnamed` meets its contract: `any` over the list's first n numbers.
use Rattle.std.proofs.Common.{◌≡◌, refl, true, false, leb, take, rules, tests}
use Rattle.std.proofs.lemmas.Iterator.{cases_from_any, YieldsList-from_slice}
use Rattle.store.specs.Named.{points_of}
use Rattle.rows.proofs.Listing.{any_listed}
use Rattle.rows.proofs.any_unnamed.Goals as goal

pub returns : goal.returns
returns c =
    let m = points_of c.args.w.now in
    let xs = take c.args.n c.args.list.now in
    any_listed c.args.list.now xs c.args.n (leb m) refl c.requires.1 _ (cases_from_any _ _ _ (λ x. leb m x ≡ true) (λ x. leb m x ≡ false) c.any.ensures.ran (YieldsList-from_slice xs cc) (λ x t k. search (rules, tests)) (λ x t k. search (rules, tests)))
