-- `rows::any_open` meets its contract: `any` over the list's first n points.
use Rattle.std.proofs.Common.{◌≡◌, refl, ◌∙◌, ℕ, true, false, get_or, take, rules}
use Rattle.std.proofs.lemmas.Iterator.{cases_from_any, YieldsList-from_slice}
use Rattle.store.specs.Words.{view}
use Rattle.store.specs.Sound.{is_open}
use Rattle.joins.specs.Resolve.{home_of}
use Rattle.rows.specs.Rows.{on_open}
use Rattle.rows.proofs.Homes.{open_each}
use Rattle.rows.proofs.Listing.{any_below_same, any_listed}
use Rattle.rows.proofs.any_open.Goals as goal

pub returns : goal.returns
returns c =
    let w = c.args.w.now in
    let l = c.args.list.now in
    let xs = take c.args.n l in
    let q = λ (x : ℕ). is_open (view w) (home_of w x) in
    any_listed l xs c.args.n q refl c.requires.0.fits _ (cases_from_any _ _ _ (λ x. q x ≡ true) (λ x. q x ≡ false) c.any.ensures.ran (YieldsList-from_slice xs cc) (λ x t k. search rules) (λ x t k. search rules))
    ∙ any_below_same c.args.n (λ i. q (get_or l i 0)) (λ i. on_open w (get_or l i 0)) (open_each c.requires.0)
