-- free_place meets its contract: `find` over the places.
use Rattle.std.proofs.Common.{◌≡◌, true, false, rules}
use Rattle.std.proofs.lemmas.Iterator.{first_from_Range, serves_from_Range}
use Rattle.states.specs.Places.{is_free}
use Rattle.states.proofs.Lowest.{lowest-by_find}
use Rattle.states.proofs.places.free_place.Goals as goal

pub find-requires : goal.find-requires
find-requires c = record { can = tt; finite = tt; callable = serves_from_Range (λ x q k. search rules) (λ x low high. search rules) }

pub returns : goal.returns
returns c =
    let q = is_free c.args.w.now in
    lowest-by_find q _ (first_from_Range _ _ _ _ (λ i. q i ≡ true) (λ i. q i ≡ false) c.find.ensures.ran (λ x s k. search rules) (λ x s k. (search rules, search rules)))
