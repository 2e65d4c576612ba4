-- place_of meets its contract: `find` over the places.
use Rattle.std.proofs.Common.{◌≡◌, true, false, rules}
use Rattle.std.proofs.lemmas.Iterator.{first_from_Range, serves_from_Range}
use Rattle.states.specs.Places.{keeps_name}
use Rattle.states.proofs.Lowest.{lowest-by_find}
use Rattle.states.proofs.places.place_of.Goals as goal

pub find-requires : goal.find-requires
find-requires c = record { can = tt; finite = tt; callable = serves_from_Range (λ x q k. search rules) (λ x low high. search rules) }

pub returns : goal.returns
returns c =
    let q = keeps_name c.args.w.now c.args.name in
    lowest-by_find q _ (first_from_Range _ _ _ _ (λ i. q i ≡ true) (λ i. q i ≡ false) c.find.ensures.ran (λ x s k. search rules) (λ x s k. (search rules, search rules)))
