-- Worked examples: what lists of calls do to histories, each call once at least.
use Prim.Native.Nat.{ℕ}
use mathlib.Core.Path.{◌≡◌, refl}
use mathlib.Core.List.{List, [], ◌∷◌}
use mathlib.Core.Option.{Option, none, some}
use native.Mathlib.Omega.{arith}
use Rattle.std.specs.Prelude.{Ok, Err}
use Rattle.job.specs.declared.refusal.Refusal.{Refusal}
use Rattle.job.specs.declared.refusal.Refusal.TheVariants.{UnknownName, NoPlace}
use Rattle.laying.specs.Lay.{lay_of}
use Rattle.states.specs.Places.{first_from}
use Rattle.order.specs.Calls.{Name, Call, step_on, write_to, ask_of, keep_as, back_to, drop_name, lay_with}
use Rattle.history.specs.Histories.{KeptState, Histories, histories_by, histories_after, keeping_none, begun, led, keep_answer, known_answer}

abbrev n0 : Name
n0 = record { number = 0; low = omega arith }

abbrev n1 : Name
n1 = record { number = 1; low = omega arith }

abbrev n2 : Name
n2 = record { number = 2; low = omega arith }

abbrev n3 : Name
n3 = record { number = 3; low = omega arith }

abbrev n255 : Name
n255 = record { number = 255; low = omega arith }

module _ (s : List ℕ) where
  abbrev after : List Call → Histories
  after cs = histories_after (keeping_none (begun s)) cs

  abbrev kept_as : ℕ → List ℕ → Option KeptState
  kept_as n is = some (record { name = n; history = record { start = s; steps = is } })

  -- steps, and what stands between them
  steps_only : led (begun s) (step_on 3 ∷ write_to [] ∷ step_on 5 ∷ ask_of 0 ∷ keep_as n0 ∷ back_to n1 ∷ drop_name n1 ∷ step_on 7 ∷ []) ≡ 3 ∷ 5 ∷ 7 ∷ []
  unfolding histories_by first_from
  steps_only = refl

  -- "the steps that led to the kept state followed by those since the last return"
  abbrev returned : List Call
  returned = step_on 3 ∷ keep_as n0 ∷ step_on 5 ∷ keep_as n255 ∷ step_on 7 ∷ back_to n0 ∷ step_on 9 ∷ []

  since_return : led (begun s) returned ≡ 3 ∷ 9 ∷ []
  unfolding histories_by first_from
  since_return = refl

  -- "the name staying kept"
  stays_kept : (after returned).places 0 ≡ kept_as 0 (3 ∷ [])
  unfolding histories_by first_from
  stays_kept = refl

  -- "The other kept states are unaffected"
  other_kept : (after returned).places 1 ≡ kept_as 255 (3 ∷ 5 ∷ [])
  unfolding histories_by first_from
  other_kept = refl

  still_free : (after returned).places 2 ≡ none
  unfolding histories_by first_from
  still_free = refl

  -- and to the other one from there
  other_return : led (begun s) (step_on 3 ∷ keep_as n0 ∷ step_on 5 ∷ keep_as n255 ∷ back_to n0 ∷ step_on 9 ∷ back_to n255 ∷ step_on 1 ∷ []) ≡ 3 ∷ 5 ∷ 1 ∷ []
  unfolding histories_by first_from
  other_return = refl

  -- "Keeping under a name already used replaces it"
  replaced : (after (keep_as n0 ∷ keep_as n1 ∷ step_on 4 ∷ keep_as n0 ∷ [])).places 0 ≡ kept_as 0 (4 ∷ [])
  unfolding histories_by first_from
  replaced = refl

  -- "dropping a name frees its place for another"
  abbrev dropped : List Call
  dropped = keep_as n0 ∷ keep_as n1 ∷ step_on 4 ∷ drop_name n0 ∷ []

  freed_place : (after dropped).places 0 ≡ none
  unfolding histories_by first_from
  freed_place = refl

  unknown : known_answer (after dropped) 0 ≡ Err UnknownName
  unfolding histories_by first_from
  unknown = refl

  known : known_answer (after dropped) 1 ≡ Ok tt
  unfolding histories_by first_from
  known = refl

  for_another : (after (keep_as n0 ∷ keep_as n1 ∷ step_on 4 ∷ drop_name n0 ∷ keep_as n2 ∷ [])).places 0 ≡ kept_as 2 (4 ∷ [])
  unfolding histories_by first_from
  for_another = refl

  -- "keeping a fifth name"
  abbrev full : List Call
  full = keep_as n0 ∷ keep_as n1 ∷ keep_as n2 ∷ keep_as n3 ∷ []

  no_fifth : keep_answer (after full) 255 ≡ Err NoPlace
  unfolding histories_by first_from
  no_fifth = refl

  but_again : keep_answer (after full) 3 ≡ Ok tt
  unfolding histories_by first_from
  but_again = refl

  -- ---- laying together: "with laying together in opening's place"

  -- accepted, on a start: p are the pooled words
  module _ (v : List ℕ) (e : (lay_of s v).answer ≡ Ok tt) where
    abbrev p : List ℕ
    p = (lay_of s v).words

    -- the live history begins anew at the pair
    begins_anew : (after (keep_as n0 ∷ lay_with v ∷ step_on 5 ∷ [])).live ≡ record { start = p; steps = 5 ∷ [] }
    unfolding histories_by first_from
    begins_anew = rw e

    -- "the first's kept states remain", each with its own history; a later one has the pair's
    before_the_pair : (after (keep_as n0 ∷ lay_with v ∷ step_on 5 ∷ keep_as n1 ∷ [])).places 0 ≡ kept_as 0 []
    unfolding histories_by first_from
    before_the_pair = rw e

    of_the_pair : (after (keep_as n0 ∷ lay_with v ∷ step_on 5 ∷ keep_as n1 ∷ [])).places 1 ≡ some (record { name = 1; history = record { start = p; steps = 5 ∷ [] } })
    unfolding histories_by first_from
    of_the_pair = rw e

    -- going back to a state kept before leaves the pair
    leaves_the_pair : (after (keep_as n0 ∷ lay_with v ∷ step_on 5 ∷ back_to n0 ∷ step_on 6 ∷ [])).live ≡ record { start = s; steps = 6 ∷ [] }
    unfolding histories_by first_from
    leaves_the_pair = rw e

    -- and to one kept since comes to it again
    to_the_pair : (after (keep_as n0 ∷ lay_with v ∷ keep_as n1 ∷ back_to n0 ∷ back_to n1 ∷ step_on 7 ∷ [])).live ≡ record { start = p; steps = 7 ∷ [] }
    unfolding histories_by first_from
    to_the_pair = rw e

  -- refused: nothing changes
  lays_nothing : (v : List ℕ) (r : Refusal) → (lay_of s v).answer ≡ Err r → (after (keep_as n0 ∷ lay_with v ∷ step_on 5 ∷ [])).live ≡ record { start = s; steps = 5 ∷ [] }
  unfolding histories_by first_from
  lays_nothing v r e = rw e
