-- What a store holds of its rings: counts, the ring of each record computed from the links, its step due, and whether it is open. What makes a store sound is beside it (Good).
use Rattle.std.specs.Prelude.{ℕ, zero, suc, ◌%◌, ◌<◌, ◌≡◌, Bool, false, cond, List, [], eqb}
use Rattle.std.proofs.Math.Option.{none}
use Rattle.rings.specs.Place.{place, or_zero}
use Rattle.rings.specs.Progress.{Ring, Due, validity, removal, triangle, split, done, resting, gone}
use Rattle.rings.specs.Walk.{walk}
use Rattle.store.specs.Field.{pt, rc, ct, NEXT, FLAGS, FIRST, MARK, PRESENT, START, REASON, POINTS, RECORDS, NONE}
use Rattle.store.specs.Words.{Store}
use Rattle.store.specs.Reason.{discard_of}

abbrev pub pts : Store → ℕ
pts s = s (ct POINTS) 0

abbrev pub recs : Store → ℕ
recs s = s (ct RECORDS) 0

abbrev pub ringless : Store → ℕ → Bool
ringless s i = eqb (s (rc FIRST) i) NONE

-- the ring of record i, from its first point
abbrev pub ring_at : Store → ℕ → List ℕ
ring_at s i = cond (ringless s i) [] (walk (s (pt NEXT)) (s (rc FIRST) i))

abbrev pub is_open : Store → ℕ → Bool
is_open s i = eqb (s (rc FLAGS) i % 2) 1

-- the meaning of a progress mark: the step due, or done; `mark_of` is the way back
abbrev pub due_of : ℕ → Due
due_of zero = validity
due_of (suc zero) = removal
due_of (suc (suc zero)) = triangle
due_of (suc (suc (suc zero))) = split
due_of (suc (suc (suc (suc n)))) = done

abbrev pub mark_of : Due → ℕ
mark_of validity = 0
mark_of removal = 1
mark_of triangle = 2
mark_of split = 3
mark_of done = 4

abbrev pub due_at : Store → ℕ → Due
due_at s i = due_of (s (rc MARK) i)

pub record Closed (s : Store) (i : ℕ) : Type 0 where
  pub known : i < recs s
  pub ringed : ringless s i ≡ false
  pub closed : is_open s i ≡ false

-- ---- the lone ring of a record, by indices: in a loop from the present place, else from the first point; without a ring, with the rule that discarded it, if one is kept

abbrev pub looping : Store → ℕ → Due → Ring ℕ
looping s i d =
    let c : List ℕ = walk (s (pt NEXT)) (s (rc PRESENT) i) in
    record { circle = c; first = or_zero (place (s (rc FIRST) i) c); start = place (s (rc START) i) c; due = d; why = none }

abbrev pub lone_due : Store → ℕ → Due → Ring ℕ
lone_due s i validity = resting validity none (walk (s (pt NEXT)) (s (rc FIRST) i))
lone_due s i removal = looping s i removal
lone_due s i triangle = resting triangle none (walk (s (pt NEXT)) (s (rc FIRST) i))
lone_due s i split = looping s i split
lone_due s i done = resting done none (walk (s (pt NEXT)) (s (rc FIRST) i))

abbrev pub lone_at : Store → ℕ → Ring ℕ
lone_at s i = cond (ringless s i) (gone (discard_of (s (rc REASON) i))) (lone_due s i (due_at s i))
