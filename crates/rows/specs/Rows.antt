-- Rows 4 to 8 of document 01's table, "each over the whole job": its points and records as words, its m segments and n joins as two lists.
use Rattle.std.specs.Prelude.{ℕ, ◌*◌, Bool, cond, ◌&&◌, ◌||◌, List, leb, get_or, Result, Ok, Err}
use Rattle.job.specs.declared.refusal.Refusal.{Refusal}
use Rattle.job.specs.declared.refusal.Refusal.TheVariants.{OffTheTable, NoSuch, Loose, Muddled, OpenEdge}
use Rattle.store.specs.Words.{view}
use Rattle.store.specs.Named.{points_of, records_of}
use Rattle.store.specs.Sound.{is_open}
use Rattle.audit.specs.Tests.{any_below, off_table, no_such, no_such_of, loose}
use Rattle.owners.specs.Owners.{circles}
use Rattle.visits.specs.Rings.{on_ring, alone, estranged}

-- row 4: "a coordinate beyond the limit"
abbrev pub off_the_table : List ℕ → Bool
off_the_table w = any_below (points_of w) (λ k. off_table w k)

-- one of the first n numbers of a list names no point
abbrev pub unnamed : List ℕ → List ℕ → ℕ → Bool
unnamed w l n = any_below n (λ i. leb (points_of w) (get_or l i 0))

-- row 5: "a number naming nothing": a point's, a record's, a segment's or a join's
abbrev pub no_such_number : List ℕ → List ℕ → ℕ → List ℕ → ℕ → Bool
no_such_number w ss m js n =
    any_below (points_of w) (λ k. no_such w k) || (any_below (records_of w) (λ i. no_such_of w i) || (unnamed w ss m || unnamed w js (2 * n)))

-- row 6: "next of prev, or prev of next, isn't the point"
abbrev pub loose_link : List ℕ → Bool
loose_link w = any_below (points_of w) (λ k. loose w k)

-- row 7: "an owner chain circles; a point on no record's ring; a ring point that resolves to any record but its ring's, or to none"
abbrev pub muddled : List ℕ → Bool
muddled w = any_below (records_of w) (λ i. circles w i) || (any_below (records_of w) (λ i. estranged w i) || any_below (points_of w) (λ k. alone w k))

-- point k is on an open ring
abbrev pub on_open : List ℕ → ℕ → Bool
on_open w k = any_below (records_of w) (λ i. is_open (view w) i && on_ring w i k)

-- row 8: "a segment or join point on an open ring"
abbrev pub open_edge : List ℕ → List ℕ → ℕ → List ℕ → ℕ → Bool
open_edge w ss m js n = any_below m (λ i. on_open w (get_or ss i 0)) || any_below (2 * n) (λ i. on_open w (get_or js i 0))

-- "4 to 8, each over the whole job", the first that holds
unfoldable pub rows_of : List ℕ → List ℕ → ℕ → List ℕ → ℕ → Result (Unit {0}) Refusal
rows_of w ss m js n =
    cond (off_the_table w) (Err OffTheTable)
    (cond (no_such_number w ss m js n) (Err NoSuch)
    (cond (loose_link w) (Err Loose)
    (cond (muddled w) (Err Muddled)
    (cond (open_edge w ss m js n) (Err OpenEdge)
    (Ok tt)))))
