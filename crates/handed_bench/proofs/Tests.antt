-- The tests of the live block on a triangle with words altered: which refusal comes first, and what passes.
use mathlib.Core.Path.{◌≡◌, refl}
use mathlib.Core.List.{List, [], ◌∷◌}
use lib.ListN.{replicate}
use Rattle.std.specs.Prelude.{Result, Ok, Err}
use Rattle.job.specs.declared.refusal.Refusal.{Refusal}
use Rattle.job.specs.declared.refusal.Refusal.TheVariants.{Crowded, OffTheTable, NoSuch, Loose, Muddled}
use Rattle.rings.specs.Walk.{run}
use Rattle.store.specs.Field.{pt, rc, ct, X, NEXT, PREV, REC, FLAGS, OWNER, FIRST, MARK, PRESENT, REASON, TAKER, POINTS, RECORDS, BLOCK, NONE}
use Rattle.store.specs.Words.{Write, write, cell, put, on_words}
use Rattle.store.specs.Reason.{JOINED}
use Rattle.audit.specs.Tests.{any_below, reach, reached_by, tests_of}

-- record 0 is a ring of points 0, 1 and 2; then these writes
abbrev says : List Write → Result (Unit {0}) Refusal
says xs =
    tests_of (on_words (replicate BLOCK 0)
    (write (ct POINTS) 0 4 ∷ write (ct RECORDS) 0 1
    ∷ write (pt NEXT) 0 1 ∷ write (pt NEXT) 1 2 ∷ write (pt NEXT) 2 0
    ∷ write (pt PREV) 0 2 ∷ write (pt PREV) 1 0 ∷ write (pt PREV) 2 1
    ∷ xs))

-- the definitions that the rows compute with
unfoldable computing : Unit {0}
unfolding tests_of any_below reach reached_by run cell put
computing = tt

untouched : says [] ≡ Ok tt
unfolding computing
untouched = refl

-- ---- the paper's order: "counts (3), coordinates (4), numbers (5 ..), links (6) ..  (7)"

counts_first : says (write (ct POINTS) 0 2049 ∷ write (pt X) 1 2097153 ∷ []) ≡ Err Crowded
unfolding computing
counts_first = refl

then_coordinates : says (write (pt X) 1 2097153 ∷ write (pt REC) 2 9 ∷ []) ≡ Err OffTheTable
unfolding computing
then_coordinates = refl

then_numbers : says (write (pt REC) 2 9 ∷ write (pt PREV) 1 2 ∷ []) ≡ Err NoSuch
unfolding computing
then_numbers = refl

then_links : says (write (pt PREV) 1 2 ∷ write (rc MARK) 0 5 ∷ []) ≡ Err Loose
unfolding computing
then_links = refl

last_marks : says (write (rc MARK) 0 5 ∷ []) ≡ Err Muddled
unfolding computing
last_marks = refl

-- ---- at the limits

largest_coordinate : says (write (pt X) 1 2097152 ∷ []) ≡ Ok tt
unfolding computing
largest_coordinate = refl

no_owner : says (write (rc OWNER) 0 NONE ∷ []) ≡ Ok tt
unfolding computing
no_owner = refl

owner_of_nothing : says (write (rc OWNER) 0 1 ∷ []) ≡ Err NoSuch
unfolding computing
owner_of_nothing = refl

-- point 3 is on no ring: nothing of it is asked
not_reached : says (write (pt X) 3 2097153 ∷ write (pt REC) 3 9 ∷ []) ≡ Ok tt
unfolding computing
not_reached = refl

-- ---- progress

-- done, wherever its place; unfinished, off its ring; open, whatever its mark
done_anywhere : says (write (rc MARK) 0 4 ∷ write (rc PRESENT) 0 3 ∷ []) ≡ Ok tt
unfolding computing
done_anywhere = refl

unfinished_off_its_ring : says (write (rc MARK) 0 3 ∷ write (rc PRESENT) 0 3 ∷ []) ≡ Err Muddled
unfolding computing
unfinished_off_its_ring = refl

open_has_no_mark : says (write (rc FLAGS) 0 1 ∷ write (rc MARK) 0 5 ∷ []) ≡ Ok tt
unfolding computing
open_has_no_mark = refl

-- ---- a second record: its ring is the first's; it has none, with a taker that names nothing, and without a reason

ring_of_another : says (write (ct RECORDS) 0 2 ∷ write (rc FIRST) 1 1 ∷ []) ≡ Err Muddled
unfolding computing
ring_of_another = refl

lost_taker : says (write (ct RECORDS) 0 2 ∷ write (rc FIRST) 1 NONE ∷ write (rc REASON) 1 JOINED ∷ write (rc TAKER) 1 2 ∷ []) ≡ Err NoSuch
unfolding computing
lost_taker = refl

no_reason : says (write (ct RECORDS) 0 2 ∷ write (rc FIRST) 1 NONE ∷ []) ≡ Err Muddled
unfolding computing
no_reason = refl

joined_record : says (write (ct RECORDS) 0 2 ∷ write (rc FIRST) 1 NONE ∷ write (rc REASON) 1 JOINED ∷ []) ≡ Ok tt
unfolding computing
joined_record = refl
