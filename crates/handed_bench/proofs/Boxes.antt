-- Boxes and windows on a work space of a ring and a record without one: the boxes written, what is asked of them, what a window lists.
use Prim.Native.Nat.{ℕ, ◌+◌}
use mathlib.Core.Path.{◌≡◌, refl}
use mathlib.Core.List.{List, [], ◌∷◌, map}
use mathlib.Core.Option.{none, some}
use lib.IntN.{ℤ, pos, negsuc}
use lib.ListN.{replicate, set}
use Rattle.std.specs.Prelude.{Ok, Err}
use Rattle.job.specs.declared.refusal.Refusal.TheVariants.{Loose, Muddled, Full, SmallTray}
use Rattle.rings.specs.Walk.{run}
use Rattle.geometry.specs.declared.Rect.{Rect}
use Rattle.geometry.specs.Box.{widen}
use Rattle.store.specs.Field.{pt, rc, ct, X, Y, NEXT, PREV, FIRST, REASON, POINTS, RECORDS, NONE, NAMES, LENGTH}
use Rattle.store.specs.Words.{write, cell, put, view, on_words}
use Rattle.store.specs.Reason.{NO_RING}
use Rattle.store.specs.Value.{word_of}
use Rattle.store.specs.Boxes.{sides_at, sides_of, set_sides, ring_box, misboxed, boxed_at, boxed_to, all_boxed}
use Rattle.audit.specs.Tests.{any_below, reach, reached_by, tests_of}
use Rattle.handed.specs.Handed.{any_misboxed, kept_twice, tested_of, handed_of}
use Rattle.windows.specs.Window.{box_meets}
use Rattle.windows.specs.RecordsIn.{is_in, all_in, found, records_in}

abbrev rect : ℤ → ℤ → ℤ → ℤ → Rect
rect l t r b = record { left = l; top = t; right = r; bottom = b }

-- record 0 has no ring; record 1's is (1,9) (7,4) (4,2). No box is written yet
abbrev drawn : List ℕ
drawn =
    on_words (replicate LENGTH 0)
    (write (ct POINTS) 0 3 ∷ write (ct RECORDS) 0 2
    ∷ write (pt X) 0 1048577 ∷ write (pt Y) 0 1048585
    ∷ write (pt X) 1 1048583 ∷ write (pt Y) 1 1048580
    ∷ write (pt X) 2 1048580 ∷ write (pt Y) 2 1048578
    ∷ write (pt NEXT) 0 1 ∷ write (pt NEXT) 1 2 ∷ write (pt NEXT) 2 0
    ∷ write (pt PREV) 0 2 ∷ write (pt PREV) 1 0 ∷ write (pt PREV) 2 1
    ∷ write (rc FIRST) 0 NONE ∷ write (rc REASON) 0 NO_RING ∷ [])

-- the definitions that the rows compute with
unfoldable computing : Unit {0}
unfolding handed_of tested_of any_misboxed kept_twice tests_of any_below reach reached_by misboxed all_boxed boxed_to boxed_at set_sides ring_box word_of widen run cell put records_in all_in is_in box_meets
computing = tt

-- ---- the boxes

ring_boxes : map (ring_box (view drawn)) (0 ∷ 1 ∷ []) ≡ none ∷ some (rect (pos 1) (pos 2) (pos 7) (pos 9)) ∷ []
unfolding computing
ring_boxes = refl

written : map (sides_at (all_boxed drawn)) (0 ∷ 1 ∷ []) ≡ sides_of none ∷ record { left = 1048577; top = 1048578; right = 1048583; bottom = 1048585 } ∷ []
unfolding computing
written = refl

-- a number that is no record's changes nothing
no_record : boxed_at drawn 2 ≡ drawn
unfolding computing
no_record = refl

-- ---- what every call asks first: the length, links (6) before boxes, boxes (7), names (7)

one_word_short : handed_of (replicate 94803 0) ≡ Err Full
unfolding computing
one_word_short = refl

nothing_drawn : handed_of (replicate LENGTH 0) ≡ Ok tt
unfolding computing
nothing_drawn = refl

boxed : handed_of (all_boxed drawn) ≡ Ok tt
unfolding computing
boxed = refl

not_boxed : handed_of drawn ≡ Err Muddled
unfolding computing
not_boxed = refl

links_before_boxes : handed_of (on_words drawn (write (pt PREV) 1 2 ∷ [])) ≡ Err Loose
unfolding computing
links_before_boxes = refl

one_name_twice : handed_of (set (set (all_boxed drawn) (2 + NAMES) 5) (3 + NAMES) 5) ≡ Err Muddled
unfolding computing
one_name_twice = refl

-- a word that is no name is free
free_places : handed_of (set (set (all_boxed drawn) NAMES 257) (3 + NAMES) 257) ≡ Ok tt
unfolding computing
free_places = refl

-- ---- the records in a window

-- it touches the ring's corner; the record without a ring has zero words in it, and is not listed
corner : records_in (all_boxed drawn) (rect (negsuc 1048575) (negsuc 1048575) (pos 1) (pos 2)) (7 ∷ 7 ∷ []) ≡ found (Ok 1) (1 ∷ 0 ∷ [])
unfolding computing
corner = refl

no_place : records_in (all_boxed drawn) (rect (pos 7) (pos 9) (pos 8) (pos 10)) [] ≡ found (Err SmallTray) []
unfolding computing
no_place = refl

-- the tests come first, and a refusal leaves the list
refused : records_in drawn (rect (pos 0) (pos 0) (pos 9) (pos 9)) (7 ∷ []) ≡ found (Err Muddled) (7 ∷ [])
unfolding computing
refused = refl
