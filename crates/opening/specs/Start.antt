-- Rings at their start: document 01, "opening sets each closed ring .. at its start, the validity test, with its first point as present place". Open rings and records without points
-- get the same words; of these demand 3 reads one, the record it was cut from, which is none. Then each ring's box stands beside it, open rings' too.
use Rattle.std.specs.Prelude.{ℕ, zero, suc, List, [], ◌∷◌}
use Rattle.rings.specs.Progress.{validity}
use Rattle.store.specs.Field.{rc, MARK, PRESENT, START, CUT, NONE}
use Rattle.store.specs.Words.{Write, write, on_words}
use Rattle.store.specs.Named.{first_of, records_of}
use Rattle.store.specs.Sound.{mark_of}
use Rattle.store.specs.Boxes.{all_boxed}

-- record i, whose first point is a: the validity test is due, the present place and the loop's start are the first point; it was cut from none
abbrev pub start_writes : ℕ → ℕ → List Write
start_writes i a = write (rc MARK) i (mark_of validity) ∷ write (rc PRESENT) i a ∷ write (rc START) i a ∷ write (rc CUT) i NONE ∷ []

unfoldable pub start_ring : List ℕ → ℕ → List ℕ
start_ring w i = on_words w (start_writes i (first_of w i))

-- the records below i
unfoldable pub start_to : ℕ → List ℕ → List ℕ
start_to zero w = w
start_to (suc i) w = start_ring (start_to i w) i

-- every record, with its box
unfoldable pub start_rings : List ℕ → List ℕ
start_rings w = all_boxed (start_to (records_of w) w)
