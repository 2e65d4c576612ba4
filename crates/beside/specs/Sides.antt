-- Words with a box for each record below a number, whatever the boxes: what steps and boxes commute by.
use Rattle.std.specs.Prelude.{ℕ, zero, suc, List}
use Rattle.store.specs.declared.boxed.Sides.{Sides}
use Rattle.store.specs.Words.{Store}
use Rattle.store.specs.Boxes.{set_sides, sides_of, ring_box}

-- record j has the box f j, for every j below n
unfoldable pub with_sides : (ℕ → Sides) → ℕ → List ℕ → List ℕ
with_sides f zero w = w
with_sides f (suc j) w = set_sides (with_sides f j w) j (f j)

-- the words of each ring's box
abbrev pub ring_sides : Store → ℕ → Sides
ring_sides s j = sides_of (ring_box s j)
