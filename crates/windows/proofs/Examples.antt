-- Windows and boxes, computed: edges count, either way inside out meets nothing; records ascending; the words of a box; the list that is left.
use mathlib.Core.Path.{◌≡◌, refl}
use mathlib.Core.Bool.{Bool, true, false}
use mathlib.Core.List.{List, [], ◌∷◌, ◌++◌, map}
use mathlib.Core.Option.{none, some}
use Prim.Native.Nat.{ℕ}
use lib.Dec.{eqb}
use lib.IntN.{ℤ, pos, negsuc}
use lib.ListN.{replicate}
use Rattle.std.specs.Prelude.{Err}
use Rattle.job.specs.declared.refusal.Refusal.TheVariants.{Muddled, SmallTray}
use Rattle.geometry.specs.declared.Rect.{Rect}
use Rattle.store.specs.Field.{BOXES}
use Rattle.store.specs.Boxes.{side_at, sides_at, rect_of, sides_of, differs}
use Rattle.std.specs.Prelude.{Ok}
use Rattle.windows.specs.Window.{box_meets, inside_out}
use Rattle.windows.specs.RecordsIn.{passing, found, listing, records_by}

-- from x and y on, to x and y
abbrev rect : ℤ → ℤ → ℤ → ℤ → Rect
rect l t r b = record { left = l; top = t; right = r; bottom = b }

-- a box from (1, 2) to (7, 9)
abbrev meets : Rect → Bool
meets window = box_meets (rect (pos 1) (pos 2) (pos 7) (pos 9)) window

-- touching each side from outside; inside it; around it; a corner
meeting : map meets (rect (negsuc 4) (pos 3) (pos 1) (pos 4) ∷ rect (pos 3) (negsuc 4) (pos 4) (pos 2) ∷ rect (pos 7) (pos 3) (pos 12) (pos 4) ∷ rect (pos 3) (pos 9) (pos 4) (pos 12) ∷ rect (pos 3) (pos 3) (pos 3) (pos 3)
    ∷ rect (negsuc 99) (negsuc 99) (pos 99) (pos 99) ∷ rect (pos 7) (pos 9) (pos 8) (pos 10) ∷ []) ≡ true ∷ true ∷ true ∷ true ∷ true ∷ true ∷ true ∷ []
unfolding box_meets
meeting = refl

-- one short of each side
apart : map meets (rect (negsuc 4) (pos 3) (pos 0) (pos 4) ∷ rect (pos 3) (negsuc 4) (pos 4) (pos 1) ∷ rect (pos 8) (pos 3) (pos 12) (pos 4) ∷ rect (pos 3) (pos 10) (pos 4) (pos 12) ∷ []) ≡ false ∷ false ∷ false ∷ false ∷ []
unfolding box_meets
apart = refl

-- turned inside out in x, in y, in both
turned : map meets (rect (pos 4) (pos 3) (pos 3) (pos 4) ∷ rect (pos 3) (pos 4) (pos 4) (pos 3) ∷ rect (pos 4) (pos 4) (pos 3) (pos 3) ∷ []) ≡ false ∷ false ∷ false ∷ []
unfolding box_meets
turned = refl

so_turned : map inside_out (rect (pos 4) (pos 3) (pos 3) (pos 4) ∷ rect (pos 3) (pos 4) (pos 4) (pos 3) ∷ rect (pos 4) (pos 4) (pos 3) (pos 3) ∷ rect (pos 3) (pos 3) (pos 3) (pos 3) ∷ []) ≡ true ∷ true ∷ true ∷ false ∷ []
so_turned = refl

ascending : passing (λ i. eqb i 3) 5 ∷ passing (λ i. true) 3 ∷ passing (λ i. false) 3 ∷ [] ≡ (3 ∷ []) ∷ (0 ∷ 1 ∷ 2 ∷ []) ∷ [] ∷ []
ascending = refl

-- ---- the words of a box

-- a side a column: left, top, right and bottom, a word for each record
columns : map (λ (k : ℕ). side_at k 0) (0 ∷ 1 ∷ 2 ∷ 3 ∷ []) ≡ 16912 ∷ 17424 ∷ 17936 ∷ 18448 ∷ []
columns = refl

last_word : side_at 3 511 ≡ 18959
last_word = refl

sides_in_order : sides_at (replicate BOXES 9 ++ replicate 512 1 ++ replicate 512 2 ++ replicate 512 3 ++ replicate 512 4) 5 ≡ record { left = 1; top = 2; right = 3; bottom = 4 }
sides_in_order = refl

-- "raised as coordinates are"
said : rect_of (record { left = 0; top = 1048575; right = 2097152; bottom = 1048577 }) ≡ rect (negsuc 1048575) (negsuc 0) (pos 1048576) (pos 1)
said = refl

no_box : sides_of none ≡ record { left = 0; top = 0; right = 0; bottom = 0 }
no_box = refl

-- each side counts; without a ring nothing is asked
differing : map (differs (some (rect (pos 1) (pos 2) (pos 7) (pos 9)))) (rect (pos 0) (pos 2) (pos 7) (pos 9) ∷ rect (pos 1) (pos 3) (pos 7) (pos 9) ∷ rect (pos 1) (pos 2) (pos 8) (pos 9) ∷ rect (pos 1) (pos 2) (pos 7) (pos 8) ∷ rect (pos 1) (pos 2) (pos 7) (pos 9) ∷ [])
    ≡ true ∷ true ∷ true ∷ true ∷ false ∷ []
differing = refl

not_asked : differs none (rect (pos 1) (pos 2) (pos 7) (pos 9)) ≡ false
not_asked = refl

-- ---- the list

-- zeros past the records; a list that is just long enough; one short of it is 11, and stays as found
listed : listing (1 ∷ 4 ∷ []) (7 ∷ 7 ∷ 7 ∷ []) ≡ found (Ok 2) (1 ∷ 4 ∷ 0 ∷ [])
listed = refl

just_long_enough : listing (1 ∷ 4 ∷ []) (7 ∷ 7 ∷ []) ≡ found (Ok 2) (1 ∷ 4 ∷ [])
just_long_enough = refl

too_short : listing (1 ∷ 4 ∷ []) (7 ∷ []) ≡ found (Err SmallTray) (7 ∷ [])
too_short = refl

nothing_met : listing [] (7 ∷ []) ≡ found (Ok 0) (0 ∷ [])
nothing_met = refl

-- a refused work space leaves the list
refused_first : (w : List ℕ) (window : Rect) → records_by (Err Muddled) w window (7 ∷ []) ≡ found (Err Muddled) (7 ∷ [])
refused_first w window = refl
