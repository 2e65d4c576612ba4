-- Document 01's listing, whole, from the tray's bytes; the same with the charge; depths; the words under `reverse_solution`; and a refusal's line. By evaluation.
use Prim.Native.Nat.{ℕ}
use mathlib.Core.Path.{◌≡◌, refl}
use mathlib.Core.Bool.{Bool, true, false}
use mathlib.Core.List.{List, [], ◌∷◌, ◌++◌}
use lib.IntN.{pos, negsuc}
use Rattle.rates.specs.Charge.{charge_of}
use Rattle.geometry.specs.Plane.{area_outpt}
use Rattle.text.specs.Text.{digits}
use Rattle.listing.specs.Words.{PIECE, HOLE, FLAT}
use Rattle.listing.specs.Fields.{point_in, as_words}
use Rattle.listing.specs.Lines.{word_of, depth_text, point_text, listing_of, refused_line}
use Rattle.listing.specs.Room.{TEXT}
use Rattle.listing.specs.Charge.{charged_of}

-- closed 5,5 0,12 0,0, then closed 10,10 10,0 5,5, all with z 0
tray : List ℕ
tray =
    (6 ∷ 36 ∷ 0 ∷ 5 ∷ 0 ∷ 0 ∷ 0 ∷ 5 ∷ 0 ∷ 0 ∷ 0 ∷ 0 ∷ 0 ∷ 0 ∷ 0 ∷ 0 ∷ 0 ∷ 0 ∷ 0 ∷ 12 ∷ 0 ∷ 0 ∷ 0 ∷ 0 ∷ 0 ∷ 0 ∷ 0 ∷ 0 ∷ 0 ∷ 0 ∷ 0 ∷ 0 ∷ 0 ∷ 0 ∷ 0 ∷ 0 ∷ 0 ∷ 0 ∷ 0 ∷ [])
    ++ (6 ∷ 36 ∷ 0 ∷ 10 ∷ 0 ∷ 0 ∷ 0 ∷ 10 ∷ 0 ∷ 0 ∷ 0 ∷ 0 ∷ 0 ∷ 0 ∷ 0 ∷ 10 ∷ 0 ∷ 0 ∷ 0 ∷ 0 ∷ 0 ∷ 0 ∷ 0 ∷ 0 ∷ 0 ∷ 0 ∷ 0 ∷ 5 ∷ 0 ∷ 0 ∷ 0 ∷ 5 ∷ 0 ∷ 0 ∷ 0 ∷ 0 ∷ 0 ∷ 0 ∷ 0 ∷ [])

-- closed 2 open 0
-- piece 3 60 5,5,0 0,12,0 0,0,0
-- hole 3 -50 10,10,0 10,0,0 5,5,0
text : List ℕ
text =
    (99 ∷ 108 ∷ 111 ∷ 115 ∷ 101 ∷ 100 ∷ 32 ∷ 50 ∷ 32 ∷ 111 ∷ 112 ∷ 101 ∷ 110 ∷ 32 ∷ 48 ∷ 10 ∷ [])
    ++ (112 ∷ 105 ∷ 101 ∷ 99 ∷ 101 ∷ 32 ∷ 51 ∷ 32 ∷ 54 ∷ 48 ∷ 32 ∷ 53 ∷ 44 ∷ 53 ∷ 44 ∷ 48 ∷ 32 ∷ 48 ∷ 44 ∷ 49 ∷ 50 ∷ 44 ∷ 48 ∷ 32 ∷ 48 ∷ 44 ∷ 48 ∷ 44 ∷ 48 ∷ 10 ∷ [])
    ++ (104 ∷ 111 ∷ 108 ∷ 101 ∷ 32 ∷ 51 ∷ 32 ∷ 45 ∷ 53 ∷ 48 ∷ 32 ∷ 49 ∷ 48 ∷ 44 ∷ 49 ∷ 48 ∷ 44 ∷ 48 ∷ 32 ∷ 49 ∷ 48 ∷ 44 ∷ 48 ∷ 44 ∷ 48 ∷ 32 ∷ 53 ∷ 44 ∷ 53 ∷ 44 ∷ 48 ∷ 10 ∷ [])

paper : listing_of false 2 0 tray ≡ text
unfolding listing_of digits point_in area_outpt tray text
paper = refl

-- charge 0 10000: 60 less 50, times 1,000
charged : charged_of false 1000 2 0 tray ≡ text ++ (99 ∷ 104 ∷ 97 ∷ 114 ∷ 103 ∷ 101 ∷ 32 ∷ 48 ∷ 32 ∷ 49 ∷ 48 ∷ 48 ∷ 48 ∷ 48 ∷ 10 ∷ [])
unfolding charged_of charge_of listing_of digits point_in area_outpt tray text
charged = refl

-- z is a signed number of 32 bits: 0, the greatest, the least, -1; of a larger word its 32 bits count
no_depth : depth_text 0 ≡ 48 ∷ []
unfolding digits
no_depth = refl

highest : depth_text 2147483647 ≡ 50 ∷ 49 ∷ 52 ∷ 55 ∷ 52 ∷ 56 ∷ 51 ∷ 54 ∷ 52 ∷ 55 ∷ []
unfolding digits
highest = refl

deepest : depth_text 2147483648 ≡ 45 ∷ 50 ∷ 49 ∷ 52 ∷ 55 ∷ 52 ∷ 56 ∷ 51 ∷ 54 ∷ 52 ∷ 56 ∷ []
unfolding digits
deepest = refl

just_below : depth_text 4294967295 ≡ 45 ∷ 49 ∷ []
unfolding digits
just_below = refl

low_bits : depth_text 4294967303 ≡ 55 ∷ []
unfolding digits
low_bits = refl

-- "Listings show `x,y,z`": a space and 5,-6,-4
shown : point_text (record { x = pos 5; y = negsuc 5; z = 4294967292 }) ≡ 32 ∷ 53 ∷ 44 ∷ 45 ∷ 54 ∷ 44 ∷ 45 ∷ 52 ∷ []
unfolding digits
shown = refl

-- and so it is read from twelve bytes, whose z keeps 32 bits
read_back : point_in (5 ∷ 0 ∷ 0 ∷ 0 ∷ 250 ∷ 255 ∷ 255 ∷ 255 ∷ 252 ∷ 255 ∷ 255 ∷ 255 ∷ []) 0 ≡ record { x = pos 5; y = negsuc 5; z = 4294967292 }
unfolding point_in
read_back = refl

kept_bits : as_words (record { x = pos 5; y = negsuc 5; z = 4294967303 }) ≡ record { x = pos 5; y = negsuc 5; z = 7 }
kept_bits = refl

-- no listing is longer
pub text_is : TEXT ≡ 160359
text_is = refl

-- with the setting -60 is a piece and 50 a hole; zero is flat under either
reversed_piece : word_of true (negsuc 59) ≡ PIECE
reversed_piece = refl

reversed_hole : word_of true (pos 50) ≡ HOLE
reversed_hole = refl

flat : (rev : Bool) → word_of rev (pos 0) ≡ FLAT
flat rev = refl

-- refused 12
refused : refused_line 12 ≡ 114 ∷ 101 ∷ 102 ∷ 117 ∷ 115 ∷ 101 ∷ 100 ∷ 32 ∷ 49 ∷ 50 ∷ 10 ∷ []
unfolding digits
refused = refl
