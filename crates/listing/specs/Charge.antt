-- The charge line: document 02, Ask 1, "A last line has `charge`, quotient, remainder".
use Rattle.std.specs.Prelude.{ℕ, Bool, List, [], ◌∷◌, ◌++◌, ℤ, pos, nat_abs, ◌+ℤ◌}
use Rattle.rates.specs.declared.Charge.{Charge}
use Rattle.rates.specs.Charge.{charge_of}
use Rattle.geometry.specs.declared.Point.{Point}
use Rattle.geometry.specs.Plane.{area_outpt}
use Rattle.text.specs.Text.{SPACE, NEWLINE, decimal}
use Rattle.listing.specs.Words.{CHARGE}
use Rattle.listing.specs.Fields.{paths_in}
use Rattle.listing.specs.Lines.{listing_of}

-- "The net doubled area is the sum over all closed paths"
abbrev pub net_area : List (List Point) → ℤ
net_area [] = pos 0
net_area (p ∷ ps) = area_outpt p +ℤ net_area ps

-- "`charge`, quotient, remainder"
abbrev pub charge_text : Charge → List ℕ
charge_text c = CHARGE ++ (SPACE ∷ []) ++ decimal c.quotient ++ (SPACE ∷ []) ++ decimal c.remainder ++ (NEWLINE ∷ [])

-- "and its magnitude counts"
abbrev pub charge_line : ℕ → List (List Point) → List ℕ
charge_line rate ps = charge_text (charge_of (nat_abs (net_area ps)) rate)

-- the listing of a tray, and the charge of its closed paths at a rate
unfoldable pub charged_of : Bool → ℕ → ℕ → ℕ → List ℕ → List ℕ
charged_of rev rate closed open' t = listing_of rev closed open' t ++ charge_line rate (paths_in t closed 0)
