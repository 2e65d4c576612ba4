-- One triangle, with depths, in two numberings, with a record that it took in: the drawings are computed, that both finish alike is the theorem's. With another z it is another drawing.
use Prim.Native.Nat.{ℕ}
use mathlib.Core.Path.{◌≡◌, refl}
use mathlib.Core.List.{List, [], ◌∷◌, ◌++◌}
use mathlib.Core.Option.{some}
use lib.IntN.{pos}
use Rattle.geometry.specs.declared.Point.{Point}
use Rattle.job.specs.Field.{body_of, field_of}
use Rattle.store.specs.Field.{NONE}
use Rattle.store.specs.Words.{cell, put}
use Rattle.audit.specs.Tests.{any_below}
use Rattle.reading.specs.Fill.{turn_of, run, fill_of}
use Rattle.reading.specs.Read.{read_of}
use Rattle.owners.specs.Owners.{ends_in}
use Rattle.visits.specs.Rings.{any_in}
use Rattle.rows.specs.Rows.{rows_of}
use Rattle.rings.specs.Walk as walk
use Rattle.joins.specs.Resolve.{find_in}
use Rattle.accepting.specs.Accept.{accept_of}
use Rattle.finishing.specs.InOneCall.{finish_of}
use Rattle.drawing.specs.Same.{SameFinish}
use Rattle.drawing.specs.Drawing.{Drawing, drawing_of, drawing_in}
use Rattle.drawing.proofs.Theorem.{drawing_finish}

-- a point at x and y, with its next, prev and record; z has the low byte a and three bytes b
abbrev at : ℕ → ℕ → ℕ → ℕ → ℕ → ℕ → ℕ → List ℕ
at x y nx pv r a b = 2 ∷ 18 ∷ 0 ∷ x ∷ 0 ∷ 0 ∷ 0 ∷ y ∷ 0 ∷ 0 ∷ 0 ∷ nx ∷ 0 ∷ pv ∷ 0 ∷ r ∷ 0 ∷ a ∷ b ∷ b ∷ b ∷ []

-- record 0 with first point a; record 1 without points, owned by record 0; point b as a segment; points b and c as a join
abbrev ending : ℕ → ℕ → ℕ → List ℕ
ending a b c = (3 ∷ 5 ∷ 0 ∷ 0 ∷ 255 ∷ 255 ∷ a ∷ 0 ∷ []) ++ (3 ∷ 5 ∷ 0 ∷ 0 ∷ 0 ∷ 0 ∷ 255 ∷ 255 ∷ []) ++ (4 ∷ 2 ∷ 0 ∷ b ∷ 0 ∷ []) ++ (5 ∷ 4 ∷ 0 ∷ b ∷ 0 ∷ c ∷ 0 ∷ [])

abbrev settings : List ℕ
settings = 1 ∷ 1 ∷ 0 ∷ 0 ∷ []

-- (0,0) (50,0) (20,40) with z 7, -4 and 0, numbered 0 1 2, all naming record 0
abbrev pub first_export : List ℕ
first_export = settings ++ at 0 0 1 2 0 7 0 ++ at 50 0 2 0 0 252 255 ++ at 20 40 0 1 0 0 0 ++ ending 0 1 0

-- the same, numbered 1 2 0, two of them naming record 1
abbrev pub second_export : List ℕ
second_export = settings ++ at 20 40 1 2 1 0 0 ++ at 0 0 2 0 0 7 0 ++ at 50 0 0 1 1 252 255 ++ ending 1 2 1

-- the first with z 8 for 7
abbrev pub deeper_export : List ℕ
deeper_export = settings ++ at 0 0 1 2 0 8 0 ++ at 50 0 2 0 0 252 255 ++ at 20 40 0 1 0 0 0 ++ ending 0 1 0

abbrev point : ℕ → ℕ → ℕ → Point
point a b c = record { x = pos a; y = pos b; z = c }

-- what both draw, with z 7 at the first point; the third has 8 there
abbrev pub drawn_triangle : ℕ → Drawing
drawn_triangle depth =
    record {
      settings = 0;
      records = record { flags = 0; owner = NONE; ring = point 0 0 depth ∷ point 50 0 4294967292 ∷ point 20 40 0 ∷ [] } ∷ record { flags = 0; owner = 0; ring = [] } ∷ [];
      segments = record { ring = 0; place = 1 } ∷ [];
      joins = record { ring = 0; place = 1 } ∷ record { ring = 0; place = 0 } ∷ [];
    }

pub first_draws : drawing_in first_export ≡ some (drawn_triangle 7)
unfolding drawing_in drawing_of accept_of read_of fill_of run turn_of field_of body_of rows_of ends_in find_in any_in walk.run any_below cell put
first_draws = refl

pub second_draws : drawing_in second_export ≡ some (drawn_triangle 7)
unfolding drawing_in drawing_of accept_of read_of fill_of run turn_of field_of body_of rows_of ends_in find_in any_in walk.run any_below cell put
second_draws = refl

pub deeper_draws : drawing_in deeper_export ≡ some (drawn_triangle 8)
unfolding drawing_in drawing_of accept_of read_of fill_of run turn_of field_of body_of rows_of ends_in find_in any_in walk.run any_below cell put
deeper_draws = refl

-- so they finish alike, in every work space and on every tray
pub finish_alike : (lent t : List ℕ) → SameFinish (finish_of first_export lent t) (finish_of second_export lent t)
finish_alike lent t = drawing_finish first_export second_export lent t (drawn_triangle 7) first_draws second_draws
