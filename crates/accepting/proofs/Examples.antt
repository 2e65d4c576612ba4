-- Worked jobs, as rows of one table with a common statement: the number of the refusal, or 0, computed.
use mathlib.Core.Path.{◌≡◌, refl}
use mathlib.Core.List.{List, [], ◌∷◌, ◌++◌, map}
use Prim.Native.Nat.{ℕ, ◌*◌}
use lib.ListN.{replicate}
use Rattle.std.proofs.Common.{Ok, Err}
use Rattle.job.specs.Limits.{SEGMENTS, JOINS}
use Rattle.job.specs.Field.{body_of, field_of}
use Rattle.job.specs.Refusal.{number_of}
use Rattle.store.specs.Field.{BLOCK}
use Rattle.store.specs.Words.{cell, put}
use Rattle.audit.specs.Tests.{any_below}
use Rattle.reading.specs.Fill.{ReadEnd, end, turn_of, run, fill_of}
use Rattle.reading.specs.Read.{read_of}
use Rattle.joins.specs.Resolve.{find_in}
use Rattle.owners.specs.Owners.{ends_in}
use Rattle.rings.specs.Walk as walk
use Rattle.visits.specs.Rings.{any_in}
use Rattle.rows.specs.Rows.{rows_of}
use Rattle.accepting.specs.Accept.{accept_of}

pub record Row : Type 0 where
  pub job : List ℕ
  pub says : ℕ

abbrev said : ReadEnd → ℕ
said (end (Ok j) w ss js) = 0
said (end (Err r) w ss js) = number_of r

abbrev row : List ℕ → ℕ → Row
row j n = record { job = j; says = n }

abbrev settings : List ℕ
settings = 1 ∷ 1 ∷ 0 ∷ 0 ∷ []

-- a point with this x's four bytes, y 0, next and prev itself, record 0
abbrev point : ℕ → ℕ → ℕ → ℕ → List ℕ
point a b c d = 2 ∷ 18 ∷ 0 ∷ a ∷ b ∷ c ∷ d ∷ 0 ∷ 0 ∷ 0 ∷ 0 ∷ 0 ∷ 0 ∷ 0 ∷ 0 ∷ 0 ∷ 0 ∷ 0 ∷ 0 ∷ 0 ∷ 0 ∷ []

-- a closed record without owner, with this first point
abbrev record_at : ℕ → ℕ → List ℕ
record_at a b = 3 ∷ 5 ∷ 0 ∷ 0 ∷ 255 ∷ 255 ∷ a ∷ b ∷ []

-- a point at x and 0, with its next, prev and record
abbrev at : ℕ → ℕ → ℕ → ℕ → List ℕ
at x nx pv r = 2 ∷ 18 ∷ 0 ∷ x ∷ 0 ∷ 0 ∷ 0 ∷ 0 ∷ 0 ∷ 0 ∷ 0 ∷ nx ∷ 0 ∷ pv ∷ 0 ∷ r ∷ 0 ∷ 0 ∷ 0 ∷ 0 ∷ 0 ∷ []

-- a point with z's four bytes, a ring by itself
abbrev deep : ℕ → ℕ → ℕ → ℕ → List ℕ
deep a b c d = 2 ∷ 18 ∷ 0 ∷ 7 ∷ 0 ∷ 0 ∷ 0 ∷ 0 ∷ 0 ∷ 0 ∷ 0 ∷ 0 ∷ 0 ∷ 0 ∷ 0 ∷ 0 ∷ 0 ∷ a ∷ b ∷ c ∷ d ∷ []

-- a record with these flags, owned by record 0, without points
abbrev owned : ℕ → List ℕ
owned f = 3 ∷ 5 ∷ 0 ∷ f ∷ 0 ∷ 0 ∷ 255 ∷ 255 ∷ []

-- point 0 as a segment
abbrev segment : List ℕ
segment = 4 ∷ 2 ∷ 0 ∷ 0 ∷ 0 ∷ []

abbrev triangle : List ℕ
triangle = at 0 1 2 0 ++ at 1 2 0 0 ++ at 2 0 1 0 ++ record_at 0 0

abbrev pub rows : List Row
rows =
    row [] 2
    ∷ row settings 0
    ∷ row (1 ∷ []) 1
    ∷ row (settings ++ settings) 2
    ∷ row (settings ++ (3 ∷ 5 ∷ 0 ∷ 4 ∷ 255 ∷ 255 ∷ 255 ∷ 255 ∷ [])) 2
    -- x 1,048,577 and x -1,048,577; a torn tail comes before them
    ∷ row (settings ++ point 1 0 16 0) 4
    ∷ row (settings ++ point 255 255 239 255) 4
    ∷ row (settings ++ point 1 0 16 0 ++ (9 ∷ [])) 1
    -- x 1,048,576, but its record is not there; a first point, a join's point that is not there
    ∷ row (settings ++ point 0 0 16 0) 5
    ∷ row (settings ++ record_at 0 0) 5
    ∷ row (settings ++ record_at 255 255 ++ (5 ∷ 4 ∷ 0 ∷ 0 ∷ 0 ∷ 0 ∷ 0 ∷ [])) 5
    -- a z that "row 4 doesn't bind": 1,048,577, the greatest and the least
    ∷ row (settings ++ deep 1 0 16 0 ++ record_at 0 0) 0
    ∷ row (settings ++ deep 255 255 255 127 ++ record_at 0 0) 0
    ∷ row (settings ++ deep 0 0 0 128 ++ record_at 0 0) 0
    -- rings: three points, one; next of prev isn't the point
    ∷ row (settings ++ triangle) 0
    ∷ row (settings ++ at 7 0 0 0 ++ record_at 0 0) 0
    ∷ row (settings ++ at 0 1 0 0 ++ at 1 0 0 0 ++ record_at 0 0) 6
    -- an owner chain that circles, without points and with; a point on no record's ring
    ∷ row (settings ++ owned 0) 7
    ∷ row (settings ++ at 7 0 0 0 ++ (3 ∷ 5 ∷ 0 ∷ 0 ∷ 0 ∷ 0 ∷ 0 ∷ 0 ∷ [])) 7
    ∷ row (settings ++ at 7 0 0 0 ++ record_at 255 255) 7
    -- a ring point that resolves to another record; a ring that two records share; one whose point names a record that its ring's owns
    ∷ row (settings ++ at 0 0 0 1 ++ at 1 1 1 1 ++ record_at 0 0 ++ record_at 1 0) 7
    ∷ row (settings ++ at 7 0 0 0 ++ record_at 0 0 ++ record_at 0 0) 7
    ∷ row (settings ++ at 7 0 0 1 ++ record_at 0 0 ++ owned 0) 0
    -- a segment on an open ring; on a closed one, whose point names an open record without points
    ∷ row (settings ++ at 7 0 0 0 ++ (3 ∷ 5 ∷ 0 ∷ 1 ∷ 255 ∷ 255 ∷ 0 ∷ 0 ∷ []) ++ segment) 8
    ∷ row (settings ++ at 7 0 0 1 ++ record_at 0 0 ++ owned 1 ++ segment) 0
    ∷ []

pub holds : map (λ (r : Row). said (accept_of r.job (replicate BLOCK 0) (replicate SEGMENTS 0) (replicate (2 * JOINS) 0))) rows ≡ map (λ (r : Row). r.says) rows
unfolding accept_of read_of fill_of run turn_of field_of body_of rows_of ends_in find_in any_in walk.run any_below cell put
holds = refl
