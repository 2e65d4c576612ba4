-- Worked fields, as rows of one table with a common statement: what stands at the front of some bytes, computed.
use mathlib.Core.Path.{◌≡◌, refl}
use mathlib.Core.List.{List, [], ◌∷◌, map}
use Prim.Native.Nat.{ℕ}
use Rattle.std.proofs.Common.{Result, Ok, Err}
use Rattle.job.specs.declared.Job.{Job}
use Rattle.job.specs.declared.refusal.Refusal.TheVariants.{Torn, Strange, Crowded}
use Rattle.job.specs.declared.field.Field.TheVariants.{Settings, Point, Record, Segment, Join}
use Rattle.job.specs.declared.field.Field.{Field}
use Rattle.job.specs.declared.refusal.Refusal.{Refusal}
use Rattle.job.specs.Field.{body_of, field_of}
use Rattle.job.specs.Job.{fresh}

-- the state before a field, its bytes, and what is read
pub record Row : Type 0 where
  pub job : Job
  pub part : List ℕ
  pub says : Result (Field × ℕ) Refusal

abbrev row : Job → List ℕ → Result (Field × ℕ) Refusal → Row
row j p s = record { job = j; part = p; says = s }

-- after settings and so many points, records, segments and joins, the last tag being t
abbrev so : ℕ → ℕ → ℕ → ℕ → ℕ → Job
so t p r s j = record { at = 0; last = t; bits = 0; points = p; records = r; segments = s; joins = j }

-- a point's last fourteen bytes: y -1, next 1, prev 2, record 0, and z's four
abbrev rest : ℕ → ℕ → ℕ → ℕ → List ℕ
rest a b c d = 255 ∷ 255 ∷ 255 ∷ 255 ∷ 1 ∷ 0 ∷ 2 ∷ 0 ∷ 0 ∷ 0 ∷ a ∷ b ∷ c ∷ d ∷ []

-- a point's value without z: fourteen bytes
abbrev shallow : List ℕ
shallow = 0 ∷ 0 ∷ 0 ∷ 0 ∷ 255 ∷ 255 ∷ 255 ∷ 255 ∷ 1 ∷ 0 ∷ 2 ∷ 0 ∷ 0 ∷ 0 ∷ []

abbrev pub rows : List Row
rows =
    -- the header comes before the tag, and the tag before length and value
    row fresh (9 ∷ []) (Err Torn)
    ∷ row fresh (9 ∷ 0 ∷ 0 ∷ []) (Err Strange)
    ∷ row fresh (2 ∷ 18 ∷ 0 ∷ []) (Err Strange)
    ∷ row (so 1 0 0 0 0) (1 ∷ 7 ∷ 7 ∷ []) (Err Strange)
    ∷ row (so 3 1 1 0 0) (2 ∷ 18 ∷ 0 ∷ []) (Err Strange)
    -- settings: bits 0 and 1; the bytes after a field are left for the next
    ∷ row fresh (1 ∷ 1 ∷ 0 ∷ 3 ∷ 2 ∷ 18 ∷ []) (Ok (Settings 3, 4))
    ∷ row fresh (1 ∷ 1 ∷ 0 ∷ 4 ∷ []) (Err Strange)
    ∷ row fresh (1 ∷ 2 ∷ 0 ∷ 4 ∷ 0 ∷ []) (Err Torn)
    -- a point: x 1,048,576 and 1,048,577, which row 4 will judge; one byte short; the 2,049th
    ∷ row (so 1 0 0 0 0) (2 ∷ 18 ∷ 0 ∷ 0 ∷ 0 ∷ 16 ∷ 0 ∷ rest 254 255 255 255) (Ok (Point 2097152 1048575 1 2 0 4294967294, 21))
    ∷ row (so 2 2047 0 0 0) (2 ∷ 18 ∷ 0 ∷ 1 ∷ 0 ∷ 16 ∷ 0 ∷ rest 1 2 3 4) (Ok (Point 2097153 1048575 1 2 0 67305985, 21))
    ∷ row (so 2 2047 0 0 0) (2 ∷ 18 ∷ 0 ∷ 0 ∷ 0 ∷ 0 ∷ rest 0 0 0 0) (Err Torn)
    ∷ row (so 2 2048 0 0 0) (2 ∷ 18 ∷ 0 ∷ 0 ∷ 0 ∷ 0 ∷ 0 ∷ rest 0 0 0 0) (Err Crowded)
    -- its z: the greatest and the least are read like any other; without one the field is torn, after the tag and before the count
    ∷ row (so 1 0 0 0 0) (2 ∷ 18 ∷ 0 ∷ 0 ∷ 0 ∷ 0 ∷ 0 ∷ rest 255 255 255 127) (Ok (Point 1048576 1048575 1 2 0 2147483647, 21))
    ∷ row (so 1 0 0 0 0) (2 ∷ 18 ∷ 0 ∷ 0 ∷ 0 ∷ 0 ∷ 0 ∷ rest 0 0 0 128) (Ok (Point 1048576 1048575 1 2 0 2147483648, 21))
    ∷ row (so 1 0 0 0 0) (2 ∷ 14 ∷ 0 ∷ shallow) (Err Torn)
    ∷ row (so 2 2048 0 0 0) (2 ∷ 14 ∷ 0 ∷ shallow) (Err Torn)
    ∷ row (so 3 1 1 0 0) (2 ∷ 14 ∷ 0 ∷ shallow) (Err Strange)
    -- a record: no owner and no first point; the 513th with good bits and with a bad one
    ∷ row (so 2 9 511 0 0) (3 ∷ 5 ∷ 0 ∷ 2 ∷ 255 ∷ 255 ∷ 255 ∷ 255 ∷ []) (Ok (Record 2 65535 65535, 8))
    ∷ row (so 3 9 512 0 0) (3 ∷ 5 ∷ 0 ∷ 2 ∷ 255 ∷ 255 ∷ 255 ∷ 255 ∷ []) (Err Crowded)
    ∷ row (so 3 9 512 0 0) (3 ∷ 5 ∷ 0 ∷ 8 ∷ 255 ∷ 255 ∷ 255 ∷ 255 ∷ []) (Err Strange)
    -- segments and joins, the last that fit and one more
    ∷ row (so 3 9 1 255 0) (4 ∷ 2 ∷ 0 ∷ 7 ∷ 1 ∷ []) (Ok (Segment 263, 5))
    ∷ row (so 4 9 1 256 0) (4 ∷ 2 ∷ 0 ∷ 7 ∷ 1 ∷ []) (Err Crowded)
    ∷ row (so 1 0 0 0 255) (5 ∷ 4 ∷ 0 ∷ 1 ∷ 0 ∷ 2 ∷ 0 ∷ []) (Ok (Join 1 2, 7))
    ∷ row (so 5 9 1 0 256) (5 ∷ 4 ∷ 0 ∷ 1 ∷ 0 ∷ 2 ∷ 0 ∷ []) (Err Crowded)
    ∷ []

pub holds : map (λ (r : Row). field_of r.job r.part) rows ≡ map (λ (r : Row). r.says) rows
unfolding field_of body_of
holds = refl
