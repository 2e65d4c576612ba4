-- The tray's bytes: document 01, "Output fields: tag 6 closed, then tag 7 open, records ascending, value x, y (i32) for each point", and document 02, Ask 9: "path values gain it too, 12 bytes a point".
use Rattle.std.specs.Prelude.{ℕ, zero, suc, ◌+◌, ◌-◌, ◌*◌, ◌/◌, ◌%◌, ◌^◌, Bool, true, false, List, [], ◌∷◌, ◌++◌, ℤ, length, replicate, drop}
use Rattle.std.specs.Int.{w32}
use Rattle.std.proofs.Common.{of_z}
use Rattle.job.specs.Limits.{POINTS, RECORDS}
use Rattle.geometry.specs.declared.Point.{Point}
use Rattle.store.specs.Words.{Store}
use Rattle.paths.specs.Path.{closed_paths, open_paths}

-- the n low bytes of v, low byte first
abbrev pub low_bytes : ℕ → ℕ → List ℕ
low_bytes zero v = []
low_bytes (suc n) v = low_bytes n v ++ (v / 256 ^ n % 256 ∷ [])

-- a signed number in four bytes, two's complement
abbrev pub i32_bytes : ℤ → List ℕ
i32_bytes z = low_bytes 4 (of_z w32 z)

-- "12 bytes a point"
abbrev pub POINT : ℕ
POINT = 12

-- x, y and z; z is its word already
unfoldable pub point_bytes : Point → List ℕ
point_bytes p = i32_bytes p.x ++ i32_bytes p.y ++ low_bytes 4 p.z

abbrev pub path_bytes : List Point → List ℕ
path_bytes [] = []
path_bytes (p ∷ ps) = point_bytes p ++ path_bytes ps

-- a field: tag one byte, length two bytes, value
unfoldable pub path_field : ℕ → List Point → List ℕ
path_field tag path = (tag ∷ []) ++ low_bytes 2 (POINT * length path) ++ path_bytes path

-- "tag 6 closed, then tag 7 open"
abbrev pub tag_of : Bool → ℕ
tag_of false = 6
tag_of true = 7

abbrev pub fields : ℕ → List (List Point) → List ℕ
fields tag [] = []
fields tag (p ∷ ps) = path_field tag p ++ fields tag ps

-- all of a store's paths
unfoldable pub fields_of : Store → List ℕ
fields_of s = fields (tag_of false) (closed_paths s) ++ fields (tag_of true) (open_paths s)

-- "26,112 tray bytes always suffice for paths": three for each record's field, and each point's
abbrev pub TRAY : ℕ
TRAY = 3 * RECORDS + POINT * POINTS

-- a tray of n bytes that begins with these; past them it is zero
abbrev pub padded : ℕ → List ℕ → List ℕ
padded n bytes = bytes ++ replicate (n - length bytes) 0

-- bytes laid over the beginning of a tray
abbrev pub over : List ℕ → List ℕ → List ℕ
over bytes t = bytes ++ drop (length bytes) t
