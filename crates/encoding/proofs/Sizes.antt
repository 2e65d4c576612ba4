-- How many bytes are written, and that each is a byte.
use Prim.Native.Nat.{ℕ, zero, suc, ◌+◌, ◌*◌, ◌/◌, ◌%◌, ◌<◌}
use mathlib.Core.Path.{◌≡◌, refl}
use mathlib.Core.List.{List, [], ◌∷◌, ◌++◌}
use native.Mathlib.Omega.{arith}
use native.Mathlib.Nat.{mod-lt}
use lib.ListN.{length, length-append}
use Rattle.rings.specs.Count.{table}
use Rattle.rings.specs.Links.{All}
use Rattle.job.specs.declared.field.Field.{Field}
use Rattle.job.specs.declared.field.Field.TheVariants.{Settings, Point, Record, Segment, Join}
use Rattle.drawing.specs.Drawing.{Drawing}
use Rattle.encoding.specs.Sheet.{bytes_of, all_bytes, Sheet, point_field, record_field, segment_field, join_field, sheet_fields, sheet_bytes}
use Rattle.encoding.specs.Encode.{first_number, sheet_of, encode}

bytes_append : (f g : List Field) → length (all_bytes (f ++ g)) ≡ length (all_bytes f) + length (all_bytes g)
bytes_append [] g = omega arith
bytes_append (x ∷ f) g = omega (arith, length-append (bytes_of x) (all_bytes (f ++ g)), length-append (bytes_of x) (all_bytes f), bytes_append f g)

-- n fields of s bytes each
bytes_table : (g : ℕ → Field) (s : ℕ) → ((i : ℕ) → length (bytes_of (g i)) ≡ s) → (k n : ℕ) → length (all_bytes (table g k n)) ≡ s * n
bytes_table g s h k zero = omega arith
bytes_table g s h k (suc n) = omega (arith, length-append (bytes_of (g k)) (all_bytes (table g (suc k) n)), h k, bytes_table g s h (suc k) n)

sheet_length : (t : Sheet) → length (sheet_bytes t) ≡ 4 + 21 * t.points + 8 * t.records + 5 * t.segments + 7 * t.joins
sheet_length t =
    let a = table (point_field t) 0 t.points in
    let b = table (record_field t) 0 t.records in
    let c = table (segment_field t) 0 t.segments in
    let e = table (join_field t) 0 t.joins in
    omega (arith, bytes_append a (b ++ (c ++ e)), bytes_append b (c ++ e), bytes_append c e, bytes_table (point_field t) 21 (λ i. refl) 0 t.points, bytes_table (record_field t) 8 (λ i. refl) 0 t.records, bytes_table (segment_field t) 5 (λ i. refl) 0 t.segments, bytes_table (join_field t) 7 (λ i. refl) 0 t.joins)

pub encode_length : (d : Drawing) → length (encode d) ≡ 4 + 21 * first_number d (length d.records) + 8 * length d.records + 5 * length d.segments + 7 * (length d.joins / 2)
unfolding encode sheet_of
encode_length d = sheet_length (sheet_of d)

-- ---- bytes

small : (v : ℕ) → v % 256 < 256
small v = mod-lt v (omega arith)

all_append : (l m : List ℕ) → All (λ x. x < 256) l → All (λ x. x < 256) m → All (λ x. x < 256) (l ++ m)
all_append [] m h g = g
all_append (x ∷ l) m h g = (h.0, all_append l m h.1 g)

field_bytes : (f : Field) → All (λ x. x < 256) (bytes_of f)
field_bytes (Settings b) = (omega arith, (omega arith, (omega arith, (small _, tt))))
field_bytes (Point x y n p r z) =
    (omega arith, (omega arith, (omega arith, (small _, (small _, (small _, (small _, (small _, (small _, (small _, (small _, (small _, (small _, (small _, (small _, (small _, (small _, (small _, (small _, (small _, (small _, tt)))))))))))))))))))))
field_bytes (Record f o p) = (omega arith, (omega arith, (omega arith, (small _, (small _, (small _, (small _, (small _, tt))))))))
field_bytes (Segment p) = (omega arith, (omega arith, (omega arith, (small _, (small _, tt)))))
field_bytes (Join a b) = (omega arith, (omega arith, (omega arith, (small _, (small _, (small _, (small _, tt)))))))

fields_bytes : (fs : List Field) → All (λ x. x < 256) (all_bytes fs)
fields_bytes [] = tt
fields_bytes (f ∷ fs) = all_append (bytes_of f) (all_bytes fs) (field_bytes f) (fields_bytes fs)

pub encode_bytes : (d : Drawing) → All (λ x. x < 256) (encode d)
unfolding encode
encode_bytes d = fields_bytes (sheet_fields (sheet_of d))
