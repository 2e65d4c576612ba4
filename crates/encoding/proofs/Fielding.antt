-- Each field's bytes are read back as the field.
use Prim.Native.Nat.{ℕ, ◌+◌, ◌*◌, ◌^◌, ◌/◌, ◌%◌, ◌≤◌, ◌<◌}
use mathlib.Core.Path.{◌≡◌, refl, ap, ◌∙◌}
use mathlib.Core.Bool.{Bool, true, false, ◌&&◌}
use mathlib.Core.List.{List, ◌++◌}
use native.Mathlib.Nat.{mod-one, mod-eq_of_lt}
use native.Mathlib.Omega.{arith}
use lib.Dec.{ltb}
use lib.ListN.{length, drop}
use borrow.Author.Tests.{ne_eqb, le-ltb, lt-leb}
use Rattle.std.proofs.Common.{Ok}
use Rattle.numbers.specs.Raised.{raised, lowered}
use Rattle.numbers.proofs.Raises.{raised_lowered}
use Rattle.numbers.proofs.Written.{split}
use Rattle.job.specs.Limits as limit
use Rattle.job.specs.declared.Job.{Job}
use Rattle.job.specs.declared.field.Kind.{Kind}
use Rattle.job.specs.declared.field.Kind.TheVariants as kind
use Rattle.job.specs.declared.field.Field.{Field}
use Rattle.job.specs.declared.field.Field.TheVariants.{Settings, Point, Record, Segment, Join}
use Rattle.job.specs.Field.{tag_of, kind_of, size_of, field_in, strange_tag, torn_value, strange_bits, crowded, body_of, field_of}
use Rattle.encoding.specs.Sheet.{bytes_of}

-- ---- the numbers in the bytes

-- one byte, two, four
one_back : (v : ℕ) → v < 256 → v / 256 ^ 0 % 256 ≡ v
one_back v h = omega arith

two_back : (v : ℕ) → v < 65536 → v / 256 ^ 0 % 256 + 256 ^ 1 * (v / 256 ^ 1 % 256) ≡ v
two_back v h = omega arith

four_back : (v : ℕ) → v < 4294967296 → v / 256 ^ 0 % 256 + 256 ^ 1 * (v / 256 ^ 1 % 256) + 256 ^ 2 * (v / 256 ^ 2 % 256) + 256 ^ 3 * (v / 256 ^ 3 % 256) ≡ v
four_back v h =
    sum (v / 256 ^ 0 % 256) (v / 256 ^ 1 % 256) (v / 256 ^ 2 % 256) (v / 256 ^ 3 % 256) (v % 256 ^ 0) (v % 256 ^ 1) (v % 256 ^ 2) (v % 256 ^ 3) (v % 256 ^ 4) v
    (mod-one v) (split 0 v) (split 1 v) (split 2 v) (split 3 v) (mod-eq_of_lt h)
  where
    sum : (a b c d r s t u z v : ℕ) → r ≡ 0 → s ≡ a * 1 + r → t ≡ b * 256 + s → u ≡ c * 65536 + t → z ≡ d * 16777216 + u → z ≡ v → a + 256 * b + 65536 * c + 16777216 * d ≡ v
    sum a b c d r s t u z v e f g h i k = omega arith

word_low : (x : ℕ) → lowered limit.COORDINATE x < 4294967296
word_low x = omega arith

word_again : (x : ℕ) → x ≤ 2 * limit.COORDINATE → raised limit.COORDINATE (lowered limit.COORDINATE x) ≡ x
word_again x h = raised_lowered limit.COORDINATE x (omega arith) (omega arith)

depth_again : (z : ℕ) → z < 4294967296 → raised 0 z ≡ z
depth_again z h = omega arith

-- ---- the tag

strange_not : (last tag : ℕ) → 0 < last → last ≤ tag → 1 < tag → tag ≤ 5 → strange_tag last tag ≡ false
strange_not last tag a b c d = rw (ne_eqb tag 0 (λ e. omega arith), le-ltb 5 tag d, le-ltb tag last b, ne_eqb last 0 (λ e. omega arith), ne_eqb tag 1 (λ e. omega arith)) (go (ltb 0 last))
  where
    go : (b : Bool) → (b && false) ≡ false
    go true = refl
    go false = refl

-- ---- the fields

module _ (j : Job) (rest : List ℕ) where
  -- the header and the value are there
  module _ (k : Kind) (s : List ℕ) (f : Field) (n : ℕ) where
    body : torn_value k s ≡ false → field_in k (drop 3 s) ≡ f → strange_bits f ≡ false → crowded k j ≡ false → n ≡ 3 + size_of k → body_of k j s ≡ Ok (f, n)
    unfolding body_of
    body a b c d e = rw (a, b, c, d, e)

    whole : 3 ≤ length s → strange_tag j.last (tag_of s) ≡ false → kind_of (tag_of s) ≡ k → body_of k j s ≡ Ok (f, n) → field_of j s ≡ Ok (f, n)
    unfolding field_of
    whole a b c d = rw (le-ltb (length s) 3 a, b, c) d

  pub read_settings : (b : ℕ) → j.last ≡ 0 → b ≤ 3 → field_of j (bytes_of (Settings b) ++ rest) ≡ Ok (Settings b, 4)
  read_settings b l h =
      let s = bytes_of (Settings b) ++ rest in
      whole kind.Settings s (Settings b) 4 (omega arith) (rw l) refl
      (body kind.Settings s (Settings b) 4 (le-ltb (length s) 4 (omega arith)) (ap Settings (one_back b (omega arith))) (le-ltb 3 b h) refl refl)

  pub read_point : (x y n p r z : ℕ) → 0 < j.last → j.last ≤ 2 → j.points < limit.POINTS → x ≤ 2 * limit.COORDINATE → y ≤ 2 * limit.COORDINATE → n < 65536 → p < 65536 → r < 65536 → z < 4294967296
      → field_of j (bytes_of (Point x y n p r z) ++ rest) ≡ Ok (Point x y n p r z, 21)
  read_point x y n p r z a b c hx hy hn hp hr hz =
      let s = bytes_of (Point x y n p r z) ++ rest in
      whole kind.Point s (Point x y n p r z) 21 (omega arith) (strange_not j.last 2 a b (omega arith) (omega arith)) refl
      (body kind.Point s (Point x y n p r z) 21 (le-ltb (length s) 21 (omega arith))
      (same (ap (raised limit.COORDINATE) (four_back (lowered limit.COORDINATE x) (word_low x)) ∙ word_again x hx) (ap (raised limit.COORDINATE) (four_back (lowered limit.COORDINATE y) (word_low y)) ∙ word_again y hy)
      (two_back n hn) (two_back p hp) (two_back r hr) (ap (raised 0) (four_back z hz) ∙ depth_again z hz)) refl (lt-leb limit.POINTS j.points c) refl)
    where
      same : {a a' b b' c c' d d' e e' f f' : ℕ} → a ≡ a' → b ≡ b' → c ≡ c' → d ≡ d' → e ≡ e' → f ≡ f' → Point a b c d e f ≡ Point a' b' c' d' e' f'
      same p q r s t u = cc

  pub read_record : (f o p : ℕ) → 0 < j.last → j.last ≤ 3 → j.records < limit.RECORDS → f ≤ 3 → o < 65536 → p < 65536 → field_of j (bytes_of (Record f o p) ++ rest) ≡ Ok (Record f o p, 8)
  read_record f o p a b c hf ho hp =
      let s = bytes_of (Record f o p) ++ rest in
      whole kind.Record s (Record f o p) 8 (omega arith) (strange_not j.last 3 a b (omega arith) (omega arith)) refl
      (body kind.Record s (Record f o p) 8 (le-ltb (length s) 8 (omega arith)) (same (one_back f (omega arith)) (two_back o ho) (two_back p hp)) (le-ltb 3 f hf) (lt-leb limit.RECORDS j.records c) refl)
    where
      same : {a a' b b' c c' : ℕ} → a ≡ a' → b ≡ b' → c ≡ c' → Record a b c ≡ Record a' b' c'
      same p q r = cc

  pub read_segment : (p : ℕ) → 0 < j.last → j.last ≤ 4 → j.segments < limit.SEGMENTS → p < 65536 → field_of j (bytes_of (Segment p) ++ rest) ≡ Ok (Segment p, 5)
  read_segment p a b c hp =
      let s = bytes_of (Segment p) ++ rest in
      whole kind.Segment s (Segment p) 5 (omega arith) (strange_not j.last 4 a b (omega arith) (omega arith)) refl
      (body kind.Segment s (Segment p) 5 (le-ltb (length s) 5 (omega arith)) (ap Segment (two_back p hp)) refl (lt-leb limit.SEGMENTS j.segments c) refl)

  pub read_join : (p q : ℕ) → 0 < j.last → j.last ≤ 5 → j.joins < limit.JOINS → p < 65536 → q < 65536 → field_of j (bytes_of (Join p q) ++ rest) ≡ Ok (Join p q, 7)
  read_join p q a b c hp hq =
      let s = bytes_of (Join p q) ++ rest in
      whole kind.Join s (Join p q) 7 (omega arith) (strange_not j.last 5 a b (omega arith) (omega arith)) refl
      (body kind.Join s (Join p q) 7 (le-ltb (length s) 7 (omega arith)) (same (two_back p hp) (two_back q hq)) refl (lt-leb limit.JOINS j.joins c) refl)
    where
      same : {a a' b b' : ℕ} → a ≡ a' → b ≡ b' → Join a b ≡ Join a' b'
      same p q = cc
