-- A field is read from its first 21 bytes: parts that begin alike so far give the same field, or the same refusal.
use mathlib.Core.Path.{◌≡◌, refl}
use mathlib.Core.List.{List}
use Prim.Native.Nat.{ℕ, ◌+◌, ◌≤◌}
use native.Mathlib.Omega.{arith}
use lib.ListN.{take, drop}
use Rattle.numbers.specs.Bytes.{le}
use Rattle.job.specs.declared.Job.{Job}
use Rattle.job.specs.declared.field.Kind.{Kind}
use Rattle.job.specs.declared.field.Kind.TheVariants as kind
use Rattle.job.specs.Field.{tag_of, value_of, kind_of, size_of, field_in, body_of, field_of}
use Rattle.prefix.specs.Decides.{whole_of}
use Rattle.prefix.proofs.Beginnings.{short_same, byte_same, number_same, rest_same}

-- no field is longer than a point
pub at_most : (k : Kind) → whole_of k ≤ whole_of kind.Point
at_most kind.Settings = omega arith
at_most kind.Point = omega arith
at_most kind.Record = omega arith
at_most kind.Segment = omega arith
at_most kind.Join = omega arith

module _ (s t : List ℕ) (e : take 21 s ≡ take 21 t) where
  number : (w at : ℕ) → at + w ≤ 18 → le w at (drop 3 s) ≡ le w at (drop 3 t)
  number w at l = number_same 18 (drop 3 s) (drop 3 t) (rest_same 21 s t e 3 18 refl) w at l

  value_same : (k : Kind) → field_in k (value_of s) ≡ field_in k (value_of t)
  value_same kind.Settings = rw (number 1 0 (omega arith))
  value_same kind.Point = rw (number 4 0 (omega arith), number 4 4 (omega arith), number 2 8 (omega arith), number 2 10 (omega arith), number 2 12 (omega arith), number 4 14 (omega arith))
  value_same kind.Record = rw (number 1 0 (omega arith), number 2 1 (omega arith), number 2 3 (omega arith))
  value_same kind.Segment = rw (number 2 0 (omega arith))
  value_same kind.Join = rw (number 2 0 (omega arith), number 2 2 (omega arith))

  body_same : (k : Kind) (j : Job) → body_of k j s ≡ body_of k j t
  unfolding body_of
  body_same k j = rw (number_same 21 s t e 2 1 (omega arith), short_same 21 s t e (3 + size_of k) (at_most k), value_same k)

  pub field_same : (j : Job) → field_of j s ≡ field_of j t
  unfolding field_of
  field_same j = rw (short_same 21 s t e 3 (omega arith), byte_same 21 s t e 0 (omega arith), body_same (kind_of (tag_of t)) j)
