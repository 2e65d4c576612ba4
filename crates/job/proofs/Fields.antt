-- How `field_of` goes, test by test: each law's premises are what the calls ensure and how the tests came out.
use mathlib.Core.Path.{◌≡◌, refl}
use mathlib.Core.Bool.{Bool, true, false, not, ◌||◌}
use mathlib.Core.List.{List}
use Prim.Native.Nat.{ℕ, ◌+◌, ◌<◌, ◌≤◌}
use native.Mathlib.Omega.{arith}
use lib.Dec.{ltb, eqb}
use lib.ListN.{length}
use borrow.Author.Tests.{lt-ltb, le-ltb, ltb-false}
use Rattle.std.proofs.Common.{Result, Ok, Err}
use Rattle.numbers.specs.Written.{Part}
use Rattle.job.specs.declared.Job.{Job}
use Rattle.job.specs.declared.refusal.Refusal.TheVariants.{Torn, Strange, Crowded}
use Rattle.job.specs.declared.field.Kind.{Kind}
use Rattle.job.specs.declared.field.Field.{Field}
use Rattle.job.specs.declared.refusal.Refusal.{Refusal}
use Rattle.job.specs.Field.{tag_of, length_of, kind_of, size_of, field_in, strange_tag, torn_value, strange_bits, crowded, body_of, field_of}

pub or_right : (a b : Bool) → (a || b) ≡ false → b ≡ false
or_right true b h = elim b as (λ k. k ≡ false) [ true ↦ h | false ↦ refl ]
or_right false b h = h

-- a value that is not torn is there
pub value_there : (k : Kind) (s v : List ℕ) (t : Bool) → t ≡ torn_value k s → t ≡ false → Part 3 s v → size_of k ≤ length v
value_there k s v t a b p =
    let e : torn_value k s ≡ false = cc in
    let h = ltb-false (length s) (3 + size_of k) (or_right (not (eqb (length_of s) (size_of k))) (ltb (length s) (3 + size_of k)) e) in
    omega (arith, p.long)

module _ (k : Kind) (j : Job) (s : List ℕ) (t : Bool) (a : t ≡ torn_value k s) where
  pub torn_value_lem : t ≡ true → Err Torn ≡ body_of k j s
  unfolding body_of
  torn_value_lem b = rw (← a, b)

  module _ (v : List ℕ) (f : Field) (u : Bool) (b : t ≡ false) (p : Part 3 s v) (e : f ≡ field_in k v) (c : u ≡ strange_bits f) where
    pub strange_bits_lem : u ≡ true → Err Strange ≡ body_of k j s
    unfolding body_of
    strange_bits_lem d = rw (← a, b, ← p.is, ← e, ← c, d)

    module _ (w : Bool) (d : u ≡ false) (g : w ≡ crowded k j) where
      pub crowds : w ≡ true → Err Crowded ≡ body_of k j s
      unfolding body_of
      crowds h = rw (← a, b, ← p.is, ← e, ← c, d, ← g, h)

      pub field_read : (n : ℕ) → n ≡ size_of k → w ≡ false → Ok (f, 3 + n) ≡ body_of k j s
      unfolding body_of
      field_read n l h = rw (l, ← a, b, ← p.is, ← e, ← c, d, ← g, h)

module _ (j : Job) (s : List ℕ) where
  pub torn_header : length s < 3 → Err Torn ≡ field_of j s
  unfolding field_of
  torn_header h = rw (lt-ltb (length s) 3 h)

  module _ (t : Bool) (h : 3 ≤ length s) (a : t ≡ strange_tag j.last (tag_of s)) where
    pub strange_tag_lem : t ≡ true → Err Strange ≡ field_of j s
    unfolding field_of
    strange_tag_lem b = rw (le-ltb (length s) 3 h, ← a, b)

    pub body_read : (k : Kind) (r : Result (Field × ℕ) Refusal) → t ≡ false → k ≡ kind_of (tag_of s) → r ≡ body_of k j s → r ≡ field_of j s
    unfolding field_of
    body_read k r b d e = rw (le-ltb (length s) 3 h, ← a, b, ← d) e
