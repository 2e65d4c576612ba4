-- What holds of a field that is read: it lies in the part and goes forward, and the counts stay within the limits.
use mathlib.Core.Path.{◌≡◌, refl, ap, sym}
use mathlib.Core.Bool.{Bool, true, false, cond, not}
use mathlib.Core.List.{List}
use Prim.Native.Nat.{ℕ, ◌+◌, ◌<◌, ◌≤◌}
use native.Mathlib.Omega.{arith}
use lib.Dec.{ltb, eqb}
use lib.ListN.{length}
use borrow.Author.Tests.{ltb-false, leb-false}
use Rattle.std.proofs.Common.{Result, Ok, Err}
use Rattle.job.specs.declared.Job.{Job}
use Rattle.job.specs.declared.refusal.Refusal.{Refusal}
use Rattle.job.specs.declared.refusal.Refusal.TheVariants.{Torn, Strange, Crowded}
use Rattle.job.specs.declared.field.Kind.{Kind}
use Rattle.job.specs.declared.field.Kind.TheVariants as kind
use Rattle.job.specs.declared.field.Field.{Field}
use Rattle.job.specs.Limits.{POINTS, RECORDS, SEGMENTS, JOINS}
use Rattle.job.specs.Field.{tag_of, length_of, value_of, kind_of, size_of, field_in, torn_header, strange_tag, torn_value, strange_bits, crowded, body_of, field_of}
use Rattle.job.specs.Job.{fresh, past, Within}
use Rattle.job.proofs.Fields.{or_right}

pub within_fresh : Within fresh
within_fresh = record { points = omega arith; records = omega arith; segments = omega arith; joins = omega arith }

-- a field that is read in a part with the state j
pub record Accepted (j : Job) (s : List ℕ) (f : Field) (n : ℕ) : Type 0 where
  pub kind : Kind
  pub is : f ≡ field_in kind (value_of s)
  pub size : n ≡ 3 + size_of kind
  pub here : n ≤ length s
  pub forward : 3 < n
  pub room : crowded kind j ≡ false

sized : (k : Kind) → 0 < size_of k
sized kind.Settings = omega arith
sized kind.Point = omega arith
sized kind.Record = omega arith
sized kind.Segment = omega arith
sized kind.Join = omega arith

-- a test that refuses was passed by whatever is read
pub passed : (b : Bool) (x : Refusal) (r : Result (Field × ℕ) Refusal) (f : Field) (n : ℕ) → cond b (Err x) r ≡ Ok (f, n) → (b ≡ false) × (r ≡ Ok (f, n))
passed true x r f n e = absurd (let z : ◌≡◌ {A = ℕ} 0 1 = cc in omega arith)
passed false x r f n e = (refl, e)

-- the field and the length that are read, each by itself
pub read_parts : (f g : Field) (n m : ℕ) → ◌≡◌ {A = Result (Field × ℕ) Refusal} (Ok (f, n)) (Ok (g, m)) → (f ≡ g) × (n ≡ m)
read_parts f g n m e =
    let p : ◌≡◌ {A = Field × ℕ} (f, n) (g, m) = cc in
    (ap (λ (x : Field × ℕ). x.0) p, ap (λ (x : Field × ℕ). x.1) p)

in_body : (k : Kind) (j : Job) (s : List ℕ) (f : Field) (n : ℕ) → body_of k j s ≡ Ok (f, n) → Accepted j s f n
unfolding body_of
in_body k j s f n e =
    let g = field_in k (value_of s) in
    let full = cond (crowded k j) (Err Crowded) (Ok (g, 3 + size_of k)) in
    let a = passed (torn_value k s) Torn (cond (strange_bits g) (Err Strange) full) f n e in
    let b = passed (strange_bits g) Strange full f n a.1 in
    let d = passed (crowded k j) Crowded (Ok (g, 3 + size_of k)) f n b.1 in
    let p = read_parts g f (3 + size_of k) n d.1 in
    let h = ltb-false (length s) (3 + size_of k) (or_right (not (eqb (length_of s) (size_of k))) (ltb (length s) (3 + size_of k)) a.0) in
    record { kind = k; is = sym p.0; size = sym p.1; here = omega (arith, p.1, h); forward = omega (arith, sized k, p.1); room = d.0 }

pub accepted : (j : Job) (s : List ℕ) (f : Field) (n : ℕ) → field_of j s ≡ Ok (f, n) → Accepted j s f n
unfolding field_of
accepted j s f n e =
    let a = passed (torn_header s) _ _ f n e in
    let b = passed (strange_tag j.last (tag_of s)) _ _ f n a.1 in
    in_body (kind_of (tag_of s)) j s f n b.1

counted : (k : Kind) (j : Job) (v : List ℕ) (n : ℕ) → Within j → crowded k j ≡ false → Within (past (field_in k v) n j)
counted kind.Settings j v n w c = record { points = w.points; records = w.records; segments = w.segments; joins = w.joins }
counted kind.Point j v n w c =
    record { points = omega (arith, leb-false POINTS j.points c); records = w.records; segments = w.segments; joins = w.joins }
counted kind.Record j v n w c =
    record { points = w.points; records = omega (arith, leb-false RECORDS j.records c); segments = w.segments; joins = w.joins }
counted kind.Segment j v n w c =
    record { points = w.points; records = w.records; segments = omega (arith, leb-false SEGMENTS j.segments c); joins = w.joins }
counted kind.Join j v n w c =
    record { points = w.points; records = w.records; segments = w.segments; joins = omega (arith, leb-false JOINS j.joins c) }

-- the counts stay within the limits
pub within_past : {j : Job} {s : List ℕ} {f : Field} {n : ℕ} → Within j → Accepted j s f n → Within (past f n j)
within_past {j} {s} {f} {n} w a = rw a.is (counted a.kind j _ n w a.room)
