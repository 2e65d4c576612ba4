-- How far reading is, by what it has counted: exactly, so it is never past the longest job.
use mathlib.Core.Path.{◌≡◌, refl, ap}
use mathlib.Core.Logic.{◌≢◌}
use mathlib.Core.Bool.{Bool, true, false, cond, not, ◌&&◌, ◌||◌}
use mathlib.Core.List.{List}
use Prim.Native.Nat.{ℕ, zero, suc, ◌+◌, ◌*◌, ◌≤◌, ◌<◌}
use native.Mathlib.Omega.{arith}
use lib.Dec.{ltb, eqb}
use borrow.Author.Tests.{eqb-false, ltb-false}
use Rattle.std.proofs.Common.{Ok, Err}
use Rattle.job.specs.declared.Job.{Job}
use Rattle.job.specs.declared.refusal.Refusal.TheVariants.{Torn, Strange, Crowded}
use Rattle.job.specs.declared.field.Kind.{Kind}
use Rattle.job.specs.declared.field.Kind.TheVariants as kind
use Rattle.job.specs.declared.field.Field.{Field}
use Rattle.job.specs.declared.field.Field.TheVariants.{Settings}
use Rattle.job.specs.Field.{tag_of, value_of, kind_of, size_of, field_in, torn_header, strange_tag, torn_value, strange_bits, crowded, body_of, field_of}
use Rattle.job.specs.Job.{fresh, past, Within}
use Rattle.job.proofs.Fields.{or_right}
use Rattle.job.proofs.Accepted.{read_parts, passed}
use Rattle.prefix.specs.Decides.{whole_of, LONGEST}

-- the settings' bytes, once a tag was seen
abbrev first : ℕ → ℕ
first zero = 0
first (suc n) = whole_of kind.Settings

pub record Spent (j : Job) : Type 0 where
  pub at : j.at ≡ first j.last + j.points * whole_of kind.Point + j.records * whole_of kind.Record + j.segments * whole_of kind.Segment + j.joins * whole_of kind.Join
  -- before the first tag nothing is read
  pub none_yet : j.last ≡ 0 → j.at ≡ 0

pub spent_fresh : Spent fresh
spent_fresh = record { at = refl; none_yet = λ e. refl }

first_le : (n : ℕ) → first n ≤ 4
first_le zero = omega arith
first_le (suc n) = omega arith

pub first_some : (n : ℕ) → 0 < n → first n ≡ whole_of kind.Settings
first_some zero h = absurd (omega arith)
first_some (suc n) h = refl

-- never past the longest job
pub not_past : (j : Job) → Spent j → Within j → j.at ≤ LONGEST
not_past j s w = let a = first_le j.last in omega (arith, s.at, w.points, w.records, w.segments, w.joins)

-- only tag 1 is settings
tag_one : (q d e f : Bool) → cond q kind.Settings (cond d kind.Point (cond e kind.Record (cond f kind.Segment kind.Join))) ≡ kind.Settings → q ≡ true
tag_one true d e f h = refl
tag_one false true e f h = absurd (let z : ◌≡◌ {A = ℕ} 0 1 = cc in omega arith)
tag_one false false true f h = absurd (let z : ◌≡◌ {A = ℕ} 0 1 = cc in omega arith)
tag_one false false false true h = absurd (let z : ◌≡◌ {A = ℕ} 0 1 = cc in omega arith)
tag_one false false false false h = absurd (let z : ◌≡◌ {A = ℕ} 0 1 = cc in omega arith)

both : (p q : Bool) → (p && q) ≡ false → q ≡ true → p ≡ false
both true q h e = absurd (let z : ◌≡◌ {A = ℕ} 0 1 = cc in omega arith)
both false q h e = refl

-- settings are read before any other tag
settings_first : (last tag : ℕ) → strange_tag last tag ≡ false → kind_of tag ≡ kind.Settings → last ≡ 0
settings_first last tag h k =
    let c = or_right (eqb tag 0 || ltb 5 tag || ltb tag last || (eqb last 0 && not (eqb tag 1))) (ltb 0 last && eqb tag 1) h in
    let d = ltb-false 0 last (both (ltb 0 last) (eqb tag 1) c (tag_one (eqb tag 1) (eqb tag 2) (eqb tag 3) (eqb tag 4) k)) in
    omega arith

or_left : (a b : Bool) → (a || b) ≡ false → a ≡ false
or_left true b h = h
or_left false b h = refl

-- and every other tag after them
others_later : (last tag : ℕ) → strange_tag last tag ≡ false → kind_of tag ≢ kind.Settings → 0 < last
others_later last tag h d =
    let c = or_right ((eqb tag 0 || ltb 5 tag) || ltb tag last) (eqb last 0 && not (eqb tag 1)) (or_left ((eqb tag 0 || ltb 5 tag) || ltb tag last || (eqb last 0 && not (eqb tag 1))) (ltb 0 last && eqb tag 1) h) in
    go (eqb tag 1) refl c
  where
    go : (b : Bool) → eqb tag 1 ≡ b → (eqb last 0 && not b) ≡ false → 0 < last
    go true e c = absurd (d (ap (λ (x : Bool). cond x kind.Settings (cond (eqb tag 2) kind.Point (cond (eqb tag 3) kind.Record (cond (eqb tag 4) kind.Segment kind.Join)))) e))
    go false e c = let z = eqb-false last 0 (both (eqb last 0) true c refl) in omega arith

-- a field of its kind's size
body_read : (k : Kind) (j : Job) (s : List ℕ) (f : Field) (n : ℕ) → body_of k j s ≡ Ok (f, n) → (field_in k (value_of s) ≡ f) × (whole_of k ≡ n)
unfolding body_of
body_read k j s f n e =
    let g = field_in k (value_of s) in
    let full = cond (crowded k j) (Err Crowded) (Ok (g, 3 + size_of k)) in
    let a = passed (torn_value k s) Torn (cond (strange_bits g) (Err Strange) full) f n e in
    let b = passed (strange_bits g) Strange full f n a.1 in
    read_parts g f (3 + size_of k) n (passed (crowded k j) Crowded (Ok (g, 3 + size_of k)) f n b.1).1

module _ (j : Job) (v : List ℕ) (i : Spent j) where
  counted : (k : Kind) → (k ≡ kind.Settings → j.last ≡ 0) → (k ≢ kind.Settings → 0 < j.last) → Spent (past (field_in k v) (whole_of k) j)
  counted kind.Settings h l = record { at = (let a : first j.last ≡ 0 = ap first (h refl) in omega (arith, i.at)); none_yet = λ e. absurd (omega arith) }
  counted kind.Point h l = record { at = (let a = first_some j.last (l (λ e. let z : ◌≡◌ {A = ℕ} 0 1 = cc in omega arith)) in omega (arith, i.at)); none_yet = λ e. absurd (omega arith) }
  counted kind.Record h l = record { at = (let a = first_some j.last (l (λ e. let z : ◌≡◌ {A = ℕ} 0 1 = cc in omega arith)) in omega (arith, i.at)); none_yet = λ e. absurd (omega arith) }
  counted kind.Segment h l = record { at = (let a = first_some j.last (l (λ e. let z : ◌≡◌ {A = ℕ} 0 1 = cc in omega arith)) in omega (arith, i.at)); none_yet = λ e. absurd (omega arith) }
  counted kind.Join h l = record { at = (let a = first_some j.last (l (λ e. let z : ◌≡◌ {A = ℕ} 0 1 = cc in omega arith)) in omega (arith, i.at)); none_yet = λ e. absurd (omega arith) }

-- a field that is read is counted with its bytes
pub spent_past : (j : Job) (s : List ℕ) (f : Field) (n : ℕ) → Spent j → field_of j s ≡ Ok (f, n) → Spent (past f n j)
unfolding field_of
spent_past j s f n i e =
    let a = passed (torn_header s) Torn _ f n e in
    let b = passed (strange_tag j.last (tag_of s)) Strange _ f n a.1 in
    let k = kind_of (tag_of s) in
    let c = body_read k j s f n b.1 in
    let g = counted j (value_of s) i k (λ h. settings_first j.last (tag_of s) b.0 h) (λ h. others_later j.last (tag_of s) b.0 h) in
    rw (← c.0, ← c.1) g
