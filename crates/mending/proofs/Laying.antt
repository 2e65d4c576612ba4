-- One turn of reading taken apart, and how far a run goes on; where the fields stand is reading's Standing.
use mathlib.Core.Path.{◌≡◌, refl, sym, ap, ◌∙◌, subst}
use mathlib.Core.Bool.{Bool, true, false, cond, not}
use mathlib.Core.List.{List}
use Prim.Native.Nat.{ℕ, zero, suc, ◌+◌, ◌-◌, ◌<◌, ◌≤◌}
use native.Mathlib.Omega.{arith}
use lib.Dec.{eqb, ltb}
use lib.ListN.{length, drop, length-drop}
use borrow.Author.Tests.{ltb-false}
use Rattle.std.proofs.Common.{Result, Ok, Err}
use Rattle.job.specs.Field.{HEADER, tag_of, length_of, value_of, kind_of, size_of, field_in, body_of, field_of}
use Rattle.job.specs.Job.{fresh, past}
use Rattle.job.specs.declared.Job.{Job}
use Rattle.job.specs.declared.field.Kind.{Kind}
use Rattle.job.specs.declared.field.Kind.TheVariants as kind
use Rattle.job.specs.declared.field.Field.{Field}
use Rattle.job.specs.declared.field.Field.TheVariants.{Settings, Point, Record, Segment, Join}
use Rattle.job.specs.declared.refusal.Refusal.{Refusal}
use Rattle.job.specs.declared.refusal.Refusal.TheVariants.{Strange}
use Rattle.reading.specs.Fill.{ReadEnd, end, placed, taken, turn_of, follow, run, fill_of}
use Rattle.mending.proofs.Once.{neither}
use Rattle.reading.proofs.Standing.{tag_is, Tagged, ReadAs, read_as, Lay, lay_fresh, tag_of_lem, lay_past}

-- a field that passes its tests is read
pub as_read : (j : Job) (s : List ℕ) (f : Field) (n : ℕ) (k : Kind) → ReadAs j s f n k → field_of j s ≡ Ok (f, n)
unfolding field_of body_of
as_read j s f n k r = rw (r.header, r.tag, r.kind_is, r.whole, r.bits, r.room) (ap (λ (g : Field). Ok (g, HEADER + size_of k)) (sym r.is) ∙ ap (λ (m : ℕ). Ok (f, m)) (sym r.size))

-- further by the field's length, no point lost; after a record's field no point comes
pub record Past (j m : Job) (n : ℕ) : Type 0 where
  pub at : m.at ≡ j.at + n
  pub more : j.points ≤ m.points
  pub over : 2 < j.last → (m.points ≡ j.points) × (2 < m.last)

module _ (j : Job) (s : List ℕ) (l : Lay j) where
  pub past_is : (f : Field) (n : ℕ) (k : Kind) → ReadAs j s f n k → Past j (past f n j) n
  past_is f n k r = subst (λ (g : Field). Past j (past g n j) n) (sym r.is) (go k (tag_of_lem j s f n k r))
    where
      go : (k : Kind) → (tag_of s ≡ tag_is k) × Tagged j.last (tag_of s) → Past j (past (field_in k (value_of s)) n j) n
      go kind.Settings t = record { at = refl; more = omega arith; over = λ h. absurd (omega (arith, t.0, t.1.rises, h)) }
      go kind.Point t = record { at = refl; more = omega arith; over = λ h. absurd (omega (arith, t.0, t.1.rises, h)) }
      go kind.Record t = record { at = refl; more = omega arith; over = λ h. (refl, omega arith) }
      go kind.Segment t = record { at = refl; more = omega arith; over = λ h. (refl, omega arith) }
      go kind.Join t = record { at = refl; more = omega arith; over = λ h. (refl, omega arith) }

-- ---- a whole run
-- from j on, ended at n
pub record Laid (bytes : List ℕ) (j n : Job) : Type 0 where
  pub lay : Lay n
  pub inside : n.at ≤ length bytes
  pub more : j.points ≤ n.points
  pub over : 2 < j.last → n.points ≡ j.points

placed_state : (f : Field) (n : ℕ) (j : Job) (w ss js : List ℕ) (m : Job) (u us ls : List ℕ) → placed f n j w ss js ≡ end (Ok m) u us ls → past f n j ≡ m
placed_state (Settings b) n j w ss js m u us ls e = cc
placed_state (Point x y nx pv r z) n j w ss js m u us ls e = cc
placed_state (Record f o p) n j w ss js m u us ls e = cc
placed_state (Segment p) n j w ss js m u us ls e = cc
placed_state (Join a b) n j w ss js m u us ls e = cc

-- the field of a turn that is no refusal
pub record Turned (bytes : List ℕ) (j : Job) (w ss js : List ℕ) (m : Job) (u us ls : List ℕ) : Type 0 where
  pub field : Field
  pub long : ℕ
  pub reads : field_of j (drop j.at bytes) ≡ Ok (field, long)
  pub puts : placed field long j w ss js ≡ end (Ok m) u us ls
  pub state : past field long j ≡ m

pub turned : (bytes : List ℕ) (j : Job) (w ss js : List ℕ) (m : Job) (u us ls : List ℕ) → turn_of bytes j w ss js ≡ end (Ok m) u us ls → Turned bytes j w ss js m u us ls
unfolding turn_of
turned bytes j w ss js m u us ls e = go (field_of j (drop j.at bytes)) refl e
  where
    go : (r : Result (Field × ℕ) Refusal) → field_of j (drop j.at bytes) ≡ r → taken r j w ss js ≡ end (Ok m) u us ls → Turned bytes j w ss js m u us ls
    go (Ok (f, n)) h g = record { field = f; long = n; reads = h; puts = g; state = placed_state f n j w ss js m u us ls g }
    go (Err x) h g = absurd (let z : ◌≡◌ {A = ℕ} 0 1 = cc in omega arith)

pub in_part : (j : Job) (bytes : List ℕ) (f : Field) (n : ℕ) (k : Kind) → j.at ≤ length bytes → ReadAs j (drop j.at bytes) f n k → j.at + n ≤ length bytes
in_part j bytes f n k h r =
    let a = neither (not (eqb (length_of (drop j.at bytes)) (size_of k))) (ltb (length (drop j.at bytes)) (HEADER + size_of k)) r.whole in
    let b = ltb-false (length (drop j.at bytes)) (HEADER + size_of k) a.1 in
    omega (arith, b, r.size, length-drop j.at bytes, h)

module _ (bytes : List ℕ) (n : Job) (v ts ks : List ℕ) where
  step_laid : (j : Job) (w ss js : List ℕ) (m : Job) (u us ls : List ℕ) → Lay j → j.at ≤ length bytes → turn_of bytes j w ss js ≡ end (Ok m) u us ls → (Lay m → m.at ≤ length bytes → Laid bytes m n) → Laid bytes j n
  step_laid j w ss js m u us ls l h e go =
      let t = turned bytes j w ss js m u us ls e in
      let r = read_as j (drop j.at bytes) t.field t.long t.reads in
      let p : Past j m t.long = subst (λ (x : Job). Past j x t.long) t.state (past_is j (drop j.at bytes) l t.field t.long (kind_of (tag_of (drop j.at bytes))) r) in
      let q = go (subst Lay t.state (lay_past j (drop j.at bytes) l t.field t.long (kind_of (tag_of (drop j.at bytes))) r)) (omega (arith, p.at, in_part j bytes t.field t.long (kind_of (tag_of (drop j.at bytes))) h r)) in
      record { lay = q.lay; inside = q.inside; more = omega (arith, p.more, q.more); over = λ g. q.over (p.over g).1 ∙ (p.over g).0 }

  pub run_laid : (k : ℕ) (j : Job) (w ss js : List ℕ) → Lay j → j.at ≤ length bytes → run k bytes j w ss js ≡ end (Ok n) v ts ks → Laid bytes j n
  unfolding run
  run_laid zero j w ss js l h e = absurd (let z : ◌≡◌ {A = ℕ} 0 1 = cc in omega arith)
  run_laid (suc k) j w ss js l h e = by (ltb j.at (length bytes)) (turn_of bytes j w ss js) refl e (λ m u us ls. run_laid k m u us ls)
    where
      on : (T : ReadEnd) → turn_of bytes j w ss js ≡ T → follow (run k bytes) T ≡ end (Ok n) v ts ks
          → ((m : Job) (u us ls : List ℕ) → Lay m → m.at ≤ length bytes → run k bytes m u us ls ≡ end (Ok n) v ts ks → Laid bytes m n) → Laid bytes j n
      on (end (Ok m) u us ls) a d f = step_laid j w ss js m u us ls l h a (λ y i. f m u us ls y i d)
      on (end (Err x) u us ls) a d f = absurd (let z : ◌≡◌ {A = ℕ} 0 1 = cc in omega arith)

      stay : j ≡ n → Laid bytes j n
      stay a = subst (Laid bytes j) a (record { lay = l; inside = h; more = omega arith; over = λ g. refl })

      by : (t : Bool) (T : ReadEnd) → turn_of bytes j w ss js ≡ T → cond t (follow (run k bytes) T) (end (Ok j) w ss js) ≡ end (Ok n) v ts ks
          → ((m : Job) (u us ls : List ℕ) → Lay m → m.at ≤ length bytes → run k bytes m u us ls ≡ end (Ok n) v ts ks → Laid bytes m n) → Laid bytes j n
      by true T a d f = on T a d f
      by false T a d f = stay cc

  pub fill_laid : (w ss js : List ℕ) → fill_of bytes w ss js ≡ end (Ok n) v ts ks → Laid bytes fresh n
  unfolding fill_of
  fill_laid w ss js e = by (eqb (length bytes) 0) e
    where
      by : (t : Bool) → cond t (end (Err Strange) w ss js) (run (suc (length bytes)) bytes fresh w ss js) ≡ end (Ok n) v ts ks → Laid bytes fresh n
      by true d = absurd (let z : ◌≡◌ {A = ℕ} 0 1 = cc in omega arith)
      by false d = run_laid (suc (length bytes)) fresh w ss js lay_fresh (omega arith) d
