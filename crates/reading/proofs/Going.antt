-- How `run` goes on, one turn at a time, and that each turn goes forward, with counts within the limits: so the bound of `run` is never met.
use mathlib.Core.Path.{◌≡◌, refl, subst}
use mathlib.Core.List.{List}
use Prim.Native.Nat.{ℕ, zero, suc, ◌+◌, ◌-◌, ◌<◌, ◌≤◌}
use native.Mathlib.Omega.{arith}
use lib.ListN.{length, drop}
use borrow.Author.Tests.{lt-ltb, le-ltb, eq-eqb, ne_eqb}
use Rattle.std.proofs.Common.{Result, Ok, Err}
use Rattle.job.specs.Field.{field_of}
use Rattle.job.specs.Job.{fresh, past, Within}
use Rattle.job.proofs.Accepted.{accepted, within_past, within_fresh}
use Rattle.job.specs.declared.Job.{Job}
use Rattle.job.specs.declared.refusal.Refusal.{Refusal}
use Rattle.job.specs.declared.refusal.Refusal.TheVariants.{Strange}
use Rattle.job.specs.declared.field.Field.{Field}
use Rattle.job.specs.declared.field.Field.TheVariants.{Settings, Point, Record, Segment, Join}
use Rattle.reading.specs.Fill.{ReadEnd, end, placed, taken, turn_of, follow, run, fill_of}

-- what a turn leaves, if it is no refusal: it is further on, and the counts keep within the limits
pub record Forward (j n : Job) : Type 0 where
  pub at : j.at < n.at
  pub within : Within j → Within n

abbrev pub After : Job → ReadEnd → Type 0
After j (end (Ok n) w ss js) = Forward j n
After j (end (Err r) w ss js) = Unit {0}

module _ (bytes : List ℕ) (j : Job) (w ss js : List ℕ) where
  moved : (f : Field) (n : ℕ) → Forward j (past f n j) → After j (placed f n j w ss js)
  moved (Settings b) n h = h
  moved (Point x y nx pv r z) n h = h
  moved (Record f o p) n h = h
  moved (Segment p) n h = h
  moved (Join a b) n h = h

  further : (f : Field) (n : ℕ) → 3 < n → j.at < (past f n j).at
  further (Settings b) n h = omega arith
  further (Point x y nx pv r z) n h = omega arith
  further (Record f o p) n h = omega arith
  further (Segment p) n h = omega arith
  further (Join a b) n h = omega arith

  by : (part : List ℕ) (r : Result (Field × ℕ) Refusal) → field_of j part ≡ r → After j (taken r j w ss js)
  by part (Ok (f, n)) e =
      let a = accepted j part f n e in
      moved f n (record { at = further f n a.forward; within = λ i. within_past i a })
  by part (Err x) e = tt

  pub moves : After j (turn_of bytes j w ss js)
  unfolding turn_of
  moves = by (drop j.at bytes) (field_of j (drop j.at bytes)) refl

-- where a loop stands that will answer F: turns are left, and enough of them
pub record Going (bytes : List ℕ) (F : ReadEnd) (j : Job) (w ss js : List ℕ) : Type 0 where
  pub left : ℕ
  pub some : 0 < left
  pub far : length bytes < j.at + left
  pub within : Within j
  pub goes : run left bytes j w ss js ≡ F

module _ (bytes : List ℕ) (F : ReadEnd) (j : Job) (w ss js : List ℕ) where
  -- before the end of the job a turn's outcome is handed on, with one turn less to go
  on : (k : ℕ) → j.at < length bytes → length bytes < j.at + k → run k bytes j w ss js ≡ F → (i : ℕ) × (k ≡ suc i) × (follow (run i bytes) (turn_of bytes j w ss js) ≡ F)
  unfolding run
  on zero h l e = absurd (omega arith)
  on (suc i) h l e = (i, refl, rw (lt-ltb _ _ h) at e)

  pub over : (k : ℕ) → 0 < k → length bytes ≤ j.at → run k bytes j w ss js ≡ F → end (Ok j) w ss js ≡ F
  unfolding run
  over zero z h e = absurd (omega arith)
  over (suc i) z h e = rw (le-ltb _ _ h) at e

module _ {bytes : List ℕ} {F : ReadEnd} {j : Job} {w ss js : List ℕ} where
  module _ {n : Job} {v ts ks : List ℕ} {r : Result Job Refusal} (g : Going bytes F j w ss js) (h : j.at < length bytes) (e : r ≡ Ok n) (s : end r v ts ks ≡ turn_of bytes j w ss js) where
    told : turn_of bytes j w ss js ≡ end (Ok n) v ts ks
    told = cc

    ahead : Forward j n
    ahead = subst (After j) told (moves bytes j w ss js)

    pub falls : length bytes - n.at < length bytes - j.at
    falls = let a = ahead in omega arith

    pub next : Going bytes F n v ts ks
    next =
        let t = on bytes F j w ss js g.left h g.far g.goes in
        let a = ahead in
        record { left = t.0; some = omega (arith, t.1); far = omega (arith, t.1); within = a.within g.within; goes = rw told at t.2 }

  pub stop : {x : Refusal} {v ts ks : List ℕ} {r : Result Job Refusal} → Going bytes F j w ss js → j.at < length bytes → r ≡ Err x → end r v ts ks ≡ turn_of bytes j w ss js → end (Err x) v ts ks ≡ F
  stop {x} {v} {ts} {ks} {r} g h e s =
      let q : turn_of bytes j w ss js ≡ end (Err x) v ts ks = cc in
      let t = on bytes F j w ss js g.left h g.far g.goes in
      rw q at t.2

  pub done : Going bytes F j w ss js → length bytes ≤ j.at → end (Ok j) w ss js ≡ F
  done g h = over bytes F j w ss js g.left g.some h g.goes

pub begun : (bytes w ss js : List ℕ) → (length bytes ≡ 0 → ⊥) → Going bytes (fill_of bytes w ss js) fresh w ss js
unfolding fill_of
begun bytes w ss js h =
    record { left = suc (length bytes); some = omega arith; far = omega arith; within = within_fresh; goes = rw (ne_eqb _ _ h) }

pub empty : (bytes w ss js : List ℕ) → length bytes ≡ 0 → end (Err Strange) w ss js ≡ fill_of bytes w ss js
unfolding fill_of
empty bytes w ss js h = rw (eq-eqb _ _ h)
