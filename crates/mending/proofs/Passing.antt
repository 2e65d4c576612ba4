-- A job that passes rows 1 to 5: what was read, and that it may be mended.
use mathlib.Core.Path.{◌≡◌, refl, sym, ap, ◌∙◌, subst}
use mathlib.Core.Bool.{Bool, true, false, cond}
use mathlib.Core.List.{List}
use Prim.Native.Nat.{ℕ, ◌+◌, ◌*◌, ◌<◌, ◌≤◌}
use native.Mathlib.Omega.{arith}
use lib.ListN.{length, replicate, length-replicate}
use Rattle.std.specs.Prelude.{Result}
use Rattle.std.proofs.Common.{Ok, Err}
use Rattle.job.specs.Limits as limit
use Rattle.job.specs.declared.Job.{Job}
use Rattle.job.specs.declared.refusal.Refusal.{Refusal}
use Rattle.job.specs.declared.refusal.Refusal.TheVariants.{OffTheTable, NoSuch}
use Rattle.store.specs.Field.{BLOCK}
use Rattle.store.specs.Named.{points_of, next_of}
use Rattle.reading.specs.Fill.{ReadEnd, end, fill_of}
use Rattle.reading.specs.Read.{counted, with_counts, read_of}
use Rattle.audit.specs.Tests.{any_below, no_such}
use Rattle.audit.proofs.Saying.{none_of, such}
use Rattle.rows.specs.Rows.{off_the_table, no_such_number}
use Rattle.audit.proofs.Testing.{or_left}
use Rattle.accepting.proofs.Accepting.{Whole, read_whole}
use Rattle.mending.specs.Mend.{mended, checked, checked_in, checked_of, after_rows, fix_of, mend_of, prev_at}
use Rattle.mending.specs.Needs.{Fixable}
use Rattle.reading.specs.Standing.{Standing}
use Rattle.reading.proofs.Standing.{standing}
use Rattle.mending.proofs.Checking.{space}

-- the words before the counts were put
pub record Fills (bytes w ss js : List ℕ) (j : Job) (v ts ks : List ℕ) : Type 0 where
  pub words : List ℕ
  pub fills : fill_of bytes w ss js ≡ end (Ok j) words ts ks
  pub is : v ≡ counted j words

pub read_fills : (bytes w ss js : List ℕ) (j : Job) (v ts ks : List ℕ) → read_of bytes w ss js ≡ end (Ok j) v ts ks → Fills bytes w ss js j v ts ks
unfolding read_of
read_fills bytes w ss js j v ts ks e = by (fill_of bytes w ss js) refl e
  where
    by : (T : ReadEnd) → fill_of bytes w ss js ≡ T → with_counts T ≡ end (Ok j) v ts ks → Fills bytes w ss js j v ts ks
    by (end (Ok i) u us ls) f d =
        let a : i ≡ j = cc (d) in
        let b : counted i u ≡ v = cc (d) in
        let c : us ≡ ts = cc (d) in
        let k : ls ≡ ks = cc (d) in
        record { words = u; fills = f ∙ cc (a, c, k); is = sym b ∙ ap (λ (x : Job). counted x u) a }
    by (end (Err x) u us ls) f d = absurd (let z : ◌≡◌ {A = ℕ} 0 1 = cc in omega arith)

-- a point's prev is in the job
pub prev_inside : (bytes : List ℕ) (j : Job) (v : List ℕ) → Standing bytes j v → (k : ℕ) → k < j.points → prev_at k + 2 ≤ length bytes
prev_inside bytes j v t k h = omega (arith, t.inside k h)

-- rows 1 to 5 have passed
pub record Passes (bytes w v : List ℕ) : Type 0 where
  pub job : Job
  pub segments : List ℕ
  pub joins : List ℕ
  pub reads : read_of bytes w (replicate limit.SEGMENTS 0) (replicate (2 * limit.JOINS) 0) ≡ end (Ok job) v segments joins
  pub four : off_the_table v ≡ false
  pub five : no_such_number v segments job.segments joins job.joins ≡ false

module _ (bytes w v : List ℕ) where
  rows_passed : (j : Job) (ts ks : List ℕ) → (a b : Bool) → cond a (Err OffTheTable) (cond b (Err NoSuch) (Ok tt)) ≡ Ok (tt {0}) → (a ≡ false) × (b ≡ false)
  rows_passed j ts ks true b e = absurd (let z : ◌≡◌ {A = ℕ} 0 1 = cc in omega arith)
  rows_passed j ts ks false true e = absurd (let z : ◌≡◌ {A = ℕ} 0 1 = cc in omega arith)
  rows_passed j ts ks false false e = (refl, refl)

  pub passes : checked_of bytes w ≡ checked (Ok tt) v → Passes bytes w v
  unfolding checked_of
  passes e = by (read_of bytes w (replicate limit.SEGMENTS 0) (replicate (2 * limit.JOINS) 0)) refl e
    where
      by : (T : ReadEnd) → read_of bytes w (replicate limit.SEGMENTS 0) (replicate (2 * limit.JOINS) 0) ≡ T → checked_in T ≡ checked (Ok tt) v → Passes bytes w v
      by (end (Ok j) u us ls) f d =
          let a : u ≡ v = cc (d) in
          let b : cond (off_the_table u) (Err OffTheTable) (cond (no_such_number u us j.segments ls j.joins) (Err NoSuch) (Ok tt)) ≡ Ok (tt {0}) = cc (d) in
          let c = rows_passed j us ls (off_the_table u) (no_such_number u us j.segments ls j.joins) b in
          subst (λ (x : List ℕ). Passes bytes w x) a (record { job = j; segments = us; joins = ls; reads = f; four = c.0; five = c.1 })
      by (end (Err x) u us ls) f d = absurd (let z : ◌≡◌ {A = ℕ} 0 1 = cc in omega arith)

  -- and back
  pub passed_checked : Passes bytes w v → checked_of bytes w ≡ checked (Ok tt) v
  unfolding checked_of
  passed_checked p = rw (p.reads, p.four, p.five)

  module _ (long : BLOCK ≤ length w) (p : Passes bytes w v) where
    pub whole : Whole p.job v p.segments p.joins
    whole = read_whole bytes w (replicate limit.SEGMENTS 0) (replicate (2 * limit.JOINS) 0) (space w long) p.job v p.segments p.joins p.reads

    pub points_are : points_of v ≡ p.job.points
    points_are = whole.counts.points

    pub numbers : (k : ℕ) → k < points_of v → no_such v k ≡ false
    numbers k h = none_of (points_of v) (no_such v) (or_left (any_below (points_of v) (no_such v)) _ p.five) k h

    pub next_in : (k : ℕ) → k < points_of v → next_of v k < points_of v
    next_in k h = (such v k (numbers k h)).next

    pub fixable : Fixable bytes v
    fixable =
        record {
          long = whole.space.words;
          named = next_in;
          roomy = record { few = omega (arith, points_are, whole.counts.within.points); room = λ k h. prev_inside bytes p.job v (standing bytes w (replicate limit.SEGMENTS 0) (replicate (2 * limit.JOINS) 0) long p.job v p.segments p.joins p.reads) k (omega (arith, h, points_are)) };
        }

-- ---- for the code of `mend`
pub zeros_long : BLOCK ≤ length (replicate {A = ℕ} BLOCK 0)
zeros_long = omega (arith, length-replicate {A = ℕ} BLOCK 0)

module _ (bytes v : List ℕ) (x : Result (Unit {0}) Refusal) (e : checked x v ≡ checked_of bytes (replicate BLOCK 0)) where
  pub may_fix : x ≡ Ok tt → Fixable bytes v
  may_fix h = fixable bytes (replicate BLOCK 0) v zeros_long (passes bytes (replicate BLOCK 0) v (sym e ∙ ap (λ (y : Result (Unit {0}) Refusal). checked y v) h))

  pub mend_fixed : (r : Result (Unit {0}) Refusal) (s : List ℕ) → x ≡ Ok tt → mended r s ≡ fix_of bytes v → mended r s ≡ mend_of bytes
  unfolding mend_of
  mend_fixed r s h a = a ∙ ap (after_rows bytes) (sym (ap (λ (y : Result (Unit {0}) Refusal). checked y v) h) ∙ e)

  pub mend_refused : (r : Refusal) → x ≡ Err r → mended (Err r) bytes ≡ mend_of bytes
  unfolding mend_of
  mend_refused r h = ap (after_rows bytes) (sym (ap (λ (y : Result (Unit {0}) Refusal). checked y v) h) ∙ e)
