-- How rows 4 to 8 go, test by test: each law's premises are what the calls ensure and how the tests came out.
use mathlib.Core.Path.{◌≡◌, refl, sym, ◌∙◌}
use mathlib.Core.Bool.{Bool, true, false, cond, ◌||◌}
use mathlib.Core.List.{List}
use Prim.Native.Nat.{ℕ, ◌*◌, ◌<◌, ◌≤◌}
use native.Mathlib.Omega.{arith}
use Rattle.std.specs.Prelude.{Result, Ok, Err}
use Rattle.job.specs.declared.refusal.Refusal.{Refusal}
use Rattle.job.specs.declared.refusal.Refusal.TheVariants.{OffTheTable, NoSuch, Loose, Muddled, OpenEdge}
use Rattle.job.specs.Limits.{RECORDS}
use Rattle.store.specs.Named.{points_of, records_of}
use Rattle.audit.specs.Tests.{any_below, off_table, no_such, no_such_of, loose}
use Rattle.audit.proofs.Saying.{none_of, all_none}
use Rattle.owners.specs.Owners.{chained, circles}
use Rattle.visits.specs.Rings.{alone, estranged}
use Rattle.rows.specs.Rows.{off_the_table, unnamed, no_such_number, loose_link, muddled, open_edge, rows_of}
use Rattle.rows.specs.Found.{first_rows, last_rows, faulty_point, no_such_beside, Filled, Named}
use Rattle.visits.proofs.Chains.{none_chained}
use Rattle.audit.proofs.Testing.{or_left, or_right}

-- a loop that finds none
pub none_found : (n : ℕ) (q : ℕ → Bool) (r : Bool) → r ≡ any_below n q → r ≡ false → any_below n q ≡ false
none_found n q r a h = sym a ∙ h

-- row 7
module _ (w : List ℕ) (r : Bool) (a : r ≡ any_below (records_of w) (circles w)) where
  pub circle_found : r ≡ true → true ≡ muddled w
  circle_found h = rw (← a, h)

  pub stray_found : (b : Bool) → r ≡ false → b ≡ (any_below (records_of w) (estranged w) || any_below (points_of w) (alone w)) → b ≡ muddled w
  stray_found b h d = rw (← a, h) d

pub plain_found : (w : List ℕ) (b : Bool) → records_of w ≤ RECORDS → any_below (records_of w) (chained w) ≡ false → b ≡ (any_below (records_of w) (estranged w) || any_below (points_of w) (alone w)) → b ≡ muddled w
plain_found w b l h d = rw (none_chained w l h) d

-- rows 4 and 5
module _ (w ss : List ℕ) (m : ℕ) (js : List ℕ) (n : ℕ) (a : Bool) (p : a ≡ off_the_table w) where
  pub row_4 : a ≡ true → Err OffTheTable ≡ first_rows w ss m js n
  row_4 h = rw (← p, h)

  module _ (h : a ≡ false) (b : Bool) (q : b ≡ no_such_number w ss m js n) where
    pub row_5 : b ≡ true → Err NoSuch ≡ first_rows w ss m js n
    row_5 i = rw (← p, h, ← q, i)

    pub first_passed : b ≡ false → Ok tt ≡ first_rows w ss m js n
    first_passed i = rw (← p, h, ← q, i)

-- row 6, once these have passed, and what is left
module _ (w ss : List ℕ) (m : ℕ) (js : List ℕ) (n : ℕ) (f : first_rows w ss m js n ≡ Ok tt) where
  both : (a b : Bool) → cond a (Err OffTheTable) (cond b (Err NoSuch) (Ok tt)) ≡ Ok (tt {0}) → (a ≡ false) × (b ≡ false)
  both true b e = absurd (let z : ◌≡◌ {A = ℕ} 0 1 = cc in omega arith)
  both false true e = absurd (let z : ◌≡◌ {A = ℕ} 0 1 = cc in omega arith)
  both false false e = (refl, refl)

  on_table : off_the_table w ≡ false
  on_table = (both (off_the_table w) (no_such_number w ss m js n) f).0

  numbered : no_such_number w ss m js n ≡ false
  numbered = (both (off_the_table w) (no_such_number w ss m js n) f).1

  module _ (c : Bool) (r : c ≡ loose_link w) where
    pub row_6 : c ≡ true → Err Loose ≡ rows_of w ss m js n
    unfolding rows_of
    row_6 j = rw (on_table, numbered, ← r, j)

    pub last_is : (v : Result (Unit {0}) Refusal) → c ≡ false → v ≡ last_rows w ss m js n → v ≡ rows_of w ss m js n
    unfolding rows_of
    last_is v j e = rw (on_table, numbered, ← r, j) e

-- rows 7 and 8
module _ (w ss : List ℕ) (m : ℕ) (js : List ℕ) (n : ℕ) (d : Bool) (s : d ≡ muddled w) where
  pub row_7 : d ≡ true → Err Muddled ≡ last_rows w ss m js n
  row_7 k = rw (← s, k)

  module _ (k : d ≡ false) (e : Bool) (t : e ≡ open_edge w ss m js n) where
    pub row_8 : e ≡ true → Err OpenEdge ≡ last_rows w ss m js n
    row_8 l = rw (← s, k, ← t, l)

    pub passed : e ≡ false → Ok tt ≡ last_rows w ss m js n
    passed l = rw (← s, k, ← t, l)

-- what refuses a job by row 4 or 5 refuses it by rows 4 to 8
pub first_refused : (w ss : List ℕ) (m : ℕ) (js : List ℕ) (n : ℕ) (x : Refusal) → first_rows w ss m js n ≡ Err x → Err x ≡ rows_of w ss m js n
unfolding rows_of
first_refused w ss m js n x e =
    by (off_the_table w) (no_such_number w ss m js n) (cond (loose_link w) (Err Loose) (cond (muddled w) (Err Muddled) (cond (open_edge w ss m js n) (Err OpenEdge) (Ok tt)))) e
  where
    by : (a b : Bool) (v : Result (Unit {0}) Refusal) → cond a (Err OffTheTable) (cond b (Err NoSuch) (Ok (tt {0}))) ≡ Err x → Err x ≡ cond a (Err OffTheTable) (cond b (Err NoSuch) v)
    by true b v e = sym e
    by false true v e = sym e
    by false false v e = absurd (let z : ◌≡◌ {A = ℕ} 0 1 = cc in omega arith)

-- rows 4 to 6, of a job with no point that fails what they ask of it
module _ (w ss : List ℕ) (m : ℕ) (js : List ℕ) (n : ℕ) (h : any_below (points_of w) (faulty_point w) ≡ false) where
  fine : (k : ℕ) → k < points_of w → (off_table w k ≡ false) × (no_such w k ≡ false) × (loose w k ≡ false)
  fine k l =
      let f = none_of (points_of w) (faulty_point w) h k l in
      let g = or_right (off_table w k) (no_such w k || loose w k) f in
      (or_left (off_table w k) (no_such w k || loose w k) f, or_left (no_such w k) (loose w k) g, or_right (no_such w k) (loose w k) g)

  no_4 : off_the_table w ≡ false
  no_4 = all_none (points_of w) (off_table w) (λ k l. (fine k l).0)

  module _ (b : Bool) (q : b ≡ no_such_beside w ss m js n) where
    is_5 : b ≡ no_such_number w ss m js n
    is_5 = rw (all_none (points_of w) (no_such w) (λ k l. (fine k l).1)) q

    pub beside_refused : b ≡ true → Err NoSuch ≡ rows_of w ss m js n
    beside_refused i = first_refused w ss m js n NoSuch (sym (row_5 w ss m js n false (sym no_4) refl b is_5 i))

    pub beside_passed : b ≡ false → first_rows w ss m js n ≡ Ok tt
    beside_passed i = sym (first_passed w ss m js n false (sym no_4) refl b is_5 i)

    pub no_6 : (v : Result (Unit {0}) Refusal) → b ≡ false → v ≡ last_rows w ss m js n → v ≡ rows_of w ss m js n
    no_6 v i e = last_is w ss m js n (beside_passed i) false (sym (all_none (points_of w) (loose w) (λ k l. (fine k l).2))) v refl e

-- after rows 4, 5 and 7 the lists name points, each on one ring
pub both_named : {w ss : List ℕ} {m : ℕ} {js : List ℕ} {n : ℕ} → Filled w ss m js n → first_rows w ss m js n ≡ Ok tt → (d : Bool) → d ≡ muddled w → d ≡ false → Named w ss m × Named w js (2 * n)
both_named {w} {ss} {m} {js} {n} g f d s k =
    let x = or_right (any_below (points_of w) (no_such w)) (no_such_beside w ss m js n) (numbered w ss m js n f) in
    let y = or_right (any_below (records_of w) (no_such_of w)) (unnamed w ss m || unnamed w js (2 * n)) x in
    (record { long = g.long; clear = sym s ∙ k; fits = g.segments; named = or_left (unnamed w ss m) (unnamed w js (2 * n)) y }, record { long = g.long; clear = sym s ∙ k; fits = g.joins; named = or_right (unnamed w ss m) (unnamed w js (2 * n)) y })
