-- Inputs that begin alike for 50,201 bytes are read alike, and a job that is read is at most 50,180 bytes long.
use mathlib.Core.Path.{◌≡◌, refl, ap, ◌∙◌}
use mathlib.Core.Bool.{Bool, true, false, cond}
use mathlib.Core.List.{List}
use Prim.Native.Nat.{ℕ, zero, suc, ◌+◌, ◌-◌, ◌*◌, ◌<◌, ◌≤◌}
use native.Mathlib.Omega.{arith}
use native.Mathlib.Decide.{dec_lt}
use lib.Dec.{ltb, eqb}
use lib.ListN.{length, take, drop, length-drop}
use borrow.Author.Tests.{eqb-false, ltb-true, ltb-false}
use Rattle.std.proofs.Common.{Result, Ok, Err}
use Rattle.job.specs.declared.Job.{Job}
use Rattle.job.specs.declared.refusal.Refusal.TheVariants.{Strange}
use Rattle.job.specs.declared.field.Kind.TheVariants as kind
use Rattle.job.specs.declared.field.Field.{Field}
use Rattle.job.specs.declared.field.Field.TheVariants.{Settings, Point, Record, Segment, Join}
use Rattle.job.specs.declared.refusal.Refusal.{Refusal}
use Rattle.job.specs.Field.{field_of}
use Rattle.job.specs.Job.{fresh, past, Within}
use Rattle.job.proofs.Accepted.{accepted, within_fresh}
use Rattle.reading.specs.Fill.{ReadEnd, end, placed, taken, turn_of, follow, run, fill_of}
use Rattle.reading.proofs.Going.{After, moves}
use Rattle.prefix.specs.Decides.{whole_of, LONGEST, DECIDES}
use Rattle.prefix.proofs.Beginnings.{long_same, empty_same, rest_same, fewer_same}
use Rattle.prefix.proofs.Fields.{field_same}
use Rattle.prefix.proofs.Spent.{Spent, first_some, spent_fresh, spent_past, not_past}

-- what a turn leaves, if it is no refusal, is counted with its bytes
abbrev Counted : ReadEnd → Type 0
Counted (end (Ok n) w ss js) = Spent n
Counted (end (Err x) w ss js) = Unit {0}

-- and lies in the job
abbrev Inside : List ℕ → ReadEnd → Type 0
Inside bytes (end (Ok n) w ss js) = n.at ≤ length bytes
Inside bytes (end (Err x) w ss js) = Unit {0}

module _ (j : Job) (w ss js : List ℕ) (i : Spent j) where
  placed_counted : (f : Field) (n : ℕ) → Spent (past f n j) → Counted (placed f n j w ss js)
  placed_counted (Settings b) n h = h
  placed_counted (Point x y nx pv r z) n h = h
  placed_counted (Record f o p) n h = h
  placed_counted (Segment p) n h = h
  placed_counted (Join a b) n h = h

  taken_counted : (part : List ℕ) (r : Result (Field × ℕ) Refusal) → field_of j part ≡ r → Counted (taken r j w ss js)
  taken_counted part (Ok (f, n)) e = placed_counted f n (spent_past j part f n i e)
  taken_counted part (Err x) e = tt

  turn_counted : (bytes : List ℕ) → Counted (turn_of bytes j w ss js)
  unfolding turn_of
  turn_counted bytes = taken_counted (drop j.at bytes) (field_of j (drop j.at bytes)) refl

module _ (a b : List ℕ) (e : take DECIDES a ≡ take DECIDES b) where
  module _ (j : Job) (i : Spent j) (l : Within j) where
    -- at least 21 bytes from here on are alike
    part_same : take 21 (drop j.at a) ≡ take 21 (drop j.at b)
    part_same =
        let h = not_past j i l in
        fewer_same (DECIDES - j.at) (drop j.at a) (drop j.at b) (rest_same DECIDES a b e j.at (DECIDES - j.at) (omega arith)) 21 (omega arith)

    turn_same : (w ss js : List ℕ) → turn_of a j w ss js ≡ turn_of b j w ss js
    unfolding turn_of
    turn_same w ss js = ap (λ (r : Result (Field × ℕ) Refusal). taken r j w ss js) (field_same (drop j.at a) (drop j.at b) part_same j)

    end_same : ltb j.at (length a) ≡ ltb j.at (length b)
    end_same = let h = not_past j i l in long_same DECIDES a b e j.at (omega arith)

  -- with turns enough for either, both run alike
  run_same : (k m : ℕ) (j : Job) (w ss js : List ℕ) → Spent j → Within j → 0 < k → 0 < m → length a < j.at + k → length b < j.at + m → run k a j w ss js ≡ run m b j w ss js
  unfolding run
  run_same zero m j w ss js i l p q f g = absurd (omega arith)
  run_same (suc k) zero j w ss js i l p q f g = absurd (omega arith)
  run_same (suc k) (suc m) j w ss js i l p q f g =
      rw (turn_same j i l w ss js, end_same j i l) (by (ltb j.at (length b)) refl (turn_of b j w ss js) (moves b j w ss js) (turn_counted j w ss js i b) (λ n u us ls. run_same k m n u us ls))
    where
      by : (t : Bool) → ltb j.at (length b) ≡ t → (T : ReadEnd) → After j T → Counted T → ((n : Job) (u us ls : List ℕ) → Spent n → Within n → 0 < k → 0 < m → length a < n.at + k → length b < n.at + m → run k a n u us ls ≡ run m b n u us ls) → cond t (follow (run k a) T) (end (Ok j) w ss js) ≡ cond t (follow (run m b) T) (end (Ok j) w ss js)
      by true h (end (Ok n) u us ls) d c again =
          let x = ltb-true j.at (length b) h in
          let y = ltb-true j.at (length a) (end_same j i l ∙ h) in
          let z = d.at in
          again n u us ls c (d.within l) (omega arith) (omega arith) (omega arith) (omega arith)
      by true h (end (Err x) u us ls) d c again = refl
      by false h T d c again = refl

  pub fill_same : (w ss js : List ℕ) → fill_of a w ss js ≡ fill_of b w ss js
  unfolding fill_of
  fill_same w ss js = rw (empty_same DECIDES a b e (omega arith), run_same (suc (length a)) (suc (length b)) fresh w ss js spent_fresh within_fresh (omega arith) (omega arith) (omega arith) (omega arith))

-- ---- a job that is read to its end has the bytes of its counted fields, and no others

pub record ReadWhole (bytes : List ℕ) (j : Job) : Type 0 where
  pub long : length bytes ≡ whole_of kind.Settings + j.points * whole_of kind.Point + j.records * whole_of kind.Record + j.segments * whole_of kind.Segment + j.joins * whole_of kind.Join
  pub within : Within j

inside : (bytes : List ℕ) (j : Job) (w ss js : List ℕ) → Within j → j.at ≤ length bytes → Inside bytes (turn_of bytes j w ss js)
unfolding turn_of
inside bytes j w ss js l h = go (field_of j (drop j.at bytes)) refl
  where
    places : (f : Field) (n : ℕ) → j.at + n ≤ length bytes → Inside bytes (placed f n j w ss js)
    places (Settings b) n h = h
    places (Point x y nx pv r z) n h = h
    places (Record f o p) n h = h
    places (Segment p) n h = h
    places (Join a b) n h = h

    go : (r : Result (Field × ℕ) Refusal) → field_of j (drop j.at bytes) ≡ r → Inside bytes (taken r j w ss js)
    go (Ok (f, n)) e = places f n (let a = accepted j (drop j.at bytes) f n e in omega (arith, a.here, length-drop j.at bytes))
    go (Err x) e = tt

module _ (bytes : List ℕ) (n : Job) (v ts ks : List ℕ) where
  run_whole : (k : ℕ) (j : Job) (w ss js : List ℕ) → 0 < length bytes → Spent j → Within j → j.at ≤ length bytes → run k bytes j w ss js ≡ end (Ok n) v ts ks → ReadWhole bytes n
  unfolding run
  run_whole zero j w ss js o i l b e = absurd (let z : ◌≡◌ {A = ℕ} 0 1 = cc in omega arith)
  run_whole (suc k) j w ss js o i l b e =
      by (ltb j.at (length bytes)) refl (turn_of bytes j w ss js) (moves bytes j w ss js) (turn_counted j w ss js i bytes) (inside bytes j w ss js l b) e (λ m u us ls. run_whole k m u us ls o)
    where
      by : (t : Bool) → ltb j.at (length bytes) ≡ t → (T : ReadEnd) → After j T → Counted T → Inside bytes T → cond t (follow (run k bytes) T) (end (Ok j) w ss js) ≡ end (Ok n) v ts ks
          → ((m : Job) (u us ls : List ℕ) → Spent m → Within m → m.at ≤ length bytes → run k bytes m u us ls ≡ end (Ok n) v ts ks → ReadWhole bytes n) → ReadWhole bytes n
      by true h (end (Ok m) u us ls) d c q f again = again m u us ls c (d.within l) q f
      by true h (end (Err x) u us ls) d c q f again = absurd (let z : ◌≡◌ {A = ℕ} 0 1 = cc in omega arith)
      by false h T d c q f again =
          let x = ltb-false j.at (length bytes) h in
          let y : 0 < j.last = go (dec_lt 0 j.last) in
          let z : j ≡ n = cc (f) in
          rw (← z) (record { long = omega (arith, i.at, first_some j.last y); within = l })
        where
          go : Dec (0 < j.last) → 0 < j.last
          go (yes g) = g
          go (no g) = absurd (omega (arith, i.none_yet (omega arith), ltb-false j.at (length bytes) h))

  pub fill_whole : (w ss js : List ℕ) → fill_of bytes w ss js ≡ end (Ok n) v ts ks → ReadWhole bytes n
  unfolding fill_of
  fill_whole w ss js e = by (eqb (length bytes) 0) refl e
    where
      by : (t : Bool) → eqb (length bytes) 0 ≡ t → cond t (end (Err Strange) w ss js) (run (suc (length bytes)) bytes fresh w ss js) ≡ end (Ok n) v ts ks → ReadWhole bytes n
      by true h d = absurd (let z : ◌≡◌ {A = ℕ} 0 1 = cc in omega arith)
      by false h d = let o = eqb-false (length bytes) 0 h in run_whole (suc (length bytes)) fresh w ss js (omega arith) spent_fresh within_fresh (omega arith) d

  -- so it is no longer than the longest
  pub fill_longest : (w ss js : List ℕ) → fill_of bytes w ss js ≡ end (Ok n) v ts ks → length bytes ≤ LONGEST
  fill_longest w ss js e = let r = fill_whole w ss js e in let i = r.within in omega (arith, r.long, i.points, i.records, i.segments, i.joins)
