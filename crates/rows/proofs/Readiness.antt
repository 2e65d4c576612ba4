-- Rows 4 to 8 passed: the invariant of opening while it joins. Every point is on one ring, linked both ways, and resolves to its record.
use mathlib.Core.Path.{◌≡◌, refl, sym, ap, ◌∙◌}
use mathlib.Core.Logic.{◌≢◌, ◌⊎◌, inl, inr}
use mathlib.Core.Bool.{Bool, true, false, cond, ◌||◌}
use mathlib.Core.List.{List, [], ◌∷◌}
use Prim.Native.Nat.{ℕ, zero, suc, ◌*◌, ◌<◌}
use native.Mathlib.Decide.{ℕ_discrete}
use native.Mathlib.Omega.{arith}
use borrow.Author.Tests.{eq-eqb, ne_eqb, eqb-true, lt-ltb, ltb-true, not-false}
use Rattle.std.specs.Prelude.{Result, Ok, Err}
use Rattle.rings.specs.Count.{occ}
use Rattle.rings.specs.Relink.{Mutual}
use Rattle.rings.specs.Walk.{walk}
use Rattle.rings.specs.Whole.{Whole}
use Rattle.rings.proofs.Counting.{sum_term}
use Rattle.rings.proofs.Orbits.{orbit}
use Rattle.rings.proofs.Walking.{ring_is}
use Rattle.job.specs.Limits.{RECORDS}
use Rattle.job.specs.declared.refusal.Refusal.{Refusal}
use Rattle.job.specs.declared.refusal.Refusal.TheVariants.{OffTheTable, NoSuch, Loose, Muddled, OpenEdge}
use Rattle.store.specs.Field.{NONE}
use Rattle.store.specs.Words.{view}
use Rattle.store.specs.Named.{points_of, records_of, next_of, prev_of, rec_of, owner_of, first_of, kept_of}
use Rattle.store.specs.Reason.{NO_RING}
use Rattle.store.specs.Sound.{ring_at}
use Rattle.store.specs.Good.{total}
use Rattle.audit.specs.Tests.{any_below, off_table, no_such, no_such_of, loose}
use Rattle.audit.proofs.Saying.{none_of, Placed, on_table, Numbered, such, tied, Owned, owned}
use Rattle.joins.specs.Paths.{Resolves}
use Rattle.audit.proofs.Saying.{none_of, Placed, on_table, Numbered, such, tied, Owned, owned}
use Rattle.joins.specs.Resolved.{Ready}
use Rattle.joins.specs.Resolve.{find_in, home_of}
use Rattle.owners.specs.Owners.{ends_in, circles}
use Rattle.visits.specs.Rings.{alone, estranged}
use Rattle.rows.specs.Rows.{off_the_table, unnamed, no_such_number, loose_link, muddled, open_edge, rows_of}
use Rattle.rows.specs.Found.{Filled, Clear}
use Rattle.audit.proofs.Testing.{or_left, or_right}
use Rattle.rows.proofs.Homes.{ring_home, has_home}

-- a row that refuses was passed by a job that passes
past : (b : Bool) (x : Refusal) (r : Result (Unit {0}) Refusal) → cond b (Err x) r ≡ Ok tt → (b ≡ false) × (r ≡ Ok tt)
past true x r e = absurd (let z : ◌≡◌ {A = ℕ} 0 1 = cc in omega arith)
past false x r e = (refl, e)

pub clear : (w ss : List ℕ) (m : ℕ) (js : List ℕ) (n : ℕ) → rows_of w ss m js n ≡ Ok tt → Clear w ss m js n
unfolding rows_of
clear w ss m js n e =
    let r8 = cond (open_edge w ss m js n) (Err OpenEdge) (Ok tt) in
    let r7 = cond (muddled w) (Err Muddled) r8 in
    let r6 = cond (loose_link w) (Err Loose) r7 in
    let r5 = cond (no_such_number w ss m js n) (Err NoSuch) r6 in
    let a = past (off_the_table w) OffTheTable r5 e in
    let b = past (no_such_number w ss m js n) NoSuch r6 a.1 in
    let c = past (loose_link w) Loose r7 b.1 in
    let d = past (muddled w) Muddled r8 c.1 in
    let f = past (open_edge w ss m js n) OpenEdge (Ok tt) d.1 in
    record { on_the_table = a.0; numbers = b.0; links = c.0; rings = d.0; edges = f.0 }

-- every owner chain of such a job ends
pub chain_ends : {w ss : List ℕ} {m : ℕ} {js : List ℕ} {n : ℕ} → Clear w ss m js n → (i : ℕ) → i < records_of w → ends_in RECORDS (owner_of w) i ≡ true
chain_ends {w} c i h =
    let a = or_left (any_below (records_of w) (λ j. circles w j)) (any_below (records_of w) (λ j. estranged w j) || any_below (points_of w) (λ k. alone w k)) c.rings in
    not-false (ends_in RECORDS (owner_of w) i) (none_of (records_of w) (λ j. circles w j) a i h)

-- what a record resolves to is reached along owners without points
found : (w : List ℕ) (q : ℕ) → ((i : ℕ) → i < records_of w → (owner_of w i ≡ NONE) ⊎ (owner_of w i < records_of w)) → q ≢ NONE → (f r : ℕ) → r < records_of w → find_in f (first_of w) (owner_of w) r ≡ q → Resolves (view w) r q
unfolding find_in
found w q o h zero r l e = absurd (h (sym e))
found w q o h (suc f) r l e = by (ℕ_discrete (first_of w r) NONE) (o r l) (λ k. found w q o h f (owner_of w r) k)
  where
    by : Dec (first_of w r ≡ NONE) → (owner_of w r ≡ NONE) ⊎ (owner_of w r < records_of w) → (owner_of w r < records_of w → find_in f (first_of w) (owner_of w) (owner_of w r) ≡ q → Resolves (view w) (owner_of w r) q) → Resolves (view w) r q
    by (no d) s t =
        let a : r ≡ q = rw (ne_eqb (first_of w r) NONE d) at e in
        record { via = []; path = a; low = tt; real = rw (← a) l; some = λ y. d (ap (first_of w) a ∙ y) }
    by (yes d) (inl n) t = absurd (h (sym (rw (eq-eqb (first_of w r) NONE d, eq-eqb (owner_of w r) NONE n) at e)))
    by (yes d) (inr n) t = go (ℕ_discrete (owner_of w r) NONE)
      where
        go : Dec (owner_of w r ≡ NONE) → Resolves (view w) r q
        go (yes y) = absurd (h (sym (rw (eq-eqb (first_of w r) NONE d, eq-eqb (owner_of w r) NONE y) at e)))
        go (no y) =
            let z = t n (rw (eq-eqb (first_of w r) NONE d, ne_eqb (owner_of w r) NONE y) at e) in
            record { via = r ∷ z.via; path = (refl, d, z.path); low = (l, z.low); real = z.real; some = z.some }

module _ {w ss : List ℕ} {m : ℕ} {js : List ℕ} {n : ℕ} (g : Filled w ss m js n) (c : Clear w ss m js n) where
  -- row 4
  tabled : (k : ℕ) → k < points_of w → Placed w k
  tabled k h = on_table w k (none_of (points_of w) (off_table w) c.on_the_table k h)

  -- row 5
  named : (k : ℕ) → k < points_of w → Numbered w k
  named k h =
      such w k (none_of (points_of w) (no_such w) (or_left (any_below (points_of w) (no_such w)) (any_below (records_of w) (no_such_of w) || (unnamed w ss m || unnamed w js (2 * n))) c.numbers) k h)

  record_named : (i : ℕ) → i < records_of w → Owned w i
  record_named i h =
      let e = or_right (any_below (points_of w) (no_such w)) (any_below (records_of w) (no_such_of w) || (unnamed w ss m || unnamed w js (2 * n))) c.numbers in
      owned w i (none_of (records_of w) (no_such_of w) (or_left (any_below (records_of w) (no_such_of w)) (unnamed w ss m || unnamed w js (2 * n)) e) i h)

  -- row 6
  mutual_links : Mutual (next_of w) (prev_of w) (points_of w)
  mutual_links =
      record { next_low = λ k h. (named k h).next; prev_next = λ k h. (tied w k (none_of (points_of w) (loose w) c.links k h)).prev_next }

  -- a record's ring, from its first point, is whole
  wholes : (i : ℕ) → i < records_of w → Whole (next_of w) (prev_of w) (points_of w) (ring_at (view w) i)
  wholes i h = by (ℕ_discrete (first_of w i) NONE) (record_named i h).first
    where
      empty : Whole (next_of w) (prev_of w) (points_of w) []
      empty = record { linked = tt; once = λ k. omega arith; below = λ k y. absurd (omega arith) }

      by : Dec (first_of w i ≡ NONE) → (first_of w i ≡ NONE) ⊎ (first_of w i < points_of w) → Whole (next_of w) (prev_of w) (points_of w) (ring_at (view w) i)
      by (yes e) s = rw (eq-eqb (first_of w i) NONE e) empty
      by (no d) (inl e) = absurd (d e)
      by (no d) (inr l) =
          let o = orbit (next_of w) (prev_of w) (points_of w) mutual_links (first_of w i) l in
          let e : walk (next_of w) (first_of w i) ≡ first_of w i ∷ o.others = ring_is (next_of w) (prev_of w) (points_of w) (first_of w i) o.others g.points o.whole in
          rw (ne_eqb (first_of w i) NONE d, e) o.whole

  -- row 7
  homes : (i k : ℕ) → i < records_of w → 0 < occ k (ring_at (view w) i) → Resolves (view w) (rec_of w k) i
  homes i k h r =
      let e = ring_home w c.rings i k h (lt-ltb 0 (occ k (ring_at (view w) i)) r) in
      found w i (λ x y. (record_named x y).owner) (λ y. omega (arith, g.records)) RECORDS (rec_of w k) (named k ((wholes i h).below k r)).rec e

  places : (k : ℕ) → k < points_of w → 0 < total (view w) k
  places k h =
      let s = has_home w c.rings k h in
      let i = home_of w k in
      omega (arith, ltb-true 0 (occ k (ring_at (view w) i)) s.1, sum_term (records_of w) i (λ j. occ k (ring_at (view w) j)) s.0)

  -- with why each record without a ring has none, as it was read
  pub ready : ((i : ℕ) → i < records_of w → first_of w i ≡ NONE → kept_of w i ≡ NO_RING) → Ready w
  ready why =
      record {
        long = g.long;
        resolved = record {
          few_points = g.points;
          few_records = g.records;
          whole = wholes;
          home = homes;
          placed = places;
          x_in = λ k h. (tabled k h).x;
          y_in = λ k h. (tabled k h).y;
          owner_in = λ i h. (record_named i h).owner;
          emptied = λ i h e. inl (why i h (eqb-true _ _ e));
        };
      }
