-- The tests pass exactly when the store is sound.
use Prim.Native.Nat.{ℕ, zero, suc, ◌≤◌, ◌<◌}
use mathlib.Core.Path.{◌≡◌, refl, ap}
use mathlib.Core.Logic.{◌⊎◌, inl, inr}
use mathlib.Core.Bool.{Bool, true, false}
use mathlib.Core.List.{List, [], ◌∷◌}
use native.Mathlib.Omega.{arith}
use native.Mathlib.Decide.{ℕ_discrete, dec_lt}
use borrow.Author.Tests.{eqb-false}
use Rattle.rings.specs.Count.{occ}
use Rattle.rings.specs.Links.{Linked}
use Rattle.rings.specs.Progress.{is_done}
use Rattle.rings.specs.Whole.{Whole}
use Rattle.rings.proofs.Counting.{one_here}
use Rattle.rings.proofs.Members.{From, from}
use Rattle.rings.proofs.Tables.{once_by}
use Rattle.rings.proofs.Walking.{ring_is}
use Rattle.store.specs.Field.{NONE}
use Rattle.store.specs.Words.{view}
use Rattle.store.specs.Named.{points_of, records_of, next_of, prev_of, first_of, progress_of}
use Rattle.store.specs.Sound.{ringless, ring_at, due_of}
use Rattle.store.specs.Good.{Good, Sound}
use Rattle.audit.specs.Tests.{reached_by, off_table, no_such, no_such_of, lost_taker, loose, shared, misplaced, untold}
use Rattle.audit.proofs.Reaching.{Reached, reached}
use Rattle.audit.proofs.Ringing.{along, ring_at_lem}
use Rattle.audit.proofs.Saying.{none_of, reached_none, on_table, such, tied, owned, explained, alone, mark_low, place_on, Passing, Placed, Numbered, Tied}

-- ---- the tests pass: the store is sound

module _ (w : List ℕ) (t : Passing w) where
  abbrev n : ℕ → ℕ
  n = next_of w

  abbrev p : ℕ → ℕ
  p = prev_of w

  abbrev m : ℕ
  m = points_of w

  abbrev R : List ℕ
  R = reached_by w (records_of w)

  all : Reached w t.points (records_of w)
  all = reached w t.points (records_of w)

  low : (k : ℕ) → 0 < occ k R → k < m
  low k o = all.fresh.below k o

  numbered : (k : ℕ) → 0 < occ k R → Numbered w k
  numbered k o = such w k (reached_none w (no_such w) t.numbered k (low k o) o)

  placed : (k : ℕ) → 0 < occ k R → Placed w k
  placed k o = on_table w k (reached_none w (off_table w) t.placed k (low k o) o)

  ties : (k : ℕ) → 0 < occ k R → Tied w k
  ties k o = tied w k (reached_none w (loose w) t.tied k (low k o) o)

  pub record RingOf (i : ℕ) : Type 0 where
    pub others : List ℕ
    pub is : ring_at (view w) i ≡ first_of w i ∷ others
    pub ring : Whole n p m (first_of w i ∷ others)
    pub inside : (k : ℕ) → 0 < occ k (first_of w i ∷ others) → 0 < occ k R

  first_low : (i : ℕ) → i < records_of w → ringless (view w) i ≡ false → first_of w i < m
  first_low i h r = go (owned w i (none_of (records_of w) (no_such_of w) t.owned i h)).first
    where
      go : (first_of w i ≡ NONE) ⊎ (first_of w i < m) → first_of w i < m
      go (inl e) = absurd (eqb-false (first_of w i) NONE r e)
      go (inr l) = l

  ring_of : (i : ℕ) → i < records_of w → ringless (view w) i ≡ false → RingOf i
  ring_of i h r =
      let g = ring_at_lem w t.points (λ k o. (numbered k o).next) (λ k o. (ties k o).prev_next) (first_of w i) (all.starts i h (first_low i h r)) in
      record { others = g.others; is = rw r (ring_is n p m (first_of w i) g.others t.points g.ring); ring = g.ring; inside = g.inside }

  -- the computed ring is whole, or there is none
  data Either (i : ℕ) : Type 0 where
    bare : ringless (view w) i ≡ true → ring_at (view w) i ≡ [] → Either i
    ringed : ringless (view w) i ≡ false → RingOf i → Either i

  either : (i : ℕ) → i < records_of w → Either i
  either i h = go (ringless (view w) i) refl
    where
      go : (b : Bool) → ringless (view w) i ≡ b → Either i
      go true e = bare e (rw e)
      go false e = ringed e (ring_of i h e)

  inside : (i k : ℕ) → i < records_of w → 0 < occ k (ring_at (view w) i) → 0 < occ k R
  inside i k h o = go (either i h)
    where
      go : Either i → 0 < occ k R
      go (bare e z) = absurd (omega (arith, ap (occ k) z))
      go (ringed e g) = g.inside k (rw g.is at o)

  -- ring i was reached by the walk from its first point
  early : (i j k : ℕ) → i < j → j < records_of w → 0 < occ k (ring_at (view w) i) → 0 < occ k (ring_at (view w) j) → ⊥
  early i j k l h o q = go (either i (omega arith)) (either j h)
    where
      rj : Reached w t.points j
      rj = reached w t.points j

      go : Either i → Either j → ⊥
      go (bare e z) f = omega (arith, ap (occ k) z)
      go (ringed e g) (bare f z) = omega (arith, ap (occ k) z)
      go (ringed e g) (ringed f x) =
          let a : 0 < occ k (reached_by w j) = along n p m (λ y. 0 < occ y (reached_by w j)) rj.shut (first_of w i) g.others (first_of w i) g.ring.linked g.ring.below (rj.starts i l (first_low i (omega arith) e)) k (rw g.is at o) in
          let s : From n p m (first_of w j ∷ x.others) x.ring k (rw x.is at q) = from n p m (first_of w j ∷ x.others) x.ring k (rw x.is at q) in
          let b : 0 < occ (first_of w j) (reached_by w j) = along n p m (λ y. 0 < occ y (reached_by w j)) rj.shut k s.others k s.whole.linked s.whole.below a (first_of w j) (omega (arith, s.occs (first_of w j), one_here (first_of w j))) in
          omega (arith, alone w j (none_of (records_of w) (shared w) t.apart j h))

  only : (i j k : ℕ) → i < records_of w → j < records_of w → 0 < occ k (ring_at (view w) i) → 0 < occ k (ring_at (view w) j) → i ≡ j
  only i j k hi hj o q = go (ℕ_discrete i j) (dec_lt i j)
    where
      go : Dec (i ≡ j) → Dec (i < j) → i ≡ j
      go (yes e) d = e
      go (no e) (yes l) = absurd (early i j k l hj o q)
      go (no e) (no l) = absurd (early j i k (omega arith) hi q o)

  each_once : (i k : ℕ) → i < records_of w → occ k (ring_at (view w) i) ≤ 1
  each_once i k h = go (either i h)
    where
      go : Either i → occ k (ring_at (view w) i) ≤ 1
      go (bare e z) = omega (arith, ap (occ k) z)
      go (ringed e g) = omega (arith, ap (occ k) g.is, g.ring.once k)

  linked : (i : ℕ) → i < records_of w → Linked n p (ring_at (view w) i)
  linked i h = go (either i h)
    where
      go : Either i → Linked n p (ring_at (view w) i)
      go (bare e z) = rw z tt
      go (ringed e g) = rw g.is g.ring.linked

  not_done : (d : ℕ) → is_done (due_of d) ≡ false → d < 4
  not_done zero e = omega arith
  not_done (suc zero) e = omega arith
  not_done (suc (suc zero)) e = omega arith
  not_done (suc (suc (suc zero))) e = omega arith
  not_done (suc (suc (suc (suc d)))) e = let z : ◌≡◌ {A = ℕ} 0 1 = cc in absurd (omega arith)

  good : (i : ℕ) → i < records_of w → Good (view w) i
  good i h =
      let a : misplaced w i ≡ false = none_of (records_of w) (misplaced w) t.meant i h in
      record {
        linked = linked i h;
        points_in_lem = λ k o.
            let q = inside i k h o in
            record { below = low k q; x_in = (placed k q).x; y_in = (placed k q).y; record_in = (numbered k q).rec };
        owner = (owned w i (none_of (records_of w) (no_such_of w) t.owned i h)).owner;
        meant = λ c. mark_low w i c.ringed c.closed a;
        going = λ c e. place_on w i c.ringed c.closed a (not_done (progress_of w i) e);
        explained = λ e. explained w i e (none_of (records_of w) (lost_taker w) t.taken i h) (none_of (records_of w) (untold w) t.explained_all i h);
      }

  pub passing_sound : Sound (view w)
  passing_sound = record { few_points = t.points; few_records = t.records; good = good; once = once_by (ring_at (view w)) (records_of w) each_once only }
