-- Points are tested as they are marked: where neither they nor a record are found to fail, the work space passes.
use Prim.Native.Nat.{ℕ, ◌<◌}
use mathlib.Core.Path.{◌≡◌, refl, ap, ◌∙◌, sym}
use mathlib.Core.Bool.{Bool, true, false, not, ◌||◌}
use mathlib.Core.List.{List, ◌∷◌}
use native.Mathlib.Omega.{arith}
use native.Mathlib.Decide.{ℕ_discrete}
use lib.Dec.{eqb, ltb}
use lib.ListN.{set}
use lib.Seq.{get_or-set_other}
use borrow.Author.Tests.{eqb-true, ltb-true, not-true, not-false}
use Rattle.std.specs.Prelude.{Ok}
use Rattle.rings.specs.Count.{occ}
use Rattle.rings.proofs.Counting.{occ_head}
use Rattle.rings.proofs.Members.{prev_on, next_prev}
use Rattle.store.specs.Named.{points_of, records_of, next_of, prev_of, rec_of}
use Rattle.audit.specs.Tests.{reached_by, off_table, no_such, loose, no_such_of, lost_taker, misplaced, untold, tests_of}
use Rattle.handed.specs.Handed.{any_misboxed}
use Rattle.audit.specs.Marks.{Counted, Clear, is_marked, faulty}
use Rattle.handed.specs.Rounds.{faulty_of, Tried, Unless, RecordsPassed, Looked}
use Rattle.audit.proofs.Reaching.{in_true}
use Rattle.audit.proofs.Ringing.{RingAt, ring_at_lem}
use Rattle.audit.proofs.Saying.{none_of, all_none, none_reached, such_not, tied_not, passed}
use Rattle.audit.proofs.Testing.{clash, or_parts}
use Rattle.audit.proofs.Marking.{marks_are, meets_is}

pub tried_none : (w ms : List ℕ) → Tried w ms ms
tried_none w ms = record { good = λ k a b. clash a b }

pub tried_more : {w ms ms₁ : List ℕ} → Tried w ms ms₁ → (p : ℕ) (b : Bool) → b ≡ faulty w p → b ≡ false → Tried w ms (set ms₁ p 1)
tried_more {w} {ms} {ms₁} g p b e h = record { good = λ k m u. by k m u (ℕ_discrete k p) }
  where
    by : (k : ℕ) → is_marked (set ms₁ p 1) k ≡ true → is_marked ms k ≡ false → Dec (k ≡ p) → faulty w k ≡ false
    by k m u (yes d) = ap (faulty w) d ∙ sym e ∙ h
    by k m u (no d) = g.good k (rw (get_or-set_other ms₁ p k 1 0 d) at m) u

pub tried_both : {w ms ms₁ ms₂ : List ℕ} → Tried w ms ms₁ → Tried w ms₁ ms₂ → Tried w ms ms₂
tried_both {w} {ms} {ms₁} {ms₂} f g = record { good = λ k m u. by k m u (is_marked ms₁ k) refl }
  where
    by : (k : ℕ) → is_marked ms₂ k ≡ true → is_marked ms k ≡ false → (b : Bool) → is_marked ms₁ k ≡ b → faulty w k ≡ false
    by k m u true d = f.good k d u
    by k m u false d = g.good k m d

-- ---- nothing found: the work space passes

-- what a point that a round tested is known to be
pub record Tested (w : List ℕ) (k : ℕ) : Type 0 where
  pub next : next_of w k < points_of w
  pub owner : rec_of w k < records_of w
  pub back : prev_of w (next_of w k) ≡ k
  pub table : off_table w k ≡ false

pub tested : (w : List ℕ) (k : ℕ) → faulty w k ≡ false → Tested w k
tested w k e =
    let a = or_parts (not (ltb (next_of w k) (points_of w))) (not (ltb (rec_of w k) (records_of w)) || (not (eqb (prev_of w (next_of w k)) k) || off_table w k)) e in
    let b = or_parts (not (ltb (rec_of w k) (records_of w))) (not (eqb (prev_of w (next_of w k)) k) || off_table w k) a.1 in
    let c = or_parts (not (eqb (prev_of w (next_of w k)) k)) (off_table w k) b.1 in
    record {
      next = ltb-true (next_of w k) (points_of w) (not-false (ltb (next_of w k) (points_of w)) a.0);
      owner = ltb-true (rec_of w k) (records_of w) (not-false (ltb (rec_of w k) (records_of w)) b.0);
      back = eqb-true (prev_of w (next_of w k)) k (not-false (eqb (prev_of w (next_of w k)) k) c.0);
      table = c.1;
    }

-- so a round stays among the points
pub goes_on : (w : List ℕ) (p m q : ℕ) (b : Bool) → b ≡ faulty w p → b ≡ false → m ≡ points_of w → q ≡ next_of w p → q < m
goes_on w p m q b e h em eq = omega (arith, (tested w p (sym e ∙ h)).next)

module _ (w ms ms' : List ℕ) (h : Counted w) (c : Clear w ms) (a : RecordsPassed w ms (records_of w) ms') where
  good : (k : ℕ) → 0 < occ k (reached_by w (records_of w)) → Tested w k
  good k o = tested w k (a.tried.good k (ap (λ (l : List ℕ). is_marked l k) a.marks ∙ (marks_are w ms c (records_of w)).is k ∙ in_true k (reached_by w (records_of w)) o) (c.none k))

  module _ (k : ℕ) (o : 0 < occ k (reached_by w (records_of w))) where
    g : RingAt w h.points (λ j q. (good j q).next) (λ j q. (good j q).back) k
    g = ring_at_lem w h.points (λ j q. (good j q).next) (λ j q. (good j q).back) k o

    numbered : no_such w k ≡ false
    numbered = such_not w k (good k o).next (g.ring.below (prev_of w k) (prev_on (next_of w) (prev_of w) (points_of w) (k ∷ g.others) g.ring k (occ_head k g.others))) (good k o).owner

    linked : loose w k ≡ false
    linked = tied_not w k (next_prev (next_of w) (prev_of w) (points_of w) (k ∷ g.others) g.ring k (occ_head k g.others)) (good k o).back

  parts : (i : ℕ) → i < records_of w → (no_such_of w i ≡ false) × (lost_taker w i ≡ false) × (misplaced w i ≡ false) × (untold w i ≡ false)
  parts i l =
      let x = or_parts (no_such_of w i) (lost_taker w i || (misplaced w i || untold w i)) (none_of (records_of w) (faulty_of w) a.fit i l) in
      let y = or_parts (lost_taker w i) (misplaced w i || untold w i) x.1 in
      let z = or_parts (misplaced w i) (untold w i) y.1 in
      (x.0, y.0, z.0, z.1)

  nothing : tests_of w ≡ Ok tt
  nothing =
      passed w (record {
        points = h.points;
        records = h.records;
        placed = none_reached w (off_table w) (λ k o. (good k o).table);
        numbered = none_reached w (no_such w) numbered;
        owned = all_none (records_of w) (no_such_of w) (λ i l. (parts i l).0);
        taken = all_none (records_of w) (lost_taker w) (λ i l. (parts i l).1);
        tied = none_reached w (loose w) linked;
        apart = sym (meets_is w ms c) ∙ a.apart;
        meant = all_none (records_of w) (misplaced w) (λ i l. (parts i l).2);
        explained_all = all_none (records_of w) (untold w) (λ i l. (parts i l).3);
      })

  nowhere : any_misboxed w ≡ false
  unfolding any_misboxed
  nowhere = a.boxed

pub looked : (w ms ms' : List ℕ) (b : Bool) → Counted w → Clear w ms → Unless b (RecordsPassed w ms (records_of w) ms') → Looked w (not b)
looked w ms ms' b h c u = record { passes = λ t. nothing w ms ms' h c (u.none (not-true b t)); boxed = λ t. nowhere w ms ms' h c (u.none (not-true b t)) }
