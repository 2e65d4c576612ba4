-- The marks are those of the points reached: the tests by the marks are the tests by the definition.
use Prim.Native.Nat.{ℕ, zero, suc, ◌≤◌, ◌<◌}
use mathlib.Core.Path.{subst, ◌≡◌, refl, ap, ◌∙◌, sym}
use mathlib.Core.Bool.{Bool, true, false, cond, not, ◌&&◌, ◌||◌}
use mathlib.Core.List.{List, ◌∷◌}
use native.Mathlib.Omega.{arith}
use native.Mathlib.Nat.{zero-add}
use native.Mathlib.Decide.{ℕ_discrete, dec_lt}
use lib.Dec.{ltb}
use lib.ListN.{length, set, replicate, length-set, length-replicate, get_or-replicate, get_or-eq_default}
use lib.Seq.{get_or-set_same, get_or-set_other}
use borrow.Author.Tests.{lt-ltb, le-ltb, ltb-true, ltb-false}
use Rattle.std.specs.Prelude.{Result}
use Rattle.job.specs.Limits as limit
use Rattle.job.specs.declared.refusal.Refusal.{Refusal}
use Rattle.rings.specs.Count.{occ}
use Rattle.rings.proofs.Counting.{one_else, occ_head}
use Rattle.store.specs.Field.{BLOCK}
use Rattle.store.specs.Named.{points_of, records_of, next_of, first_of}
use Rattle.audit.specs.Tests.{is_in, any_below, any_reached, any_record, reach, reached_by, crowded, shared, tests_of, off_table, no_such, loose}
use Rattle.audit.specs.Marks.{Counted, Clear, is_marked, mark_from, marks_by, meets, AllMarked, any_marked, links_of, passes_of}

-- the marks ms, of at least m places, are those of the points l
pub record Marks (m : ℕ) (ms l : List ℕ) : Type 0 where
  pub room : m ≤ length ms
  pub is : (k : ℕ) → is_marked ms k ≡ is_in k l

one_more : (m : ℕ) (ms l : List ℕ) (a : ℕ) → a < m → Marks m ms l → Marks m (set ms a 1) (a ∷ l)
one_more m ms l a h g = record { room = omega (arith, g.room, length-set ms a 1); is = λ k. go k (ℕ_discrete k a) }
  where
    go : (k : ℕ) → Dec (k ≡ a) → is_marked (set ms a 1) k ≡ is_in k (a ∷ l)
    go k (yes e) = subst (λ (x : ℕ). is_marked (set ms a 1) x ≡ is_in x (a ∷ l)) (sym e) (rw (get_or-set_same ms a 1 0 (omega (arith, g.room))) (sym (lt-ltb 0 (occ a (a ∷ l)) (occ_head a l))))
    go k (no d) = rw (get_or-set_other ms a k 1 0 d, one_else k a (λ e. d (sym e)), zero-add (occ k l)) (g.is k)

from : (f : ℕ) (n : ℕ → ℕ) (m : ℕ) (ms l : List ℕ) (a : ℕ) → Marks m ms l → Marks m (mark_from f n m ms a) (reach f n m l a)
unfolding mark_from reach
from zero n m ms l a g = g
from (suc f) n m ms l a g = rw (g.is a) (go (ltb a m) refl (is_in a l) (λ x. from f n m (set ms a 1) (a ∷ l) (n a) x))
  where
    go : (b : Bool) → ltb a m ≡ b → (c : Bool) → (Marks m (set ms a 1) (a ∷ l) → Marks m (mark_from f n m (set ms a 1) (n a)) (reach f n m (a ∷ l) (n a)))
        → Marks m (cond (b && not c) (mark_from f n m (set ms a 1) (n a)) ms) (cond (b && not c) (reach f n m (a ∷ l) (n a)) l)
    go false e c r = g
    go true e true r = g
    go true e false r = r (one_more m ms l a (ltb-true a m e) g)

pub marks_are : (w ms : List ℕ) → Clear w ms → (i : ℕ) → Marks (points_of w) (marks_by w ms i) (reached_by w i)
unfolding marks_by reached_by
marks_are w ms c zero = record { room = c.room; is = c.none }
marks_are w ms c (suc i) = from limit.POINTS (next_of w) (points_of w) (marks_by w ms i) (reached_by w i) (first_of w i) (marks_are w ms c i)

-- marks that are all zero are clear
zeros : (w : List ℕ) (n : ℕ) → points_of w ≤ n → n ≤ limit.POINTS → Clear w (replicate n 0)
zeros w n h s = record { room = omega (arith, length-replicate {A = ℕ} n 0); short = omega (arith, length-replicate {A = ℕ} n 0); none = λ k. go k (dec_lt k n) }
  where
    go : (k : ℕ) → Dec (k < n) → is_marked (replicate n 0) k ≡ false
    go k (yes l) = rw (get_or-replicate {A = ℕ} n k 0 0 l)
    go k (no d) = rw (get_or-eq_default (replicate {A = ℕ} n 0) 0 {n = k} (omega (arith, length-replicate {A = ℕ} n 0)))

pub any_same : (n : ℕ) (q r : ℕ → Bool) → ((k : ℕ) → q k ≡ r k) → any_below n q ≡ any_below n r
unfolding any_below
any_same zero q r h = refl
any_same (suc n) q r h = rw (any_same n q r h, h n)

-- ---- the tests by the marks

module _ (w ms : List ℕ) (c : Clear w ms) where
  any_marked_is : (q : ℕ → Bool) → any_marked w (marks_by w ms (records_of w)) q ≡ any_reached w q
  any_marked_is q =
      any_same (points_of w) (λ k. is_marked (marks_by w ms (records_of w)) k && q k) (λ k. is_in k (reached_by w (records_of w)) && q k)
      (λ k. ap (λ (b : Bool). b && q k) ((marks_are w ms c (records_of w)).is k))

  pub meets_is : any_record w (meets w ms) ≡ any_record w (shared w)
  meets_is = any_same (records_of w) (meets w ms) (shared w) (λ i. (marks_are w ms c i).is (first_of w i))

  tested_is : crowded w ≡ false → passes_of w (marks_by w ms (records_of w)) (any_record w (meets w ms)) ≡ tests_of w
  unfolding links_of tests_of
  tested_is e = rw (e, any_marked_is (off_table w), any_marked_is (no_such w), any_marked_is (loose w), meets_is)

  pub in_order : (ms' : List ℕ) (s : Bool) (r : Result (Unit {0}) Refusal) → Counted w → AllMarked w ms ms' s → r ≡ passes_of w ms' s → r ≡ tests_of w
  in_order ms' s r h a e =
      e ∙ ap (λ (l : List ℕ). passes_of w l s) a.marks ∙ ap (passes_of w (marks_by w ms (records_of w))) a.shares
      ∙ tested_is (rw (le-ltb limit.POINTS (points_of w) h.points, le-ltb limit.RECORDS (records_of w) h.records))

-- ---- as the code asks

counts : (a b : Bool) → (a || b) ≡ false → (a ≡ false) × (b ≡ false)
counts false false e = (refl, refl)
counts false true e = let z : ◌≡◌ {A = ℕ} 0 1 = cc in absurd (omega arith)
counts true b e = let z : ◌≡◌ {A = ℕ} 0 1 = cc in absurd (omega arith)

pub counted : (w : List ℕ) (b : Bool) → BLOCK ≤ length w → b ≡ crowded w → b ≡ false → Counted w
counted w b l e h =
    let q = counts (ltb limit.POINTS (points_of w)) (ltb limit.RECORDS (records_of w)) (sym e ∙ h) in
    record { long = l; points = ltb-false limit.POINTS (points_of w) q.0; records = ltb-false limit.RECORDS (records_of w) q.1 }

pub few_zeros : (w : List ℕ) (m n : ℕ) → m ≡ points_of w → m ≤ n → n ≤ limit.POINTS → Clear w (replicate n 0)
few_zeros w m n e h s = zeros w n (omega arith) s

pub all_zeros : (w : List ℕ) → Counted w → Clear w (replicate limit.POINTS 0)
all_zeros w h = zeros w limit.POINTS h.points (omega arith)
