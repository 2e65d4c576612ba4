-- Ask 13's sentence on boxes, of every start.
use Prim.Native.Nat.{ℕ, ◌≤◌, ◌<◌}
use mathlib.Core.Path.{◌≡◌, refl, sym, ap, ◌∙◌, subst}
use mathlib.Core.Logic.{◌⊎◌, inl, inr}
use mathlib.Core.Bool.{Bool, cond}
use mathlib.Core.List.{List, [], ◌∷◌, ◌++◌}
use mathlib.Core.Option.{Option}
use native.Mathlib.Omega.{arith}
use native.Mathlib.Decide.{dec_lt}
use lib.Dec.{ltb}
use borrow.Author.Tests.{lt-ltb, le-ltb}
use Rattle.std.proofs.Common.{Ok}
use Rattle.job.specs.Limits as limit
use Rattle.geometry.specs.declared.Rect.{Rect}
use Rattle.store.specs.Field.{rc, CUT}
use Rattle.store.specs.Words.{view}
use Rattle.store.specs.Sound.{recs}
use Rattle.store.specs.Boxes.{ring_box}
use Rattle.opening.specs.Open.{end, open_of}
use Rattle.finishing.specs.Step.{step_of}
use Rattle.finishing.specs.Run.{run_of}
use Rattle.finishing.specs.Start.{Start}
use Rattle.finishing.proofs.InOneCall.{opening_left}
use Rattle.boxes.specs.Within.{BoxWithin}
use Rattle.boxes.specs.Beside.{Shrinks}
use Rattle.boxes.proofs.Sizes.{within_self, within_then}
use Rattle.confined.specs.Confined.{start_box, Descends, itself, is_cut_from, store_at, BoxesKept, Confined}
use Rattle.confined.proofs.Steps.{shrinks, run_few, run_both}

-- from any work space on
run_smaller : (is : List ℕ) (w : List ℕ) → (j : ℕ) → j < recs (view w) → BoxWithin (ring_box (view (run_of w is)) j) (ring_box (view w) j)
run_smaller [] w j h = within_self (ring_box (view w) j)
run_smaller (i ∷ is) w j h =
    let z : Shrinks (view w) (view (step_of w i).words) = shrinks w i in
    within_then (ring_box (view (run_of w (i ∷ is))) j) (ring_box (view (step_of w i).words) j) (ring_box (view w) j)
    (run_smaller is (step_of w i).words j (omega (arith, h, z.grows))) (z.ring j h)

run_cut : (is : List ℕ) (w : List ℕ) → (j : ℕ) → j < recs (view w) → view (run_of w is) (rc CUT) j ≡ view w (rc CUT) j
run_cut [] w j h = refl
run_cut (i ∷ is) w j h =
    let z : Shrinks (view w) (view (step_of w i).words) = shrinks w i in
    run_cut is (step_of w i).words j (omega (arith, h, z.grows)) ∙ z.cut_kept j h

-- the start of a record that is there, and of one that is not
start_here : (is : List ℕ) (w : List ℕ) (j : ℕ) → j < recs (view w) → start_box w is j ≡ ring_box (view w) j
start_here [] w j h = refl
start_here (i ∷ is) w j h = ap (λ (b : Bool). cond b (ring_box (view w) j) (start_box (step_of w i).words is j)) (lt-ltb j (recs (view w)) h)

start_later : (i : ℕ) (is : List ℕ) (w : List ℕ) (j : ℕ) → recs (view w) ≤ j → start_box w (i ∷ is) j ≡ start_box (step_of w i).words is j
start_later i is w j h = ap (λ (b : Bool). cond b (ring_box (view w) j) (start_box (step_of w i).words is j)) (le-ltb j (recs (view w)) h)

low : (j n : ℕ) → (j < n) ⊎ (n ≤ j)
low j n = go (dec_lt j n)
  where
    go : Dec (j < n) → (j < n) ⊎ (n ≤ j)
    go (yes h) = inl h
    go (no h) = inr (omega arith)

ring_kept : (is : List ℕ) (w : List ℕ) → (j : ℕ) → j < recs (view (run_of w is)) → BoxWithin (ring_box (view (run_of w is)) j) (start_box w is j)
ring_kept [] w j h = within_self (ring_box (view w) j)
ring_kept (i ∷ is) w j h = go (ring_kept is (step_of w i).words j h) (low j (recs (view w)))
  where
    go : BoxWithin (ring_box (view (run_of w (i ∷ is))) j) (start_box (step_of w i).words is j) → (j < recs (view w)) ⊎ (recs (view w) ≤ j) → BoxWithin (ring_box (view (run_of w (i ∷ is))) j) (start_box w (i ∷ is) j)
    go x (inl l) = subst (BoxWithin (ring_box (view (run_of w (i ∷ is))) j)) (sym (start_here (i ∷ is) w j l)) (run_smaller (i ∷ is) w j l)
    go x (inr l) = subst (BoxWithin (ring_box (view (run_of w (i ∷ is))) j)) (sym (start_later i is w j l)) x

-- j is no record yet, and p is: an offcut of p starts within p's box now
offcut_later : (is : List ℕ) (w : List ℕ) → (j p : ℕ) → recs (view w) ≤ j → j < recs (view (run_of w is)) → p < recs (view w) → view (run_of w is) (rc CUT) j ≡ p
    → BoxWithin (start_box w is j) (ring_box (view w) p)
offcut_later [] w j p l h q e = absurd (omega arith)
offcut_later (i ∷ is) w j p l h q e = subst (λ (b : Option Rect). BoxWithin b (ring_box (view w) p)) (sym (start_later i is w j l)) (go (offcut_later is (step_of w i).words j p) (low j (recs (view (step_of w i).words))))
  where
    w' : List ℕ
    w' = (step_of w i).words

    z : Shrinks (view w) (view w')
    z = shrinks w i

    go : (recs (view w') ≤ j → j < recs (view (run_of w' is)) → p < recs (view w') → view (run_of w' is) (rc CUT) j ≡ p → BoxWithin (start_box w' is j) (ring_box (view w') p))
        → (j < recs (view w')) ⊎ (recs (view w') ≤ j) → BoxWithin (start_box w' is j) (ring_box (view w) p)
    go x (inl m) = new (omega (arith, l, m, z.by_one))
      where
        new : j ≡ recs (view w) → BoxWithin (start_box w' is j) (ring_box (view w) p)
        new g =
            let c = z.new (omega (arith, l, m)) in
            let word : view w' (rc CUT) j ≡ c.from = ap (view w' (rc CUT)) g ∙ c.word in
            let from : c.from ≡ p = sym word ∙ sym (run_cut is w' j m) ∙ e in
            subst (λ (b : Option Rect). BoxWithin b (ring_box (view w) p)) (sym (start_here is w' j m ∙ ap (ring_box (view w')) g)) (subst (λ (n : ℕ). BoxWithin (ring_box (view w') (recs (view w))) (ring_box (view w) n)) from c.within)
    go x (inr m) = within_then (start_box w' is j) (ring_box (view w') p) (ring_box (view w) p) (x m h (omega (arith, q, z.grows)) e) (z.ring p q)

-- a record that was cut from another comes after it
after_own : (is : List ℕ) (w : List ℕ) → (j p : ℕ) → recs (view w) ≤ j → j < recs (view (run_of w is)) → view (run_of w is) (rc CUT) j ≡ p → p < j
after_own [] w j p l h e = absurd (omega arith)
after_own (i ∷ is) w j p l h e = go (after_own is (step_of w i).words j p) (low j (recs (view (step_of w i).words)))
  where
    w' : List ℕ
    w' = (step_of w i).words

    z : Shrinks (view w) (view w')
    z = shrinks w i

    go : (recs (view w') ≤ j → j < recs (view (run_of w' is)) → view (run_of w' is) (rc CUT) j ≡ p → p < j) → (j < recs (view w')) ⊎ (recs (view w') ≤ j) → p < j
    go x (inl m) =
        let g : j ≡ recs (view w) = omega (arith, l, m, z.by_one) in
        let c = z.new (omega (arith, l, m)) in
        let word : view w' (rc CUT) j ≡ c.from = ap (view w' (rc CUT)) g ∙ c.word in
        let from : c.from ≡ p = sym word ∙ sym (run_cut is w' j m) ∙ e in
        omega (arith, c.before, from, g)
    go x (inr m) = x m h e

offcut_kept : (is : List ℕ) (w : List ℕ) → (j p : ℕ) → recs (view w) ≤ j → j < recs (view (run_of w is)) → view (run_of w is) (rc CUT) j ≡ p
    → BoxWithin (start_box w is j) (start_box w is p)
offcut_kept [] w j p l h e = absurd (omega arith)
offcut_kept (i ∷ is) w j p l h e = go (offcut_kept is (step_of w i).words j p) (low p (recs (view w)))
  where
    w' : List ℕ
    w' = (step_of w i).words

    go : (recs (view w') ≤ j → j < recs (view (run_of w' is)) → view (run_of w' is) (rc CUT) j ≡ p → BoxWithin (start_box w' is j) (start_box w' is p)) → (p < recs (view w)) ⊎ (recs (view w) ≤ p) → BoxWithin (start_box w (i ∷ is) j) (start_box w (i ∷ is) p)
    go x (inl q) = subst (BoxWithin (start_box w (i ∷ is) j)) (sym (start_here (i ∷ is) w p q)) (offcut_later (i ∷ is) w j p l h q e)
    go x (inr q) = subst (BoxWithin (start_box w (i ∷ is) j)) (sym (start_later i is w p q)) (subst (λ (b : Option Rect). BoxWithin b (start_box w' is p)) (sym (start_later i is w j l))
        (x (omega (arith, q, (shrinks w i).by_one, after_own (i ∷ is) w j p l h e)) h e))

-- ---- from opening on
module _ (w : List ℕ) (o : Start w) where
  module _ (is : List ℕ) where
    few : recs (store_at w is) ≤ limit.RECORDS
    few = run_few is w o.sound.few_records

    -- at opening nothing is an offcut
    later : (j p : ℕ) → p < recs (store_at w is) → store_at w is (rc CUT) j ≡ p → recs (view w) ≤ j
    later j p h e = go (low j (recs (view w)))
      where
        go : (j < recs (view w)) ⊎ (recs (view w) ≤ j) → recs (view w) ≤ j
        go (inl l) = absurd (omega (arith, h, few, sym e ∙ run_cut is w j l ∙ (o.fresh j l).cut_is))
        go (inr l) = l

    offcut : (j p : ℕ) → j < recs (store_at w is) → p < recs (store_at w is) → store_at w is (rc CUT) j ≡ p → BoxWithin (start_box w is j) (start_box w is p)
    offcut j p h q e = offcut_kept is w j p (later j p q e) h e

    known : (j p : ℕ) → Descends (store_at w is) j p → j < recs (store_at w is)
    known j p (itself i h) = h
    known j p (is_cut_from i q r h e d) = h

    from_start : (j p : ℕ) → Descends (store_at w is) j p → BoxWithin (start_box w is j) (start_box w is p)
    from_start j p (itself i h) = within_self (start_box w is j)
    from_start j p (is_cut_from i q r h e d) = within_then (start_box w is j) (start_box w is q) (start_box w is p) (offcut j q h (known q p d) e) (from_start q p d)

    boxes_kept : BoxesKept w is
    boxes_kept =
        record {
          ring = ring_kept is w;
          offcut = offcut;
          descendants = λ j p d. within_then (ring_box (store_at w is) j) (start_box w is j) (start_box w is p) (ring_kept is w j (known j p d)) (from_start j p d);
          smaller = λ js j h. subst (λ (v : List ℕ). BoxWithin (ring_box (view v) j) (ring_box (store_at w is) j)) (sym (run_both is js w)) (run_smaller js (run_of w is) j h);
        }

  pub confined : Confined w
  confined = boxes_kept

-- of every job that opening accepts
pub of_job : (bytes lent w : List ℕ) → open_of bytes lent ≡ end (Ok tt) w → Confined w
of_job bytes lent w e = confined w (opening_left bytes lent w e)
