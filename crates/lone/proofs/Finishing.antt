-- Finishing in one call is a list of steps, and it decides: either all are done after it, or no list of steps gets so far.
use mathlib.Core.Path.{◌≡◌, refl, sym, ◌∙◌, subst}
use mathlib.Core.Logic.{◌⊎◌, inl, inr, ◌≢◌}
use mathlib.Core.List.{List, [], ◌∷◌, ◌++◌}
use Prim.Native.Nat.{ℕ, zero, suc, ◌+◌, ◌≤◌, ◌<◌}
use native.Mathlib.Nat.{add-zero, add-suc, suc-add, not-suc-le-zero}
use native.Mathlib.Omega.{arith}
use native.Mathlib.Decide.{dec_lt}
use lib.ListN.{length, get_or-eq_default}
use Rattle.lone.specs.Forest.{Machine, ringless, Answer, ok, full, out_of_turn, Forest, at, answer, step_forest, run_forest}
use Rattle.lone.specs.Order.{NoneOrDone, AllDone, ForestFits, ForestNeverEnds}
use Rattle.lone.specs.Finish.{steps_by, steps_on, finish_from}
use Rattle.lone.proofs.Stepping.{at_closed, step_other, Accepted, Refused, view, exactly}
use Rattle.lone.proofs.Ending.{run_append, run_within, fits_of_end, never_of_full}

module _ {S X : Type 0} (M : Machine S) (lp lr : ℕ) where
  -- a list of steps with what it leaves
  pub record Runs (F E : Forest S X) : Type 0 where
    pub steps : List ℕ
    pub is : run_forest M lp lr F steps ≡ E

  steps_run : (f : ℕ) (F : Forest S X) (i : ℕ) (a : Answer) → answer M lp lr F i ≡ a → Runs F (steps_by M lp lr f a F i)
  steps_run zero F i a e = record { steps = []; is = refl }
  steps_run (suc f) F i ok e = let r : Runs (step_forest M lp lr F i) (steps_by M lp lr f (answer M lp lr (step_forest M lp lr F i) i) (step_forest M lp lr F i) i) = steps_run f (step_forest M lp lr F i) i _ refl in record { steps = i ∷ r.steps; is = r.is }
  steps_run (suc f) F i full e = record { steps = []; is = refl }
  steps_run (suc f) F i out_of_turn e = record { steps = []; is = refl }

  pub run_both : (F E D : Forest S X) → Runs F E → Runs E D → Runs F D
  run_both F E D r t = record { steps = r.steps ++ t.steps; is = run_append M lp lr r.steps t.steps F ∙ (rw r.is t.is) }

  -- what is kept by steps, and falls with every one that is carried out on record i
  module _ (Inv : Forest S X → Type 0) (left : Forest S X → ℕ → ℕ) (kept : (F : Forest S X) (i : ℕ) → Inv F → Inv (step_forest M lp lr F i))
      (falls : (F : Forest S X) (i : ℕ) → Inv F → answer M lp lr F i ≡ ok → left (step_forest M lp lr F i) i < left F i) where
    -- with more steps than are left, the last one is refused
    refused : (f : ℕ) (F : Forest S X) (i : ℕ) (a : Answer) → answer M lp lr F i ≡ a → Inv F → left F i < f → answer M lp lr (steps_by M lp lr f a F i) i ≢ ok
    refused zero F i a e v h k = not-suc-le-zero h
    refused (suc f) F i ok e v h k = refused f (step_forest M lp lr F i) i _ refl (kept F i v) (omega (arith, falls F i v e)) k
    refused (suc f) F i full e v h k = let z : ◌≡◌ {A = ℕ} 0 1 = cc in omega arith
    refused (suc f) F i out_of_turn e v h k = let z : ◌≡◌ {A = ℕ} 0 1 = cc in omega arith

    inv_steps : (f : ℕ) (F : Forest S X) (i : ℕ) (a : Answer) → Inv F → Inv (steps_by M lp lr f a F i)
    inv_steps zero F i a v = v
    inv_steps (suc f) F i ok v = inv_steps f (step_forest M lp lr F i) i _ (kept F i v)
    inv_steps (suc f) F i full v = v
    inv_steps (suc f) F i out_of_turn v = v

    -- a step on record i leaves the records below it
    step_below : (F : Forest S X) (i j : ℕ) → j < i → NoneOrDone M (at F.entries j) → NoneOrDone M (at (step_forest M lp lr F i).entries j)
    step_below F i j h d = go (view M lp lr F i)
      where
        go : Accepted M lp lr F i ⊎ Refused M lp lr F i → NoneOrDone M (at (step_forest M lp lr F i).entries j)
        go (inl y) = rw y.becomes (rw (step_other M F.entries i y.who y.state j (omega (arith, at_closed F.entries i y.here)) (λ e. omega arith)) d)
        go (inr z) = rw z.becomes d

    steps_below : (f : ℕ) (F : Forest S X) (i j : ℕ) (a : Answer) → j < i → NoneOrDone M (at F.entries j) → NoneOrDone M (at (steps_by M lp lr f a F i).entries j)
    steps_below zero F i j a h d = d
    steps_below (suc f) F i j ok h d = steps_below f (step_forest M lp lr F i) i j _ h (step_below F i j h d)
    steps_below (suc f) F i j full h d = d
    steps_below (suc f) F i j out_of_turn h d = d

    -- what a refused step says of its record
    refused_is : (F : Forest S X) (i : ℕ) → answer M lp lr F i ≢ ok → (answer M lp lr F i ≡ full) ⊎ NoneOrDone M (at F.entries i)
    unfolding answer
    refused_is F i h = go (answer M lp lr F i) refl
      where
        go : (a : Answer) → answer M lp lr F i ≡ a → (answer M lp lr F i ≡ full) ⊎ NoneOrDone M (at F.entries i)
        go ok e = absurd (h e)
        go full e = inl e
        go out_of_turn e = inr ((exactly M lp lr (at F.entries i) F.points (length F.entries)).twelve.0 e)

    module _ (f : ℕ) (bound : (F : Forest S X) (i : ℕ) → Inv F → left F i < f) (F₀ : Forest S X) (points : F₀.points ≤ lp) (records : length F₀.entries ≤ lr) where
      abbrev DoneBelow : ℕ → Forest S X → Type 0
      DoneBelow i F = (j : ℕ) → j < i → NoneOrDone M (at F.entries j)

      record Reached (i : ℕ) (F : Forest S X) : Type 0 where
        run : Runs F₀ F
        inv : Inv F
        below : DoneBelow i F

      -- record i's turn
      turn : (F : Forest S X) (i : ℕ) → Reached i F → Reached (suc i) (steps_on M lp lr f F i) ⊎ ForestNeverEnds M lp lr F₀
      unfolding steps_on
      turn F i r = go (refused_is E i (refused f F i (answer M lp lr F i) refl r.inv (bound F i r.inv)))
        where
          E : Forest S X
          E = steps_by M lp lr f (answer M lp lr F i) F i

          run_E : Runs F₀ E
          run_E = run_both F₀ F E r.run (steps_run f F i (answer M lp lr F i) refl)

          upto : NoneOrDone M (at E.entries i) → DoneBelow (suc i) E
          upto d j h = pick (dec_lt j i)
            where
              pick : Dec (j < i) → NoneOrDone M (at E.entries j)
              pick (yes l) = steps_below f F i j (answer M lp lr F i) l (r.below j l)
              pick (no l) = let e : i ≡ j = omega arith in subst (λ (k : ℕ). NoneOrDone M (at E.entries k)) e d

          go : (answer M lp lr E i ≡ full) ⊎ NoneOrDone M (at E.entries i) → Reached (suc i) E ⊎ ForestNeverEnds M lp lr F₀
          go (inl e) = inr (never_of_full M lp lr F₀ run_E.steps i points records (rw run_E.is e))
          go (inr d) = inl (record { run = run_E; inv = inv_steps f F i (answer M lp lr F i) r.inv; below = upto d })

      turns : (n : ℕ) (F : Forest S X) (i : ℕ) → Reached i F → Reached (i + n) (finish_from M lp lr f n F i) ⊎ ForestNeverEnds M lp lr F₀
      turns zero F i r = inl (rw (add-zero i) r)
      turns (suc n) F i r = go (turn F i r) (λ E q. turns n E (suc i) q)
        where
          go : Reached (suc i) (steps_on M lp lr f F i) ⊎ ForestNeverEnds M lp lr F₀ → ((E : Forest S X) → Reached (suc i) E → Reached (suc i + n) (finish_from M lp lr f n E (suc i)) ⊎ ForestNeverEnds M lp lr F₀)
              → Reached (i + suc n) (finish_from M lp lr f (suc n) F i) ⊎ ForestNeverEnds M lp lr F₀
          go (inl q) rec = rw (← (suc-add i n ∙ sym (add-suc i n))) (rec (steps_on M lp lr f F i) q)
          go (inr q) rec = inr q

      -- finishing ends in all done, and then no list has a full refusal and each can be carried on so far; or no list gets so far
      pub finish_decides : Inv F₀ → (AllDone M (finish_from M lp lr f lr F₀ 0).entries × ForestFits M lp lr F₀) ⊎ ForestNeverEnds M lp lr F₀
      finish_decides v = go (turns lr F₀ 0 (record { run = record { steps = []; is = refl }; inv = v; below = λ j h. absurd (not-suc-le-zero h) }))
        where
          E : Forest S X
          E = finish_from M lp lr f lr F₀ 0

          all : Reached (0 + lr) E → AllDone M E.entries
          all r i = pick (dec_lt i lr)
            where
              pick : Dec (i < lr) → NoneOrDone M (at E.entries i)
              pick (yes h) = r.below i (omega arith)
              pick (no h) = let w = run_within M lp lr r.run.steps F₀ points records in let l : length E.entries ≤ lr = (rw r.run.is at w.1) in rw (get_or-eq_default E.entries ringless {n = i} (omega arith)) tt

          go : Reached (0 + lr) E ⊎ ForestNeverEnds M lp lr F₀ → (AllDone M E.entries × ForestFits M lp lr F₀) ⊎ ForestNeverEnds M lp lr F₀
          go (inl r) = inl (all r, fits_of_end M lp lr F₀ r.run.steps points records (rw r.run.is (all r)))
          go (inr n) = inr n
