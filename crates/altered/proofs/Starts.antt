-- Starts that are points in use, or numbers that no point will have, stay so under every step; so the store stays in step with the forest under every list.
use Prim.Native.Nat.{ℕ, ◌≤◌, ◌<◌}
use mathlib.Core.Path.{◌≡◌, refl, ap}
use mathlib.Core.Logic.{◌⊎◌, inl, inr}
use mathlib.Core.List.{List, [], ◌∷◌}
use native.Mathlib.Omega.{arith}
use Rattle.rings.specs.Progress.{Ring}
use Rattle.lone.proofs.Acting.{count, takes_is}
use Rattle.lone.specs.Forest.{Answer, ok, full, out_of_turn, Forest, run_forest, step_forest}
use Rattle.lone.specs.Lone.{Geo}
use Rattle.lone.specs.Order.{machine}
use Rattle.lone.specs.Act.{takes_points}
use Rattle.store.specs.Field.{rc, START}
use Rattle.store.specs.Sound.{pts}
use Rattle.store.specs.Good.{Sound}
use Rattle.store.specs.Words.{Store}
use Rattle.acts.proofs.Representing.{SameStart, ActDone, start_left}
use Rattle.acts.proofs.Stepping.{Able, able, step_acts, step_is}
use Rattle.acts.specs.Apply.{Coding}
use Rattle.acts.specs.Codes.{after}
use Rattle.acts.specs.InStep.{InStep, Elsewhere}
use Rattle.acts.specs.Laws.{Laws}
use Rattle.acts.specs.Step.{act_at, answer_s}
use Rattle.acts.specs.Run.{step_answered, step_s, run_s}
use Rattle.altered.specs.OwnForest.{Settled}

module _ {P : Type 0} (G : Geo P) (f : Coding P) (Λ : Laws G f) where
  -- a point that is put in takes a number that no settled start is
  pub elsewhere : (s : Store) → Settled s → (i : ℕ) → Elsewhere G f s i
  elsewhere s h i e v n z = go (h i a.closed.known)
    where
      a : Able G f s i
      a = able G f s i e

      one : 1 ≤ takes_points (act_at G f s i)
      one = omega (arith, takes_is (act_at G f s i), ap count n)

      go : (s (rc START) i < pts s) ⊎ (2048 ≤ s (rc START) i) → ⊥
      go (inl l) = omega arith
      go (inr l) = omega (arith, a.fits, one)

  module _ (s : Store) (o : Sound s) (h : Settled s) (i : ℕ) where
    carried : Able G f s i → Settled (after f s i (act_at G f s i))
    carried a j l = go (start_left t j l)
      where
        t : ActDone s (after f s i (act_at G f s i)) i (act_at G f s i)
        t = (step_acts G f s i Λ o a).stepped

        up : (x : ℕ) → (x < pts s) ⊎ (2048 ≤ x) → (x < pts (after f s i (act_at G f s i))) ⊎ (2048 ≤ x)
        up x (inl m) = inl (omega (arith, t.kept.points_up))
        up x (inr m) = inr m

        go : (after f s i (act_at G f s i) (rc START) j < pts (after f s i (act_at G f s i))) ⊎ SameStart s (after f s i (act_at G f s i)) j
            → (after f s i (act_at G f s i) (rc START) j < pts (after f s i (act_at G f s i))) ⊎ (2048 ≤ after f s i (act_at G f s i) (rc START) j)
        go (inl m) = inl m
        go (inr k) = rw k.same (up (s (rc START) j) (h j k.known))

    pub settled_step : Settled (step_s G f s i)
    unfolding step_s
    settled_step = by (answer_s G f s i) refl
      where
        by : (a : Answer) → answer_s G f s i ≡ a → Settled (step_answered G f s i a)
        by ok e = carried (able G f s i e)
        by full e = h
        by out_of_turn e = h

  -- every list of steps
  pub run_is : (is : List ℕ) (s : Store) (F : Forest (Ring P) (List P)) → InStep f.of s F → Settled s → InStep f.of (run_s G f s is) (run_forest (machine G) 2048 512 F is)
  run_is [] s F r h = r
  run_is (i ∷ is) s F r h = run_is is (step_s G f s i) (step_forest (machine G) 2048 512 F i) (step_is G f s F r i Λ (elsewhere s h i)) (settled_step s r.sound h i)
