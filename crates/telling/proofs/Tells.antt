-- What the needs of the code of telling come to.
use Prim.Native.Nat.{ℕ, zero, suc, ◌≤◌, ◌<◌}
use mathlib.Core.Path.{◌≡◌, refl, sym, ap, ◌∙◌}
use mathlib.Core.Logic.{◌≢◌}
use mathlib.Core.Bool.{Bool, true, false}
use mathlib.Core.List.{List}
use mathlib.Core.Option.{none}
use native.Mathlib.Omega.{arith}
use lib.ListN.{length}
use borrow.Author.Tests.{eq-eqb, ne_eqb, lt-ltb, le-ltb}
use Rattle.std.specs.Prelude.{Result, Ok, Err}
use Rattle.job.specs.declared.refusal.Refusal.{Refusal}
use Rattle.job.specs.declared.refusal.Refusal.TheVariants.{OutOfTurn}
use Rattle.store.specs.Field.{rc, FIRST, REASON, TAKER, NONE}
use Rattle.store.specs.Words.{Store, view}
use Rattle.store.specs.Reason.{JOINED, discard_of}
use Rattle.store.specs.Sound.{recs, is_open}
use Rattle.store.specs.Good.{SoundWords}
use Rattle.store.specs.Value.{reverse_solution}
use Rattle.handed.specs.Handed.{handed_of}
use Rattle.handed.proofs.Handing.{handed_sound}
use Rattle.steps.specs.Live.{any_live}
use Rattle.paths.specs.declared.NoPath.{NoPath}
use Rattle.paths.specs.declared.NoPath.TheVariants.{Short, Small}
use Rattle.paths.specs.Path.{path_end, paths_below}
use Rattle.telling.specs.declared.Reason.{Reason}
use Rattle.telling.specs.declared.Reason.TheVariants.{NoRing, Joined, SmallRing, RingFell, SmallArea, ShortPath, SmallPath, Written}
use Rattle.telling.specs.Telling.{kept_reason, end_reason, path_reason, reason_at, reason_by, reason_of}

-- ---- what is kept

module _ (x y v : ℕ) (h : v ≡ x) where
  pub kept_joined : (t : ℕ) → t ≡ y → v ≡ JOINED → Joined t ≡ kept_reason x y
  unfolding kept_reason
  kept_joined t k e = rw (eq-eqb x JOINED (sym h ∙ e)) (ap Joined k)

  pub kept_small : v ≡ 3 → SmallRing ≡ kept_reason x y
  unfolding kept_reason
  kept_small e = rw (sym h ∙ e)

  pub kept_fell : v ≡ 4 → RingFell ≡ kept_reason x y
  unfolding kept_reason
  kept_fell e = rw (sym h ∙ e)

  pub kept_area : v ≡ 5 → SmallArea ≡ kept_reason x y
  unfolding kept_reason
  kept_area e = rw (sym h ∙ e)

  pub kept_none : v ≢ JOINED → v ≢ 3 → v ≢ 4 → v ≢ 5 → NoRing ≡ kept_reason x y
  unfolding kept_reason
  kept_none d a b c = rw (← h, ne_eqb v JOINED d, no_rule v a b c)
    where
      no_rule : (v : ℕ) → v ≢ 3 → v ≢ 4 → v ≢ 5 → discard_of v ≡ none
      no_rule zero a b c = refl
      no_rule (suc zero) a b c = refl
      no_rule (suc (suc zero)) a b c = refl
      no_rule (suc (suc (suc zero))) a b c = absurd (a refl)
      no_rule (suc (suc (suc (suc zero)))) a b c = absurd (b refl)
      no_rule (suc (suc (suc (suc (suc zero))))) a b c = absurd (c refl)
      no_rule (suc (suc (suc (suc (suc (suc n)))))) a b c = refl

-- ---- the path

module _ (s : Store) (rev o : Bool) (i n : ℕ) (e : Result ℕ NoPath) (a : rev ≡ reverse_solution s) (b : o ≡ is_open s i) (c : e ≡ path_end s rev o i) (d : n ≡ length (paths_below i o s)) where
  by_end : end_reason o n e ≡ path_reason s i
  unfolding path_reason
  by_end = rw (d, c, a, b)

  pub end_short : (x : NoPath) → e ≡ Err x → x ≡ Short → ShortPath ≡ path_reason s i
  end_short x f g = sym (ap (end_reason o n) (f ∙ ap Err g)) ∙ by_end

  pub end_small : (x : NoPath) → e ≡ Err x → x ≡ Small → SmallPath ≡ path_reason s i
  end_small x f g = sym (ap (end_reason o n) (f ∙ ap Err g)) ∙ by_end

  pub end_written : (k : ℕ) → e ≡ Ok k → Written o n ≡ path_reason s i
  end_written k f = sym (ap (end_reason o n) f) ∙ by_end

-- ---- the record

module _ (s : Store) (i f : ℕ) (r : Reason) (e : f ≡ s (rc FIRST) i) where
  pub without : f ≡ NONE → r ≡ kept_reason (s (rc REASON) i) (s (rc TAKER) i) → r ≡ reason_at s i
  unfolding reason_at
  without h g = rw (eq-eqb (s (rc FIRST) i) NONE (sym e ∙ h)) g

  pub with_ring : f ≢ NONE → r ≡ path_reason s i → r ≡ reason_at s i
  unfolding reason_at
  with_ring h g = rw (ne_eqb (s (rc FIRST) i) NONE (λ z. h (e ∙ z))) g

-- ---- the call

module _ (w : List ℕ) (i : ℕ) where
  module _ (n : ℕ) (e : n ≡ recs (view w)) where
    pub unknown : n ≤ i → Err OutOfTurn ≡ reason_by (Ok tt) w i
    unknown l = rw (le-ltb i (recs (view w)) (omega arith))

    module _ (l : i < n) (b : Bool) (g : b ≡ any_live (view w)) where
      pub early : b ≡ true → Err OutOfTurn ≡ reason_by (Ok tt) w i
      early h = rw (lt-ltb i (recs (view w)) (omega arith), sym g ∙ h)

      pub told : b ≡ false → (r : Reason) → r ≡ reason_at (view w) i → Ok r ≡ reason_by (Ok tt) w i
      told h r k = rw (lt-ltb i (recs (view w)) (omega arith), sym g ∙ h) (ap Ok k)

  module _ (v : Result (Unit {0}) Refusal) (e : v ≡ handed_of w) where
    pub sound : v ≡ Ok tt → SoundWords w
    sound p = handed_sound w (sym e ∙ p)

    by_tests : reason_by v w i ≡ reason_of w i
    unfolding reason_of
    by_tests = ap (λ (u : Result (Unit {0}) Refusal). reason_by u w i) e

    pub refused : (x : Refusal) → v ≡ Err x → Err x ≡ reason_of w i
    refused x p = sym (ap (λ (u : Result (Unit {0}) Refusal). reason_by u w i) p) ∙ by_tests

    pub passed : (r : Result Reason Refusal) → v ≡ (Ok tt) → r ≡ reason_by (Ok tt) w i → r ≡ reason_of w i
    passed r p h = h ∙ sym (ap (λ (u : Result (Unit {0}) Refusal). reason_by u w i) p) ∙ by_tests
