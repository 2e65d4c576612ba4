-- Level runs are level and maximal: the walk that a test ends, seen point by point.
use Prim.Native.Nat.{ℕ, zero, suc, ◌≤◌, ◌<◌}
use mathlib.Core.Path.{◌≡◌, refl, ap, ◌∙◌, sym}
use mathlib.Core.Logic.{◌≢◌, ◌⊎◌, inl, inr}
use mathlib.Core.Bool.{Bool, true, false, ◌||◌, not}
use mathlib.Core.List.{List}
use native.Mathlib.Omega.{arith}
use lib.Dec.{eqb, ltb}
use borrow.Author.Tests.{eq-eqb, lt-ltb, eqb-true, eqb-false, ltb-true, ltb-false}
use Rattle.job.specs.Limits as limit
use Rattle.store.specs.Named.{next_of, first_of}
use Rattle.segments.specs.Level.{x_of, y_of, along_of, until, at_wall, at_stop, at_limit, wall_run, stop_run, limit_run}
use Rattle.segments.specs.Needs.{Together, Bounded, Home}
use Rattle.segments.specs.Update.{walled_ends, free_ends, ends_of}
use Rattle.segments.specs.LevelRun.{moved, AtWall, AtStop, AtLimit, RunTo, LevelRun}
use Rattle.segments.proofs.Running.{Due, due_at, due_before, along_lives, steps, wall_on, wall_back, stop_on}

-- ---- a walk that a test ends

moved_on : (g : ℕ → ℕ) (k p : ℕ) → moved k g (g p) ≡ g (moved k g p)
moved_on g zero p = refl
moved_on g (suc k) p = ap g (moved_on g k p)

module _ (t : ℕ → Bool) (g : ℕ → ℕ) where
  -- the test holds at the end, and at no point before
  record Came (f p d : ℕ) : Type 0 where
    many : ℕ
    short : many ≤ d
    to : moved many g p ≡ until f t g p
    before : (k : ℕ) → k < many → t (moved k g p) ≡ false
    at : t (until f t g p) ≡ true

  stopped : (f p d : ℕ) → t p ≡ true → Came (suc f) p d
  unfolding until
  stopped f p d e = record { many = 0; short = omega arith; to = rw e; before = λ k h. absurd (omega arith); at = rw (e, e) }

  further : (f p d : ℕ) → t p ≡ false → Came f (g p) d → Came (suc f) p (suc d)
  unfolding until
  further f p d e c =
      record {
        many = suc c.many;
        short = omega (arith, c.short);
        to = sym (moved_on g c.many p) ∙ rw e c.to;
        before = before;
        at = rw e c.at;
      }
    where
      before : (k : ℕ) → k < suc c.many → t (moved k g p) ≡ false
      before zero h = e
      before (suc k) h = ap t (sym (moved_on g k p)) ∙ c.before k (omega arith)

  came : (f p d : ℕ) → Due t g p d → d < f → Came f p d
  came zero p d u h = absurd (omega arith)
  came (suc f) p zero u h = stopped f p zero u
  came (suc f) p (suc d) (inl u) h = stopped f p (suc d) u
  came (suc f) p (suc d) (inr u) h = by (t p) refl (came f (g p) d u (omega arith))
    where
      by : (b : Bool) → t p ≡ b → Came f (g p) d → Came (suc f) p (suc d)
      by true e c = stopped f p (suc d) e
      by false e c = further f p d e c

-- ---- the tests

or_false : (a b : Bool) → (a || not b) ≡ false → (a ≡ false) × (b ≡ true)
or_false true b e = absurd (let z : ◌≡◌ {A = ℕ} 0 1 = cc in omega arith)
or_false false true e = (refl, refl)
or_false false false e = absurd (let z : ◌≡◌ {A = ℕ} 0 1 = cc in omega arith)

or_true : (a b : Bool) → (a || not b) ≡ true → (a ≡ true) ⊎ (b ≡ false)
or_true true b e = inl refl
or_true false true e = absurd (let z : ◌≡◌ {A = ℕ} 0 1 = cc in omega arith)
or_true false false e = inr refl

module _ (w : List ℕ) (on : Bool) (y : ℕ) (Ends : ℕ → Type 0) (e t : ℕ → Bool) (is : (x : ℕ) → t x ≡ (e x || not (eqb (y_of w (along_of w on x)) y)))
    (yes : (x : ℕ) → e x ≡ true → Ends x) (none : (x : ℕ) → e x ≡ false → Ends x → ⊥) where
  run : (p d : ℕ) → Due t (along_of w on) p d → d < limit.POINTS → RunTo w on y Ends p (until limit.POINTS t (along_of w on) p)
  run p d u h =
      let c = came t (along_of w on) limit.POINTS p d u h in
      record {
        many = c.many;
        few = omega (arith, c.short);
        to = c.to;
        level = λ k l. eqb-true _ _ (on_way (moved k (along_of w on) p) (c.before k l)).1;
        free = λ k l. none (moved k (along_of w on) p) (on_way (moved k (along_of w on) p) (c.before k l)).0;
        maximal = ended (until limit.POINTS t (along_of w on) p) c.at;
      }
    where
      on_way : (x : ℕ) → t x ≡ false → (e x ≡ false) × (eqb (y_of w (along_of w on x)) y ≡ true)
      on_way x f = or_false (e x) (eqb (y_of w (along_of w on x)) y) (sym (is x) ∙ f)

      ended : (x : ℕ) → t x ≡ true → Ends x ⊎ (y_of w (along_of w on x) ≢ y)
      ended x f = by (or_true (e x) (eqb (y_of w (along_of w on x)) y) (sym (is x) ∙ f))
        where
          by : (e x ≡ true) ⊎ (eqb (y_of w (along_of w on x)) y ≡ false) → Ends x ⊎ (y_of w (along_of w on x) ≢ y)
          by (inl z) = inl (yes x z)
          by (inr z) = inr (eqb-false _ _ z)

-- ---- the three walks

pub wall_level : (w : List ℕ) (on : Bool) (wall y p : ℕ) → Together w p wall → RunTo w on y (AtWall wall) p (wall_run w on wall y p)
unfolding wall_run at_wall
wall_level w on wall y p s =
    let z = steps w s.ready on s.at p wall s.one s.two in
    run w on y (AtWall wall) (λ x. eqb x wall) (at_wall w on wall y) (λ x. refl) (λ x. eqb-true x wall) (λ x. eqb-false x wall) p z.many
    (due_at (at_wall w on wall y) (along_of w on) wall (rw (eq-eqb wall wall refl)) p z.many z.first) z.few

pub stop_level : (w : List ℕ) (on : Bool) (stop y p : ℕ) → Together w p stop → RunTo w on y (AtStop w on stop) p (stop_run w on stop y p)
unfolding stop_run at_stop
stop_level w on stop y p s =
    let z = steps w s.ready on s.at (along_of w on p) stop (along_lives w s.ready on s.at p s.one) s.two in
    run w on y (AtStop w on stop) (λ x. eqb (along_of w on x) stop) (at_stop w on stop y) (λ x. refl) (λ x. eqb-true (along_of w on x) stop) (λ x. eqb-false (along_of w on x) stop) p z.many
    (due_before (at_stop w on stop y) (along_of w on) stop (λ x e. rw (eq-eqb (along_of w on x) stop e)) p z.many z.first) z.few

pub limit_level : (w : List ℕ) (on : Bool) (far y p : ℕ) → Bounded w p far → RunTo w on y (AtLimit w on far) p (limit_run w on far y p)
unfolding limit_run at_limit
limit_level w on far y p b =
    let s = b.same in
    let z = steps w s.ready on s.at (along_of w on p) b.right (along_lives w s.ready on s.at p s.one) s.two in
    run w on y (AtLimit w on far) (λ x. ltb far (x_of w (along_of w on x))) (at_limit w on far y) (λ x. refl) (λ x. ltb-true far (x_of w (along_of w on x))) (λ x f g. omega (arith, ltb-false far (x_of w (along_of w on x)) f)) p z.many
    (due_before (at_limit w on far y) (along_of w on) b.right (λ x e. rw (e, lt-ltb far (x_of w b.right) b.beyond)) p z.many z.first) z.few

-- ---- THE THEOREM: of every point of a ring, with a front edge and without

pub level_run : (w : List ℕ) (op i : ℕ) → Home w op i → LevelRun w op i
unfolding ends_of walled_ends free_ends
level_run w op i h =
    record {
      walled = λ e. rw e (wall_level w false (next_of w (first_of w i)) (y_of w op) op (wall_back w op i (first_of w i) (next_of w (first_of w i)) h refl refl), wall_level w true (first_of w i) (y_of w op) op (wall_on w op i (first_of w i) h refl));
      open_ended = λ e. rw e (stop_level w false op (y_of w op) op here, stop_level w true (stop_run w false op (y_of w op) op) (y_of w op) op (stop_on w op (y_of w op) (stop_run w false op (y_of w op) op) here refl));
    }
  where
    here : Together w op op
    here = record { ready = h.ready; at = i; one = h.here; two = h.here }
