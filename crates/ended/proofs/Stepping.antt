-- What becomes of a record while steps are made: a record that opening left without a ring keeps every word, whatever is stepped.
use mathlib.Core.Path.{◌≡◌, refl, sym, ap, ◌∙◌, subst}
use mathlib.Core.Logic.{◌≢◌}
use mathlib.Core.Bool.{true, false, true≢false}
use mathlib.Core.List.{List, [], ◌∷◌}
use Prim.Native.Nat.{ℕ, ◌%◌, ◌<◌}
use native.Mathlib.Omega.{arith}
use lib.Dec.{eqb}
use Rattle.rings.specs.Progress.{Ring}
use Rattle.geometry.specs.declared.Point.{Point}
use Rattle.lone.specs.Lone.{Geo}
use Rattle.lone.specs.Forest.{Answer, ok, full, out_of_turn, Forest, step_forest}
use Rattle.store.specs.Field.{RecordCol, rc, ct, FIRST, NONE, SETTINGS}
use Rattle.store.specs.Words.{Store, view}
use Rattle.store.specs.Sound.{recs, ringless}
use Rattle.store.specs.Good.{Sound}
use Rattle.acts.specs.Laws.{Laws}
use Rattle.acts.specs.Step.{answer_s}
use Rattle.acts.specs.Run.{step_answered, step_s}
use Rattle.acts.proofs.Stepping.{Able, able, step_acts}
use Rattle.turns.specs.Form.{raised}
use Rattle.turns.proofs.Ready.{laws}
use Rattle.finishing.specs.Step.{step_of}
use Rattle.finishing.specs.Run.{run_of}
use Rattle.finishing.specs.Start.{Start}
use Rattle.order.proofs.Following.{M, Follows, follows_step, view_of}
use Rattle.order.proofs.Theorem.{F₀, follows}

-- a record without a ring, every word of it
pub record StillBare (s s' : Store) (j : ℕ) : Type 0 where
  pub low : j < recs s'
  pub words : (f : RecordCol) → s' (rc f) j ≡ s (rc f) j

module _ (G : Geo Point) (Λ : Laws G raised) (s : Store) (o : Sound s) (i j : ℕ) (l : j < recs s) (e : ringless s j ≡ true) where
  bare_step : StillBare s (step_s G raised s i) j
  unfolding step_s
  bare_step = by (answer_s G raised s i) refl
    where
      by : (a : Answer) → answer_s G raised s i ≡ a → StillBare s (step_answered G raised s i a) j
      by ok q =
          let a : Able G raised s i = able G raised s i q in
          let d : j ≢ i = λ z. true≢false (sym e ∙ ap (ringless s) z ∙ a.closed.ringed) in
          let t = (step_acts G raised s i Λ o a).stepped in
          record { low = omega (arith, t.kept.records_up); words = λ f. t.kept.records f j l d }
      by full q = record { low = l; words = λ f. refl }
      by out_of_turn q = record { low = l; words = λ f. refl }

-- after any list of steps
bare_run : (k : ℕ) (is : List ℕ) (w : List ℕ) (F : Forest (Ring Point) (List Point)) → Follows k w F → (j : ℕ) → j < recs (view w) → ringless (view w) j ≡ true → StillBare (view w) (view (run_of w is)) j
bare_run k [] w F h j l e = record { low = l; words = λ f. refl }
bare_run k (i ∷ is) w F h j l e =
    let a : StillBare (view w) (view (step_of w i).words) j = subst (λ (s : Store). StillBare (view w) s j) (sym (view_of k w F h i)) (bare_step _ (laws (eqb (k % 2) 1)) (view w) h.rep.rep.in_step.sound i j l e) in
    let b = bare_run k is (step_of w i).words (step_forest (M k) 2048 512 F i) (follows_step k w F h i) j a.low (ap (λ (n : ℕ). eqb n NONE) (a.words FIRST) ∙ e) in
    record { low = b.low; words = λ f. b.words f ∙ a.words f }

-- of every work space as opening leaves it
pub bare_stays : (w : List ℕ) → Start w → (is : List ℕ) (j : ℕ) → j < recs (view w) → ringless (view w) j ≡ true → StillBare (view w) (view (run_of w is)) j
bare_stays w o is j l e = bare_run (view w (ct SETTINGS) 0) is w (F₀ w o) (follows w o []) j l e
