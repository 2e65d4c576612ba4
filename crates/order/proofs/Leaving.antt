-- Finishing in one call leaves the names free and the words behind them as found: opening does, and a step leaves every word behind the live block.
use Prim.Native.Nat.{ℕ, zero, suc, ◌≤◌}
use mathlib.Core.Path.{◌≡◌, refl, ◌∙◌, sym, subst}
use mathlib.Core.List.{List, ◌++◌}
use native.Mathlib.Omega.{arith}
use lib.ListN.{length, drop, replicate}
use Rattle.std.proofs.Common.{Ok, Err}
use Rattle.job.specs.Limits.{POINTS, RECORDS}
use Rattle.job.specs.declared.refusal.Refusal.{Refusal}
use Rattle.lone.specs.Lone.{Geo}
use Rattle.lone.specs.Forest.{Answer, ok, full, out_of_turn}
use Rattle.lone.specs.Rounds.{enough}
use Rattle.store.specs.Field.{BLOCK, STATES, KEPT}
use Rattle.store.specs.Good.{Sound}
use Rattle.store.specs.Value.{preserve_collinear}
use Rattle.store.specs.Words.{view}
use Rattle.store.specs.Boxes.{all_boxed}
use Rattle.bounds.proofs.Beside.{view_all, length_all, behind_all}
use Rattle.acts.specs.Apply.{Coding}
use Rattle.acts.specs.Finish.{RingsEnd, rings_done, rings_full, and_then, steps_by_w, finish_record, finish_from_w, finish_w}
use Rattle.acts.specs.Laws.{Laws}
use Rattle.acts.specs.Step.{Outcome, outcome, answer_s, step_w}
use Rattle.acts.proofs.Finishing.{words_of}
use Rattle.acts.proofs.Stepping.{length_step, step_w_sound}
use Rattle.std.specs.Prelude.{Result}
use Rattle.paths.specs.Wrote.{ok_paths}
use Rattle.paths.specs.declared.Written.{Written}
use Rattle.paths.specs.Wrote.{build_paths64}
use Rattle.turns.specs.Form.{raised, geometry_of}
use Rattle.turns.proofs.Ready.{laws}
use Rattle.opening.specs.Open.{End, end, open_of}
use Rattle.opening.proofs.Accepted.{after_opening_lem}
use Rattle.opening.proofs.Behind.{open_rest}
use Rattle.finishing.specs.Finish.{then_boxed, finish_rings}
use Rattle.finishing.specs.InOneCall.{after_writing, after_steps, after_opening, finish_of}
use Rattle.finishing.proofs.Blocks.{step_behind}

-- a sound work space whose words behind the live block are `rest`
record Clean (rest w : List ℕ) : Type 0 where
  long : BLOCK ≤ length w
  sound : Sound (view w)
  behind : drop BLOCK w ≡ rest

-- ---- the steps of finishing

abbrev EndClean : List ℕ → RingsEnd → Type 0
EndClean rest (rings_done w) = Clean rest w
EndClean rest (rings_full w) = Clean rest w

module _ {P : Type 0} (G : Geo P) (f : Coding P) (Λ : Laws G f) (rest : List ℕ) where
  step_clean : (w : List ℕ) (i : ℕ) → Clean rest w → Clean rest (step_w G f w i)
  step_clean w i c = record { long = omega (arith, length_step G f w i, c.long); sound = step_w_sound G f Λ w i c.long c.sound; behind = step_behind G f Λ w c.long c.sound i ∙ c.behind }

  steps_clean : (n : ℕ) (a : Answer) (w : List ℕ) (i : ℕ) → Clean rest w → Clean rest (words_of (steps_by_w G f n a w i))
  steps_clean zero a w i c = c
  steps_clean (suc n) ok w i c = steps_clean n (answer_s G f (view (step_w G f w i)) i) (step_w G f w i) i (step_clean w i c)
  steps_clean (suc n) full w i c = c
  steps_clean (suc n) out_of_turn w i c = c

  record_clean : (w : List ℕ) (i : ℕ) → Clean rest w → Clean rest (words_of (finish_record G f w i))
  unfolding finish_record
  record_clean w i c = steps_clean (enough POINTS) (answer_s G f (view w) i) w i c

  from_clean : (m : ℕ) (w : List ℕ) (i : ℕ) → Clean rest w → EndClean rest (finish_from_w G f m w i)
  from_clean zero w i c = c
  from_clean (suc m) w i c = go (finish_record G f w i) (record_clean w i c) (λ x d. from_clean m x (suc i) d)
    where
      go : (o : Outcome) → Clean rest (words_of o) → ((x : List ℕ) → Clean rest x → EndClean rest (finish_from_w G f m x (suc i))) → EndClean rest (and_then o (λ (x : List ℕ). finish_from_w G f m x (suc i)))
      go (outcome ok x) d r = r x d
      go (outcome full x) d r = d
      go (outcome out_of_turn x) d r = r x d

-- and the boxes
all_clean : (rest w : List ℕ) → Clean rest w → Clean rest (all_boxed w)
all_clean rest w c =
    record { long = omega (arith, c.long, length_all w); sound = subst Sound (sym (view_all w)) c.sound; behind = behind_all w c.long c.sound.few_records ∙ c.behind }

boxed_clean : (rest : List ℕ) (T : RingsEnd) → EndClean rest T → EndClean rest (then_boxed T)
boxed_clean rest (rings_done w) c = all_clean rest w c
boxed_clean rest (rings_full w) c = all_clean rest w c

rings_clean : (rest w : List ℕ) → Clean rest w → EndClean rest (finish_rings w)
unfolding finish_rings finish_w
rings_clean rest w c = boxed_clean rest (finish_w (geometry_of (view w)) raised w) (from_clean (geometry_of (view w)) raised (laws (preserve_collinear (view w))) rest RECORDS w 0 c)

-- ---- writing out, and the whole

module _ (c o : ℕ) where
  never : {A : Type 0} (x : Refusal) → Err x ≡ ok_paths c o → A
  never x e = absurd (let z : ◌≡◌ {A = ℕ} 0 1 = cc in omega arith)

  by_writing : (rest w : List ℕ) → Clean rest w → (a : Result Written Refusal) (t : List ℕ) → (after_writing w a t).answer ≡ ok_paths c o → drop BLOCK (after_writing w a t).words ≡ rest
  by_writing rest w k (Ok p) t e = k.behind
  by_writing rest w k (Err x) t e = never x e

  by_steps : (rest : List ℕ) (T : RingsEnd) → EndClean rest T → (t : List ℕ) → (after_steps T t).answer ≡ ok_paths c o → drop BLOCK (after_steps T t).words ≡ rest
  by_steps rest (rings_done w) k t e = by_writing rest w k (build_paths64 (view w) t).answer (build_paths64 (view w) t).tray e
  by_steps rest (rings_full w) k t e = never _ e

-- THE LAW
pub finish_rest : (bytes lent t : List ℕ) (c o : ℕ) → (finish_of bytes lent t).answer ≡ ok_paths c o → drop BLOCK (finish_of bytes lent t).words ≡ replicate STATES 0 ++ drop KEPT lent
unfolding finish_of
finish_rest bytes lent t c o e = go (open_of bytes lent) refl e
  where
    go : (T : End) → open_of bytes lent ≡ T → (after_opening T t).answer ≡ ok_paths c o → drop BLOCK (after_opening T t).words ≡ replicate STATES 0 ++ drop KEPT lent
    go (end (Ok _) w) f h =
        let a = after_opening_lem w bytes lent f in
        by_steps c o (drop BLOCK w) (finish_rings w) (rings_clean (drop BLOCK w) w (record { long = a.ready.long; sound = a.sound; behind = refl })) t h ∙ open_rest bytes lent w f
    go (end (Err x) w) f h = never c o x h
