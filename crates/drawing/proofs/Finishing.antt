-- Finishing depends on the forest only; so two jobs that hold one drawing finish alike.
use Prim.Native.Nat.{ℕ, ◌%◌, ◌/◌}
use mathlib.Core.Path.{◌≡◌, refl, ap, ◌∙◌, sym, subst}
use mathlib.Core.Logic.{◌⊎◌, inl, inr}
use mathlib.Core.List.{List, []}
use lib.Dec.{eqb}
use lib.ListN.{length}
use Rattle.std.proofs.Common.{Ok, Err}
use Rattle.job.specs.declared.Job.{Job}
use Rattle.job.specs.declared.refusal.Refusal.TheVariants as refusal
use Rattle.lone.specs.Order.{AllDone}
use Rattle.lone.specs.Plane.{plane, lone_ring}
use Rattle.lone.specs.Writing.{closed_paths, open_paths}
use Rattle.store.specs.Named.{settings_of}
use Rattle.std.specs.Prelude.{Result}
use Rattle.job.specs.declared.refusal.Refusal.{Refusal}
use Rattle.paths.specs.declared.Written.{Written}
use Rattle.paths.specs.Wrote.{Wrote}
use Rattle.opening.specs.Open.{End, end, open_of}
use Rattle.finishing.specs.Write.{write_of}
use Rattle.finishing.specs.Run.{run_of}
use Rattle.finishing.specs.Start.{Start}
use Rattle.finishing.specs.InOneCall.{Finished, refused, after_writing, finish_of}
use Rattle.order.specs.Demand3.{Lone, in_tray, lones, AllDoneAfter, RingsFit, RingsNeverEnd}
use Rattle.order.proofs.Theorem.{F, lones_are, after_list, GoesThrough, where_fits}
use Rattle.order.proofs.Jobs.{left, boxes, goes_out, of_job}
use Rattle.drawing.specs.Renumbered.{RenumberedJob}
use Rattle.drawing.specs.Same.{SameFinish}
use Rattle.drawing.proofs.Forests.{SameForest}
use Rattle.drawing.proofs.Opening.{accepted_as, SameOpening, opening_alike}

-- ---- two opened work spaces with the same forest, after the same steps

module _ (w w' : List ℕ) (o : Start w) (o' : Start w') (f : SameForest w w') (is : List ℕ) where
  entries_same : (F w' o' is).entries ≡ (F w o is).entries
  entries_same = rw (f.settings, f.forest, f.as_many_points)

  lones_same : lones w' is ≡ lones w is
  lones_same = sym (lones_are w' o' is) ∙ entries_same ∙ lones_are w o is

  pub done_too : AllDoneAfter w is → AllDoneAfter w' is
  done_too d =
      subst (λ (l : List Lone). AllDone (lone_ring (eqb (settings_of w' % 2) 1)) l) (sym lones_same)
      (subst (λ (n : ℕ). AllDone (lone_ring (eqb (n % 2) 1)) (lones w is)) (sym f.settings) d)

  pub written_same : (t : List ℕ) → AllDoneAfter w is → write_of (run_of w' is) t ≡ write_of (run_of w is) t
  written_same t d =
      (after_list w' o' is).written_out t (done_too d)
      ∙ ap (λ (l : List Lone). out (settings_of w') l) lones_same
      ∙ ap (λ (n : ℕ). out n (lones w is)) f.settings
      ∙ sym ((after_list w o is).written_out t d)
    where
      out : ℕ → List Lone → Wrote
      out n l = in_tray (closed_paths (plane (eqb (n % 2) 1)) (eqb (n / 2 % 2) 1) l) (open_paths (plane (eqb (n % 2) 1)) (eqb (n / 2 % 2) 1) l) t

-- ---- finishing them

forest_back : (w w' : List ℕ) → SameForest w w' → SameForest w' w
forest_back w w' f = record { settings = sym f.settings; as_many_points = sym f.as_many_points; as_many_records = sym f.as_many_records; forest = sym f.forest }

out_alike : (v v' : List ℕ) (r : Result Written Refusal) (t : List ℕ) → SameFinish (after_writing v r t) (after_writing v' r t)
out_alike v v' (Ok p) t = record { answer = refl; tray = refl }
out_alike v v' (Err x) t = record { answer = refl; tray = refl }

same_from : (f f' g g' : Finished) → f ≡ g → f' ≡ g' → SameFinish g g' → SameFinish f f'
same_from f f' g g' e e' s = rw (e, e') s

module _ (bytes bytes' lent w w' : List ℕ) (e : open_of bytes lent ≡ end (Ok tt) w) (e' : open_of bytes' lent ≡ end (Ok tt) w') (f : SameForest w w') (t : List ℕ) where
  abbrev o : Start w
  o = left bytes lent w e

  abbrev o' : Start w'
  o' = left bytes' lent w' e'

  through : GoesThrough w o → GoesThrough w' o' → SameFinish (finish_of bytes lent t) (finish_of bytes' lent t)
  through g g' =
      let s : g'.steps ≡ g.steps = g'.always ∙ sym g.always in
      let q : write_of (run_of w' g'.steps) t ≡ write_of (run_of w g.steps) t = ap (λ (is : List ℕ). write_of (run_of w' is) t) s ∙ written_same w w' o o' f g.steps t g.all_done in
      same_from (finish_of bytes lent t) (finish_of bytes' lent t) (after_writing (run_of w g.steps) (write_of (run_of w g.steps) t).answer (write_of (run_of w g.steps) t).tray)
      (after_writing (run_of w' g'.steps) (write_of (run_of w g.steps) t).answer (write_of (run_of w g.steps) t).tray) (goes_out bytes lent w e g t)
      (goes_out bytes' lent w' e' g' t ∙ ap (λ (b : Wrote). after_writing (run_of w' g'.steps) b.answer b.tray) q)
      (out_alike (run_of w g.steps) (run_of w' g'.steps) (write_of (run_of w g.steps) t).answer (write_of (run_of w g.steps) t).tray)

  both : RingsFit w ⊎ RingsNeverEnd w → RingsFit w' ⊎ RingsNeverEnd w' → SameFinish (finish_of bytes lent t) (finish_of bytes' lent t)
  both (inl x) (inl y) = through (where_fits w o (boxes bytes lent w e) x) (where_fits w' o' (boxes bytes' lent w' e') y)
  both (inl x) (inr y) = let g = x.goes_on [] in absurd (y g.0 (done_too w w' o o' f g.0 g.1))
  both (inr x) (inl y) = let g = y.goes_on [] in absurd (x g.0 (done_too w' w o' o (forest_back w w' f) g.0 g.1))
  both (inr x) (inr y) =
      same_from (finish_of bytes lent t) (finish_of bytes' lent t) (refused refusal.Full (length w) (length t)) (refused refusal.Full (length w') (length t))
      ((of_job bytes lent w e).overflows x t) ((of_job bytes' lent w' e').overflows y t) (record { answer = refl; tray = refl })

  -- opened with the same forest, they finish alike
  pub forest_finish : SameFinish (finish_of bytes lent t) (finish_of bytes' lent t)
  forest_finish = both (of_job bytes lent w e).holds.either (of_job bytes' lent w' e').holds.either

-- ---- finishing two jobs that opened alike

module _ (bytes bytes' lent t : List ℕ) where
  pub opened_finish : (z z' : End) → open_of bytes lent ≡ z → open_of bytes' lent ≡ z' → SameOpening z z' → SameFinish (finish_of bytes lent t) (finish_of bytes' lent t)
  unfolding finish_of
  opened_finish (end (Ok _) w) (end (Ok _) w') e e' s = forest_finish bytes bytes' lent w w' e e' s t
  opened_finish (end (Ok _) w) (end (Err y) w') e e' s = absurd s
  opened_finish (end (Err x) w) (end (Ok _) w') e e' s = absurd s
  opened_finish (end (Err x) w) (end (Err y) w') e e' s = rw (e, e', s) (record { answer = refl; tray = refl })

  -- of two jobs that are one renumbered
  pub finishing_alike : {ρ : ℕ → ℕ} (j j' : Job) (w w' ss ss' js js' : List ℕ) → accepted_as bytes lent j w ss js → accepted_as bytes' lent j' w' ss' js' → RenumberedJob ρ j j' w w' ss ss' js js'
      → SameFinish (finish_of bytes lent t) (finish_of bytes' lent t)
  finishing_alike j j' w w' ss ss' js js' p p' d = opened_finish (open_of bytes lent) (open_of bytes' lent) refl refl (opening_alike bytes bytes' lent j j' w w' ss ss' js js' p p' d)
