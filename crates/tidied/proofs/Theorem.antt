-- Request 6, of every work space as opening leaves it.
use Prim.Native.Nat.{ℕ}
use mathlib.Core.Path.{◌≡◌, refl, sym, ap, ◌∙◌, subst}
use mathlib.Core.Logic.{◌⊎◌, inl, inr}
use mathlib.Core.Bool.{Bool, true, false, true≢false}
use mathlib.Core.List.{List, [], ◌∷◌, ◌++◌}
use mathlib.Core.Option.{Option}
use native.Mathlib.Omega.{arith}
use Rattle.rings.specs.Progress.{Ring, triangle, at_start}
use Rattle.geometry.specs.declared.Point.{Point}
use Rattle.job.specs.Limits as limit
use Rattle.lone.specs.Forest.{State, initial, Entry, open_ring, closed_ring, Forest, at, steps_state}
use Rattle.lone.specs.Forest as forest
use Rattle.lone.specs.Plane.{plane, lone_ring}
use Rattle.lone.proofs.Stepping.{at_closed}
use Rattle.lone.proofs.Ending.{run_append}
use Rattle.lone.proofs.Coming.{stepped, Made, came}
use Rattle.store.specs.Words.{view}
use Rattle.store.specs.Sound.{ringless, due_at}
use Rattle.store.specs.Value.{ring_points, preserve_collinear}
use Rattle.finishing.specs.Run.{run_of}
use Rattle.finishing.specs.Start.{Start}
use Rattle.order.specs.Demand3.{Has, HasRing}
use Rattle.order.proofs.Theorem.{F₀, F, rings_are}
use Rattle.order.proofs.Beginning.{offcut_begins, count, opened_begins}
use Rattle.tidied.specs.Tidied.{Tidied, CameWith, opening_left, step_made, PassBehind, NothingLeft}
use Rattle.tidied.proofs.Pass.{tidied}

module _ (w : List ℕ) (o : Start w) where
  abbrev p : Bool
  p = preserve_collinear (view w)

  ring_of : (is : List ℕ) (j : ℕ) (q : Option ℕ) (L : State (Ring Point)) → at (F w o is).entries j ≡ closed_ring q L → HasRing (view (run_of w is)) j q L
  ring_of is j q L e = subst (Has (view (run_of w is)) j) e (rings_are w o is j (omega (arith, count w o is, at_closed (F w o is).entries j e)))

  -- ---- from a start on

  module _ (is before since : List ℕ) (j : ℕ) (q : Option ℕ) (c : List Point) (together : is ≡ before ++ since)
      (there : at (F w o before).entries j ≡ closed_ring q (initial (at_start c))) (due : due_at (view (run_of w is)) j ≡ triangle) where
    behind : CameWith w j before → PassBehind w is j
    behind came =
        let n = stepped (lone_ring p) limit.POINTS limit.RECORDS since (F w o before) j q (initial (at_start c)) there in
        let e : at (F w o is).entries j ≡ closed_ring q (steps_state (lone_ring p) n.0 (initial (at_start c))) = ap (λ (l : List ℕ). at (F w o l).entries j) together ∙ ap (λ (E : Forest (Ring Point) (List Point)). at E.entries j) (run_append (lone_ring p) limit.POINTS limit.RECORDS before since (F₀ w o)) ∙ n.1 in
        let then = ring_of before j q (initial (at_start c)) there in
        let now = ring_of is j q (steps_state (lone_ring p) n.0 (initial (at_start c))) e in
        record {
          before = before;
          since = since;
          together = together;
          came = came;
          stands_at_start = then.due;
          tidied = subst (λ (l : List Point). Tidied p l (ring_points (view (run_of w is)) j)) (sym then.points) (subst (Tidied p c) (sym now.points) (tidied p c n.0 (sym now.due ∙ due)));
        }

  pub nothing_left : NothingLeft w
  nothing_left is j c due = go (at (F w o is).entries j) refl (rings_are w o is j c.known)
    where
      go : (e : Entry (Ring Point) (List Point)) → at (F w o is).entries j ≡ e → Has (view (run_of w is)) j e → PassBehind w is j
      go forest.ringless e h = absurd (true≢false (sym h ∙ c.ringed))
      go (open_ring d) e h = absurd (true≢false (sym h.0 ∙ c.closed))
      go (closed_ring q L) e h = from (came (lone_ring p) limit.POINTS limit.RECORDS is (F₀ w o) j q L e)
        where
          from : (((L₀ : State (Ring Point)) × (at (F₀ w o).entries j ≡ closed_ring q L₀)) ⊎ Made (lone_ring p) limit.POINTS limit.RECORDS (F₀ w o) is j q) → PassBehind w is j
          from (inl t) =
              let b = opened_begins w o j q t.0 t.1 in
              behind is [] is j q b.0 refl (t.1 ∙ ap (closed_ring q) b.2) due (opening_left (omega (arith, count w o [], at_closed (F₀ w o).entries j t.1)))
          from (inr m) =
              let b = offcut_begins (plane p) m.cutter m.seed m.cut_off in
              behind is (m.earlier ++ (m.last ∷ [])) m.since j q b.0 m.together (m.there ∙ ap (λ (s : Ring Point). closed_ring q (initial s)) b.2) due
              (step_made m.earlier m.last (omega (arith, count w o m.earlier, m.not_yet)) (omega (arith, count w o (m.earlier ++ (m.last ∷ [])), at_closed (F w o (m.earlier ++ (m.last ∷ []))).entries j m.there)))
