-- The level walks from renumbered points come to renumbered points, and the level segments are renumbered.
use Prim.Native.Nat.{ℕ, zero, suc, ◌<◌}
use mathlib.Core.Path.{◌≡◌, refl, ap, ◌∙◌, sym}
use mathlib.Core.Bool.{Bool, true, false, cond, not}
use mathlib.Core.List.{List}
use lib.Dec.{eqb, ltb}
use Rattle.job.specs.Limits as limit
use Rattle.store.specs.Words.{view}
use Rattle.store.specs.Named.{next_of, first_of, points_of}
use Rattle.joins.specs.Resolve.{home_of}
use Rattle.joins.specs.Resolved.{Ready}
use Rattle.joins.proofs.Homes.{home_of_lem}
use Rattle.segments.specs.declared.level.Ends.{Ends}
use Rattle.sorting.specs.declared.HorzSegment.{HorzSegment}
use Rattle.sorting.specs.Sorted.{LAST}
use Rattle.segments.specs.Level.{x_of, y_of, along_of, until, at_wall, at_stop, at_limit, wall_run, stop_run, limit_run}
use Rattle.segments.specs.Needs.{Home}
use Rattle.segments.specs.Pair.{one_of, two_of}
use Rattle.segments.specs.Update.{has_front, walled_ends, free_ends, ends_of, valid, invalid, headed, segment_through}
use Rattle.segments.proofs.Running.{along_lives, wall_on}
use Rattle.segments.proofs.Updates.{point_at_home, ends_on}
use Rattle.drawing.specs.Renumbered.{Renumbered}
use Rattle.drawing.proofs.Likeness.{tells_apart, none}
use Rattle.drawing.proofs.Rings.{homes_alike}

-- a segment by renumbered points
abbrev pub renumbered_segment : (ℕ → ℕ) → HorzSegment → HorzSegment
renumbered_segment ρ s = record { key = s.key; left = ρ s.left; right = ρ s.right; forward = s.forward }

-- a walk whose step and test agree through ρ
until_map : (ρ : ℕ → ℕ) (t t' : ℕ → Bool) (g g' : ℕ → ℕ) (c : ℕ) → ((p : ℕ) → p < c → g p < c) → ((p : ℕ) → p < c → g' (ρ p) ≡ ρ (g p)) → ((p : ℕ) → p < c → t' (ρ p) ≡ t p)
    → (f p : ℕ) → p < c → (until f t' g' (ρ p) ≡ ρ (until f t g p)) × (until f t g p < c)
unfolding until
until_map ρ t t' g g' c l a b zero p h = (refl, h)
until_map ρ t t' g g' c l a b (suc f) p h = rw (b p h, a p h) (go (t p) (until_map ρ t t' g g' c l a b f (g p) (l p h)))
  where
    go : (z : Bool) → (until f t' g' (ρ (g p)) ≡ ρ (until f t g (g p))) × (until f t g (g p) < c)
        → (cond z (ρ p) (until f t' g' (ρ (g p))) ≡ ρ (cond z p (until f t g (g p)))) × (cond z p (until f t g (g p)) < c)
    go true r = (refl, h)
    go false r = r

module _ {ρ : ℕ → ℕ} (w w' : List ℕ) (al : Renumbered ρ (view w) (view w')) (o : Ready w) (o' : Ready w') where
  pub along_in : (on : Bool) (p : ℕ) → p < points_of w → along_of w on p < points_of w
  along_in on p h =
      let z = home_of_lem (view w) o.resolved p h in
      (along_lives w o on z.0 p z.1).bound

  pub along_alike : (on : Bool) (p : ℕ) → p < points_of w → along_of w' on (ρ p) ≡ ρ (along_of w on p)
  unfolding along_of
  along_alike true p h = al.nexts p h
  along_alike false p h = al.prevs p h

  y_along : (on : Bool) (p : ℕ) → p < points_of w → y_of w' (along_of w' on (ρ p)) ≡ y_of w (along_of w on p)
  y_along on p h = ap (y_of w') (along_alike on p h) ∙ al.ys (along_of w on p) (along_in on p h)

  x_along : (on : Bool) (p : ℕ) → p < points_of w → x_of w' (along_of w' on (ρ p)) ≡ x_of w (along_of w on p)
  x_along on p h = ap (x_of w') (along_alike on p h) ∙ al.xs (along_of w on p) (along_in on p h)

  wall_alike : (on : Bool) (wall y p : ℕ) → p < points_of w → at_wall w' on (ρ wall) y (ρ p) ≡ at_wall w on wall y p
  unfolding at_wall
  wall_alike on wall y p h = rw (tells_apart al p wall, y_along on p h)

  stop_alike : (on : Bool) (stop y p : ℕ) → p < points_of w → at_stop w' on (ρ stop) y (ρ p) ≡ at_stop w on stop y p
  unfolding at_stop
  stop_alike on stop y p h = rw (y_along on p h, along_alike on p h, tells_apart al (along_of w on p) stop)

  limit_alike : (on : Bool) (far y p : ℕ) → p < points_of w → at_limit w' on far y (ρ p) ≡ at_limit w on far y p
  unfolding at_limit
  limit_alike on far y p h = rw (y_along on p h, x_along on p h)

  pub wall_run_lem : (on : Bool) (wall y p : ℕ) → p < points_of w → (wall_run w' on (ρ wall) y (ρ p) ≡ ρ (wall_run w on wall y p)) × (wall_run w on wall y p < points_of w)
  unfolding wall_run
  wall_run_lem on wall y p h = until_map ρ (at_wall w on wall y) (at_wall w' on (ρ wall) y) (along_of w on) (along_of w' on) (points_of w) (along_in on) (along_alike on) (wall_alike on wall y) limit.POINTS p h

  pub stop_run_lem : (on : Bool) (stop y p : ℕ) → p < points_of w → (stop_run w' on (ρ stop) y (ρ p) ≡ ρ (stop_run w on stop y p)) × (stop_run w on stop y p < points_of w)
  unfolding stop_run
  stop_run_lem on stop y p h = until_map ρ (at_stop w on stop y) (at_stop w' on (ρ stop) y) (along_of w on) (along_of w' on) (points_of w) (along_in on) (along_alike on) (stop_alike on stop y) limit.POINTS p h

  pub limit_run_lem : (on : Bool) (far y p : ℕ) → p < points_of w → (limit_run w' on far y (ρ p) ≡ ρ (limit_run w on far y p)) × (limit_run w on far y p < points_of w)
  unfolding limit_run
  limit_run_lem on far y p h = until_map ρ (at_limit w on far y) (at_limit w' on far y) (along_of w on) (along_of w' on) (points_of w) (along_in on) (along_alike on) (limit_alike on far y) limit.POINTS p h

  -- ---- the ends of a run

  abbrev Both : Ends → Ends → Type 0
  Both e e' = (e'.back ≡ ρ e.back) × (e'.ahead ≡ ρ e.ahead)

  walled_alike : (p y i : ℕ) → Home w p i → Both (walled_ends w p y i) (walled_ends w' (ρ p) y i)
  unfolding walled_ends
  walled_alike p y i h =
      let f : first_of w' i ≡ ρ (first_of w i) = al.firsts i h.here.res.real in
      let n : next_of w' (ρ (first_of w i)) ≡ ρ (next_of w (first_of w i)) = al.nexts (first_of w i) (wall_on w p i (first_of w i) h refl).two.bound in
      rw (f, n) ((wall_run_lem false (next_of w (first_of w i)) y p h.here.bound).0, (wall_run_lem true (first_of w i) y p h.here.bound).0)

  free_alike : (p y : ℕ) → p < points_of w → Both (free_ends w p y) (free_ends w' (ρ p) y)
  unfolding free_ends
  free_alike p y h =
      let b = (stop_run_lem false p y p h).0 in
      rw b (refl, (stop_run_lem true (stop_run w false p y p) y p h).0)

  ends_alike : (p i : ℕ) → Home w p i → Both (ends_of w p i) (ends_of w' (ρ p) i)
  unfolding ends_of
  ends_alike p i h = rw (al.flags i h.here.res.real, al.ys p h.here.bound) (go (has_front w i))
    where
      go : (b : Bool) → Both (cond b (walled_ends w p (y_of w p) i) (free_ends w p (y_of w p))) (cond b (walled_ends w' (ρ p) (y_of w p) i) (free_ends w' (ρ p) (y_of w p)))
      go true = walled_alike p (y_of w p) i h
      go false = free_alike p (y_of w p) h.here.bound

  headed_alike : (op p n : ℕ) → p < points_of w → n < points_of w → headed w' (ρ op) (ρ p) (ρ n) ≡ renumbered_segment ρ (headed w op p n)
  unfolding headed
  headed_alike op p n h k = rw (al.xs p h, al.xs n k) (go (eqb (x_of w p) (x_of w n)) (ltb (x_of w p) (x_of w n)))
    where
      -- a valid segment, by its left x
      by : ℕ → ℕ → ℕ → ℕ → HorzSegment
      by x l r f = record { key = x; left = l; right = r; forward = f }

      go : (s t : Bool) → cond s (invalid (ρ op) 1) (cond t (by (x_of w p) (ρ p) (ρ n) 1) (by (x_of w n) (ρ n) (ρ p) 0)) ≡ renumbered_segment ρ (cond s (invalid op 1) (cond t (valid w p n 1) (valid w n p 0)))
      go true t = ap (λ (x : ℕ). by LAST (ρ op) x 1) (sym (none al o.resolved.few_points))
      go false true = refl
      go false false = refl

  pub through_alike : (p : ℕ) → p < points_of w → segment_through w' (ρ p) ≡ renumbered_segment ρ (segment_through w p)
  unfolding segment_through
  through_alike p h =
      let i = home_of w p in
      let t : Home w p i = point_at_home w p i (record { ready = o; low = h }) refl in
      let e = ends_alike p i t in
      let l = ends_on w p i t in
      rw (homes_alike w w' al o o' p h, e.0, e.1) (headed_alike p (ends_of w p i).back (ends_of w p i).ahead l.back.bound l.ahead.bound)

  -- ---- a pair's walks

  pub one_alike : (on : Bool) (y l1 l2 : ℕ) → l1 < points_of w → l2 < points_of w → (one_of w' on y (ρ l1) (ρ l2) ≡ ρ (one_of w on y l1 l2)) × (one_of w on y l1 l2 < points_of w)
  unfolding one_of
  one_alike on y l1 l2 h k = rw (al.xs l2 k) (limit_run_lem on (x_of w l2) y l1 h)

  pub two_alike : (on : Bool) (y l1 l2 : ℕ) → l1 < points_of w → l2 < points_of w → (two_of w' on y (ρ l1) (ρ l2) ≡ ρ (two_of w on y l1 l2)) × (two_of w on y l1 l2 < points_of w)
  unfolding two_of
  two_alike on y l1 l2 h k =
      let e = one_alike on y l1 l2 h k in
      rw (e.0, al.xs (one_of w on y l1 l2) e.1) (limit_run_lem (not on) (x_of w (one_of w on y l1 l2)) y l2 k)
