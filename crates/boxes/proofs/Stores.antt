-- Boxes of a sound store's rings: a box depends only on which points are on the ring, so it is that of the lone ring, from whatever place; and they are on the table.
use Prim.Native.Nat.{ℕ, ◌≤◌, ◌<◌}
use mathlib.Core.Path.{◌≡◌, refl, sym, ap, ◌∙◌, subst}
use mathlib.Core.Bool.{Bool, true, false, cond}
use mathlib.Core.List.{List, [], ◌∷◌, map}
use mathlib.Core.Option.{Option}
use native.Mathlib.Omega.{arith}
use Rattle.rings.specs.Count.{occ}
use Rattle.rings.specs.Links.{All}
use Rattle.rings.specs.Progress.{Due, validity, removal, triangle, split, done, gone}
use Rattle.rings.specs.Walk.{walk}
use Rattle.rings.proofs.Counting.{all_in, in_all}
use Rattle.rings.proofs.Walking.{Seen}
use Rattle.geometry.specs.declared.Point.{Point}
use Rattle.geometry.specs.Box.{box_of}
use Rattle.geometry.specs.Table.{InTable}
use Rattle.store.specs.Field.{pt, rc, NEXT, PREV, FIRST, PRESENT, REASON}
use Rattle.store.specs.Words.{Store}
use Rattle.store.specs.Sound.{pts, recs, ringless, ring_at, is_open, due_at, lone_due, lone_at}
use Rattle.store.specs.Reason.{discard_of}
use Rattle.store.specs.Good.{Sound}
use Rattle.store.specs.Value.{point_at}
use Rattle.store.specs.Boxes.{ring_box}
use Rattle.store.proofs.Soundness.{from_first, present_on}
use Rattle.primitives.proofs.Coordinates.{in_table}
use Rattle.boxes.specs.Within.{BoxWithin, BoxHolds}
use Rattle.boxes.specs.Beside.{ring_now}
use Rattle.boxes.proofs.Sizes.{within_both}
use Rattle.boxes.proofs.Boxes.{Each, within_points, holds_own}

-- ---- which points, not where
module _ (f : ℕ → Point) where
  each_map : (Q : Point → Type 0) (l : List ℕ) → All (λ k. Q (f k)) l → Each Q (map f l)
  each_map Q [] h = tt
  each_map Q (x ∷ l) h = (h.0, each_map Q l h.1)

  map_each : (Q : Point → Type 0) (l : List ℕ) → Each Q (map f l) → All (λ k. Q (f k)) l
  map_each Q [] h = tt
  map_each Q (x ∷ l) h = (h.0, map_each Q l h.1)

  among : (a b : List ℕ) → ((k : ℕ) → 0 < occ k a → 0 < occ k b) → BoxWithin (box_of (map f a)) (box_of (map f b))
  among a b h =
      (within_points (map f a) (box_of (map f b))).1
      (each_map (BoxHolds (box_of (map f b))) a
      (all_in (λ k. BoxHolds (box_of (map f b)) (f k)) a (λ k o. in_all (λ k. BoxHolds (box_of (map f b)) (f k)) b k (map_each (BoxHolds (box_of (map f b))) b (holds_own (map f b))) (h k o))))

  pub same_points : (a b : List ℕ) → ((k : ℕ) → occ k a ≡ occ k b) → box_of (map f a) ≡ box_of (map f b)
  same_points a b h = within_both (box_of (map f a)) (box_of (map f b)) (among a b (λ k o. omega (arith, h k))) (among b a (λ k o. omega (arith, h k)))

module _ (s : Store) (o : Sound s) (i : ℕ) (known : i < recs s) where
  pub lone_occ : is_open s i ≡ false → (k : ℕ) → occ k (lone_at s i).circle ≡ occ k (ring_at s i)
  lone_occ closed k = go (ringless s i) refl
    where
      loop : ringless s i ≡ false → Seen (s (pt NEXT)) (s (pt PREV)) (pts s) (ring_at s i) (s (rc PRESENT) i) → occ k (walk (s (pt NEXT)) (s (rc PRESENT) i)) ≡ occ k (walk (s (pt NEXT)) (s (rc FIRST) i))
      loop e t = ap (occ k) t.walked ∙ t.occs k ∙ ap (occ k) (from_first s i e)

      by : ringless s i ≡ false → (d : Due) → due_at s i ≡ d → occ k (lone_due s i d).circle ≡ occ k (walk (s (pt NEXT)) (s (rc FIRST) i))
      by e validity m = refl
      by e removal m = loop e (present_on s o i (record { known = known; ringed = e; closed = closed }) (rw m refl))
      by e triangle m = refl
      by e split m = loop e (present_on s o i (record { known = known; ringed = e; closed = closed }) (rw m refl))
      by e done m = refl

      go : (b : Bool) → ringless s i ≡ b → occ k (cond b (gone (discard_of (s (rc REASON) i))) (lone_due s i (due_at s i))).circle ≡ occ k (cond b [] (walk (s (pt NEXT)) (s (rc FIRST) i)))
      go true e = refl
      go false e = by e (due_at s i) refl

  -- the box of record i's ring is its lone ring's
  pub lone_box : is_open s i ≡ false → ring_box s i ≡ box_of (ring_now s i).circle
  unfolding ring_box
  lone_box closed = sym (same_points (point_at s) (lone_at s i).circle (ring_at s i) (lone_occ closed))

  -- its points are on the table
  pub lone_table : is_open s i ≡ false → Each InTable (ring_now s i).circle
  lone_table closed =
      each_map (point_at s) InTable (lone_at s i).circle
      (all_in (λ k. InTable (point_at s k)) (lone_at s i).circle
      (λ k h. let p = (o.good i known).points_in_lem k (omega (arith, lone_occ closed k)) in in_table s k p.x_in p.y_in))
