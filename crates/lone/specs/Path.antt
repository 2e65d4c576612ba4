-- The path of a ring, or none: document 01's "Path and tray", `build_path64_from_outpt`, of the ring's points in walk order from the first.
use Rattle.std.specs.Prelude.{List, [], ◌∷◌, reverse, Bool, true, false, cond, not, ◌&&◌, length, eqb, leb}
use Rattle.std.proofs.Math.Option.{Option, none, some}
use Rattle.rings.specs.Circle.{turn}
use Rattle.rings.specs.Progress.{Ring}
use Rattle.lone.specs.Lone.{Geo, from_first}

-- the points in the path's order: "Forward starts after the first point, reversed at it"
abbrev pub in_order : {P : Type 0} → Bool → List P → List P
in_order false c = turn c
in_order true [] = []
in_order true (q ∷ qs) = q ∷ reverse qs

module _ {P : Type 0} (G : Geo P) where
  -- what is left after the point l
  abbrev pub drop_equals : P → List P → List P
  drop_equals l [] = []
  drop_equals l (q ∷ qs) = cond (G.same_point q l) (drop_equals l qs) (q ∷ drop_equals q qs)

  -- "Neighbouring equals are dropped, but not a last point equal to the first"
  abbrev pub without_equals : List P → List P
  without_equals [] = []
  without_equals (q ∷ qs) = q ∷ drop_equals q qs

  -- "The small test applies only if the ring, too, has three points": the ring from the path's first point on
  abbrev pub is_small_ring : List P → Bool
  is_small_ring [] = false
  is_small_ring (a ∷ []) = false
  is_small_ring (a ∷ b ∷ []) = false
  is_small_ring (a ∷ b ∷ c ∷ []) = G.is_very_small_triangle c a b
  is_small_ring (a ∷ b ∷ c ∷ d ∷ r) = false

  -- `build_path64_from_outpt(reverse, is_open)`: none for a ring of one point, a closed one of two, a small closed triangle, a path of one point
  unfoldable pub build_path64_from_outpt : Bool → Bool → List P → Option (List P)
  build_path64_from_outpt rev is_open c =
      let path : List P = without_equals (in_order rev c) in
      cond (leb (length c) (cond is_open 1 2)) none
      (cond (not is_open && eqb (length path) 3 && is_small_ring (cond rev c (turn c))) none
      (cond (leb 2 (length path)) (some path) none))

  -- a done ring's outline: the path, or none, of its points; a discarded ring has none
  unfoldable pub outline : Bool → Ring P → Option (List P)
  outline rev R = build_path64_from_outpt rev false (from_first R)
