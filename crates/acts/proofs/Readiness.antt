-- What the lone ring decides is ready to be done on the store: of the geometry only four laws are used.
use Prim.Native.Nat.{ℕ, suc, ◌<◌}
use mathlib.Core.Path.{◌≡◌, refl, sym, subst}
use mathlib.Core.Bool.{Bool, true, false, cond, not, ◌||◌}
use mathlib.Core.List.{List, [], ◌∷◌, map}
use mathlib.Core.Option.{Option, none}
use native.Mathlib.Omega.{arith}
use lib.ListN.{length}
use Rattle.rings.proofs.Counting.{occ_head, occ_last_of}
use Rattle.rings.proofs.Mapping.{map_last_of}
use Rattle.rings.proofs.Walking.{Seen, seen}
use Rattle.rings.specs.Circle.{last_of, back, head_or, omap, ahead, one_or_three, cut_circle}
use Rattle.rings.specs.Count.{occ}
use Rattle.rings.specs.Place.{is_here, place}
use Rattle.rings.specs.Progress.{Ring, Due, validity, removal, triangle, split, done, at_validity, while_removing, at_split, map_ring, resting, is_done}
use Rattle.lone.specs.Lone.{Geo, is_zero, act_of, decide, removal_turn, split_turn, do_split_op, is_valid_closed_path, too_small, keeps_offcut}
use Rattle.lone.specs.Act.{discard, drop_point, move_on, to_first, double, cut}
use Rattle.store.proofs.Soundness.{whole, first_on}
use Rattle.store.specs.Field.{pt, rc, X, Y, Z, NEXT, PREV, PRESENT, START, FIRST}
use Rattle.store.specs.Sound.{pts, ring_at, Closed, due_at, lone_at}
use Rattle.store.specs.Good.{PointIn, Sound}
use Rattle.store.specs.Words.{Store}
use Rattle.acts.proofs.Acting.{Ready, to_discard, to_move, to_go_first, to_drop, to_double, to_cut}
use Rattle.acts.proofs.Positions.{Loop, loop}
use Rattle.acts.proofs.Progressing.{rested}
use Rattle.acts.specs.Apply.{Coding}
use Rattle.acts.specs.Codes.{Codes}
use Rattle.acts.specs.Laws.{Laws}
use Rattle.acts.specs.Rep.{in_loop}
use Rattle.acts.specs.Value.{value}

module _ {P : Type 0} (G : Geo P) (f : Coding P) (Λ : Laws G f) (s : Store) (o : Sound s) (i : ℕ) (c : Closed s i) where
  begins : (b : Bool) → due_at s i ≡ validity → Ready f s i (cond b (to_first removal) (discard at_validity))
  begins true m = to_go_first validity removal m refl
  begins false m = to_discard at_validity

  module _ (m : due_at s i ≡ removal) (b : Loop s i (s (rc PRESENT) i) removal) where
    drops : (xs : List ℕ) → b.others ≡ xs → is_valid_closed_path G (map (value f.of s) xs) ≡ true → Ready f s i drop_point
    drops [] e h = let y : ◌≡◌ {A = ℕ} 0 1 = cc in absurd (omega arith)
    drops (a ∷ []) e h = let y : ◌≡◌ {A = ℕ} 0 1 = cc in absurd (omega arith)
    drops (a ∷ b' ∷ r) e h = to_drop m b a b' r e

    removes : (st : Option ℕ) → Ready f s i (removal_turn G (map (value f.of s) (s (rc PRESENT) i ∷ b.others)) st)
    unfolding removal_turn
    removes st =
        let xs : List P = map (value f.of s) b.others in
        let x : P = value f.of s (s (rc PRESENT) i) in
        shape (G.removable (last_of x xs) x (head_or x xs)) (is_valid_closed_path G xs) (cond (is_here (omap (ahead (suc (length xs))) st)) triangle removal) (drops b.others refl)
      where
        shape : (c₁ c₂ : Bool) (d : Due) → (c₂ ≡ true → Ready f s i drop_point) → Ready f s i (cond c₁ (cond c₂ drop_point (discard while_removing)) (move_on d))
        shape true true d h = h refl
        shape true false d h = to_discard while_removing
        shape false c₂ d h = to_move removal d m refl

  module _ (m : due_at s i ≡ split) (b : Loop s i (s (rc PRESENT) i) split) where
    in_value : (k : ℕ) → 0 < occ k (s (rc PRESENT) i ∷ b.others) → Codes f (value f.of s k)
    in_value k p = let t : PointIn s k = (o.good i c.known).points_in_lem k (rw (b.occs k) p) in Λ.reads (s (pt X) k) (s (pt Y) k) (s (pt Z) k) t.x_in t.y_in

    splits : (xs : List ℕ) → b.others ≡ xs → (fi : ℕ) (st : Option ℕ) → Ready f s i (split_turn G (value f.of s (s (rc PRESENT) i) ∷ map (value f.of s) xs) fi st)
    unfolding split_turn do_split_op
    splits [] e fi st = rw (Λ.flat.same_edge (value f.of s (s (rc PRESENT) i)) (value f.of s (s (rc PRESENT) i))) (to_move split _ m refl)
    splits (y ∷ []) e fi st = rw (Λ.flat.same_edge (value f.of s y) (value f.of s (s (rc PRESENT) i))) (to_move split _ m refl)
    splits (y ∷ z ∷ []) e fi st = rw (Λ.flat.back_to_start (value f.of s z) (value f.of s (s (rc PRESENT) i)) (value f.of s y)) (to_move split _ m refl)
    splits (y ∷ z ∷ u ∷ r) e fi st =
        let x : P = value f.of s (s (rc PRESENT) i) in
        let p : P = last_of (value f.of s u) (map (value f.of s) r) in
        let C : List P = x ∷ map (value f.of s) (y ∷ z ∷ u ∷ r) in
        let n : ℕ = length C in
        let Y : P = value f.of s y in
        let Z : P = value f.of s z in
        let T : P = G.crossing_point p x Y Z in
        let put : Bool = not (G.same_point T p || G.same_point T Z) in
        shape (G.segments_intersect p x Y Z) (G.segments_intersect p x Z (value f.of s u)) (too_small G (back C)) put (keeps_offcut G (back C) T x Y)
        (cond (is_zero fi || is_here st) done split) (cond (one_or_three (cut_circle put T (back C))) done split) (cond (is_zero (ahead n fi) || is_here (omap (ahead n) st)) done split) T
        (Λ.meets p x Y Z in_p in_x in_y in_z)
      where
        on : (k : ℕ) → 0 < occ k (s (rc PRESENT) i ∷ y ∷ z ∷ u ∷ r) → Codes f (value f.of s k)
        on k h = in_value k (subst (λ (l : List ℕ). 0 < occ k (s (rc PRESENT) i ∷ l)) (sym e) h)

        in_x : Codes f (value f.of s (s (rc PRESENT) i))
        in_x = on (s (rc PRESENT) i) (occ_head (s (rc PRESENT) i) (y ∷ z ∷ u ∷ r))

        in_y : Codes f (value f.of s y)
        in_y = on y (omega (arith, occ_head y (z ∷ u ∷ r)))

        in_z : Codes f (value f.of s z)
        in_z = on z (omega (arith, occ_head z (u ∷ r)))

        in_p : Codes f (last_of (value f.of s u) (map (value f.of s) r))
        in_p = subst (Codes f) (map_last_of (value f.of s) u r) (on (last_of u r) (omega (arith, occ_last_of u r)))

        shape : (c₁ c₂ sm put off : Bool) (d₁ d₂ d₃ : Due) (v : P) → (c₁ ≡ true → Codes f v) → Ready f s i (cond c₁ (cond c₂ (double (value f.of s z) d₁) (cond sm (discard at_split) (cut v put off d₂))) (move_on d₃))
        shape true true sm put off d₁ d₂ d₃ v h = to_double split d₁ b y (z ∷ u ∷ r) e (value f.of s z) in_z
        shape true false true put off d₁ d₂ d₃ v h = to_discard at_split
        shape true false false put off d₁ d₂ d₃ v h = to_cut split d₂ b y z u r e v (h refl) put off
        shape false c₂ sm put off d₁ d₂ d₃ v h = to_move split d₃ m refl

  pub ready : is_done (due_at s i) ≡ false → Ready f s i (act_of G (map_ring (value f.of s) (lone_at s i)))
  unfolding act_of decide
  ready n = go (due_at s i) refl n
    where
      first : Seen (s (pt NEXT)) (s (pt PREV)) (pts s) (ring_at s i) (s (rc FIRST) i)
      first = seen _ _ (pts s) (ring_at s i) (s (rc FIRST) i) o.few_points (whole s o i c.known) (first_on s i c.ringed)

      rest : (d : Due) → in_loop d ≡ false → due_at s i ≡ d → lone_at s i ≡ resting d none (s (rc FIRST) i ∷ first.others)
      rest d h m = rested s i d h first.others c.ringed m first.walked

      go : (d : Due) → due_at s i ≡ d → is_done d ≡ false → Ready f s i (act_of G (map_ring (value f.of s) (lone_at s i)))
      go validity m h = subst (λ (R : Ring ℕ). Ready f s i (act_of G (map_ring (value f.of s) R))) (sym (rest validity refl m)) (begins (is_valid_closed_path G (map (value f.of s) (s (rc FIRST) i ∷ first.others))) m)
      go removal m h = let b : Loop s i (s (rc PRESENT) i) removal = loop s o i (s (rc PRESENT) i) removal c refl m refl in
          subst (λ (R : Ring ℕ). Ready f s i (act_of G (map_ring (value f.of s) R))) (sym b.lone_is) (removes m b (place (s (rc START) i) (s (rc PRESENT) i ∷ b.others)))
      go triangle m h = subst (λ (R : Ring ℕ). Ready f s i (act_of G (map_ring (value f.of s) R))) (sym (rest triangle refl m)) (to_go_first triangle _ m refl)
      go split m h = let b : Loop s i (s (rc PRESENT) i) split = loop s o i (s (rc PRESENT) i) split c refl m refl in
          subst (λ (R : Ring ℕ). Ready f s i (act_of G (map_ring (value f.of s) R))) (sym b.lone_is) (splits m b b.others refl b.far (place (s (rc START) i) (s (rc PRESENT) i ∷ b.others)))
      go done m h = let y : ◌≡◌ {A = ℕ} 0 1 = cc in absurd (omega arith)
