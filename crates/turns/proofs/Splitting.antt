-- A split turn decided on the store, before anything is written, is the lone ring's decision.
use Prim.Native.Nat.{ℕ, zero, suc, ◌≤◌}
use mathlib.Core.Path.{◌≡◌, refl, ap, ◌∙◌, sym}
use mathlib.Core.Logic.{◌≢◌}
use mathlib.Core.Bool.{Bool, true, false, cond, not, ◌||◌}
use mathlib.Core.List.{List, [], ◌∷◌, map}
use mathlib.Core.Option.{Option, some}
use native.Mathlib.Omega.{arith}
use lib.Dec.{eqb}
use lib.ListN.{length, length-map}
use borrow.Author.Tests.{eq-eqb, ne_eqb}
use Rattle.rings.proofs.Counting.{occ_head}
use Rattle.rings.proofs.Linking.{prev_is}
use Rattle.rings.proofs.Mapping.{map_last_of, map_back}
use Rattle.rings.proofs.Placing.{here_is, not_first}
use Rattle.rings.proofs.Walking.{ring_is}
use Rattle.rings.specs.Circle.{last_of, init_of, back, omap, ahead, one_or_three, cut_circle}
use Rattle.rings.specs.Place.{is_here, place}
use Rattle.rings.specs.Progress.{Ring, split, done, map_ring}
use Rattle.rings.specs.Walk.{walk}
use Rattle.rings.specs.Whole.{Whole}
use Rattle.lone.specs.Kept.{GeoLaws}
use Rattle.lone.specs.Lone.{Geo, is_zero, act_of, decide, split_turn, do_split_op}
use Rattle.lone.specs.Act.{move_on}
use Rattle.store.specs.Field.{pt, rc, NEXT, PREV, PRESENT, START, FIRST}
use Rattle.store.specs.Sound.{pts, Closed, due_at, lone_at}
use Rattle.store.specs.Good.{Sound}
use Rattle.store.specs.Words.{Store}
use Rattle.acts.proofs.Positions.{Loop, loop}
use Rattle.acts.specs.Value.{value}
use Rattle.turns.proofs.Reading.{back_whole}
use Rattle.turns.proofs.Removing.{turn_is}
use Rattle.turns.specs.Decide.{three_left, ring_from, cut_at, split_op_at, crossed_at, split_at}

module _ {P : Type 0} (of : ℕ → ℕ → ℕ → P) (G : Geo P) (s : Store) where
  -- three are left exactly if so after the cut
  left_is : (put : Bool) (v : P) (x y z u : ℕ) (r : List ℕ) → Whole (s (pt NEXT)) (s (pt PREV)) (pts s) (x ∷ y ∷ z ∷ u ∷ r) → three_left s put x ≡ one_or_three (cut_circle put v (back (map (value of s) (x ∷ y ∷ z ∷ u ∷ r))))
  left_is true v x y z u [] w =
      let l = w.linked in
      rw l.0 (rw l.2.0 (rw l.2.2.0 (eq-eqb (s (pt NEXT) u) x l.2.2.2.0)))
  left_is false v x y z u [] w =
      let l = w.linked in
      let n : y ≢ x = not_first x (y ∷ z ∷ u ∷ []) y (w.once x) (occ_head y (z ∷ u ∷ [])) in
      rw l.0 (rw l.2.0 (rw l.2.2.0 (rw l.2.2.2.0 (ne_eqb (s (pt NEXT) x) x (λ e. n (sym l.0 ∙ e))))))
  left_is true v x y z u (a ∷ []) w =
      let l = w.linked in
      let n : a ≢ x = not_first x (y ∷ z ∷ u ∷ a ∷ []) a (w.once x) (omega (arith, occ_head a [])) in
      rw l.0 (rw l.2.0 (rw l.2.2.0 (ne_eqb (s (pt NEXT) u) x (λ e. n (sym l.2.2.2.0 ∙ e)))))
  left_is false v x y z u (a ∷ []) w =
      let l = w.linked in
      rw l.0 (rw l.2.0 (rw l.2.2.0 (rw l.2.2.2.0 (eq-eqb (s (pt NEXT) a) x l.2.2.2.2.0))))
  left_is true v x y z u (a ∷ b ∷ r) w =
      let l = w.linked in
      let n : a ≢ x = not_first x (y ∷ z ∷ u ∷ a ∷ b ∷ r) a (w.once x) (omega (arith, occ_head a (b ∷ r))) in
      rw l.0 (rw l.2.0 (rw l.2.2.0 (ne_eqb (s (pt NEXT) u) x (λ e. n (sym l.2.2.2.0 ∙ e)))))
  left_is false v x y z u (a ∷ b ∷ r) w =
      let l = w.linked in
      let n : b ≢ x = not_first x (y ∷ z ∷ u ∷ a ∷ b ∷ r) b (w.once x) (omega (arith, occ_head b r)) in
      rw l.0 (rw l.2.0 (rw l.2.2.0 (rw l.2.2.2.0 (ne_eqb (s (pt NEXT) a) x (λ e. n (sym l.2.2.2.2.0 ∙ e)))))) ∙ many r
    where
      many : (r : List ℕ) → false ≡ one_or_three (cut_circle false v (back (map (value of s) (x ∷ y ∷ z ∷ u ∷ a ∷ b ∷ r))))
      many [] = refl
      many (c ∷ r) = refl

  before_is : (x : ℕ) (xs : List ℕ) → pts s ≤ 2048 → Whole (s (pt NEXT)) (s (pt PREV)) (pts s) (x ∷ xs) → ring_from of G s (s (pt PREV) x) ≡ back (map (value of s) (x ∷ xs))
  before_is x xs h w =
      ap (λ (n : ℕ). map (value of s) (walk (s (pt NEXT)) n)) (prev_is (s (pt NEXT)) (s (pt PREV)) x xs w.linked)
      ∙ ap (map (value of s)) (ring_is _ _ (pts s) (last_of x xs) (init_of x xs) h (back_whole (s (pt NEXT)) (s (pt PREV)) (pts s) x xs w)) ∙ map_back (value of s) (x ∷ xs)

  -- a place compared is a point compared
  zero_is : (t k : ℕ) (x : ℕ) (xs : List ℕ) → place t (x ∷ xs) ≡ some k → eqb x t ≡ is_zero k
  zero_is t k x xs e = sym (here_is t x xs) ∙ ap is_here e ∙ same_point k
    where
      same_point : (k : ℕ) → is_here (some k) ≡ is_zero k
      same_point zero = refl
      same_point (suc k) = refl

  zero_next : (t k : ℕ) (x : ℕ) (xs : List ℕ) → Whole (s (pt NEXT)) (s (pt PREV)) (pts s) (x ∷ xs) → place t (x ∷ xs) ≡ some k → eqb (s (pt NEXT) x) t ≡ is_zero (ahead (suc (length xs)) k)
  zero_next t k x xs w e = turn_is of G s x xs t w ∙ ap (λ (o : Option ℕ). is_here (omap (ahead (suc (length xs))) o)) e ∙ same_point (ahead (suc (length xs)) k)
    where
      same_point : (k : ℕ) → is_here (some k) ≡ is_zero k
      same_point zero = refl
      same_point (suc k) = refl

  module _ (few : pts s ≤ 2048) (i far : ℕ) (flat : GeoLaws G) where
    move_due : (x : ℕ) (xs : List ℕ) → Whole (s (pt NEXT)) (s (pt PREV)) (pts s) (x ∷ xs) → place (s (rc FIRST) i) (x ∷ xs) ≡ some far
        → (eqb (s (pt NEXT) x) (s (rc FIRST) i) || eqb (s (pt NEXT) x) (s (rc START) i))
        ≡ (is_zero (ahead (suc (length (map (value of s) xs))) far) || is_here (omap (ahead (suc (length (map (value of s) xs)))) (place (s (rc START) i) (x ∷ xs))))
    move_due x xs w e = rw (length-map xs (value of s)) (cc (zero_next (s (rc FIRST) i) far x xs w e, turn_is of G s x xs (s (rc START) i) w))

    by : (xs : List ℕ) → Whole (s (pt NEXT)) (s (pt PREV)) (pts s) (s (rc PRESENT) i ∷ xs) → place (s (rc FIRST) i) (s (rc PRESENT) i ∷ xs) ≡ some far
        → split_at of G s i ≡ split_turn G (map (value of s) (s (rc PRESENT) i ∷ xs)) far (place (s (rc START) i) (s (rc PRESENT) i ∷ xs))
    unfolding split_at crossed_at split_op_at cut_at split_turn do_split_op
    by [] w e =
        let l = w.linked in
        let m = move_due (s (rc PRESENT) i) [] w e in
        let a : s (pt NEXT) (s (rc PRESENT) i) ≡ s (rc PRESENT) i = l.0 in
        let b : s (pt PREV) (s (rc PRESENT) i) ≡ s (rc PRESENT) i = l.1 in
        let c : G.segments_intersect (value of s (s (pt PREV) (s (rc PRESENT) i))) (value of s (s (rc PRESENT) i)) (value of s (s (pt NEXT) (s (rc PRESENT) i))) (value of s (s (pt NEXT) (s (pt NEXT) (s (rc PRESENT) i)))) ≡ false = cc (flat.same_edge (value of s (s (rc PRESENT) i)) (value of s (s (rc PRESENT) i))) in
        rw (c, flat.same_edge (value of s (s (rc PRESENT) i)) (value of s (s (rc PRESENT) i))) (ap (λ (t : Bool). move_on (cond t done split)) m)
    by (y ∷ []) w e =
        let l = w.linked in
        let m = move_due (s (rc PRESENT) i) (y ∷ []) w e in
        let a : s (pt NEXT) (s (rc PRESENT) i) ≡ y = l.0 in
        let b : s (pt PREV) (s (rc PRESENT) i) ≡ y = l.2.1 in
        let d : s (pt NEXT) y ≡ s (rc PRESENT) i = l.2.0 in
        let c : G.segments_intersect (value of s (s (pt PREV) (s (rc PRESENT) i))) (value of s (s (rc PRESENT) i)) (value of s (s (pt NEXT) (s (rc PRESENT) i))) (value of s (s (pt NEXT) (s (pt NEXT) (s (rc PRESENT) i)))) ≡ false = cc (flat.same_edge (value of s y) (value of s (s (rc PRESENT) i))) in
        rw (c, flat.same_edge (value of s y) (value of s (s (rc PRESENT) i))) (ap (λ (t : Bool). move_on (cond t done split)) m)
    by (y ∷ z ∷ []) w e =
        let l = w.linked in
        let m = move_due (s (rc PRESENT) i) (y ∷ z ∷ []) w e in
        let a : s (pt NEXT) (s (rc PRESENT) i) ≡ y = l.0 in
        let b : s (pt PREV) (s (rc PRESENT) i) ≡ z = l.2.2.1 in
        let d : s (pt NEXT) y ≡ z = l.2.0 in
        let c : G.segments_intersect (value of s (s (pt PREV) (s (rc PRESENT) i))) (value of s (s (rc PRESENT) i)) (value of s (s (pt NEXT) (s (rc PRESENT) i))) (value of s (s (pt NEXT) (s (pt NEXT) (s (rc PRESENT) i)))) ≡ false = cc (flat.back_to_start (value of s z) (value of s (s (rc PRESENT) i)) (value of s y)) in
        rw (c, flat.back_to_start (value of s z) (value of s (s (rc PRESENT) i)) (value of s y)) (ap (λ (t : Bool). move_on (cond t done split)) m)
    by (y ∷ z ∷ u ∷ r) w e =
        let l = w.linked in
        let m = move_due (s (rc PRESENT) i) (y ∷ z ∷ u ∷ r) w e in
        let a : s (pt NEXT) (s (rc PRESENT) i) ≡ y = l.0 in
        let d : s (pt NEXT) y ≡ z = l.2.0 in
        let f : s (pt NEXT) z ≡ u = l.2.2.0 in
        let b : value of s (s (pt PREV) (s (rc PRESENT) i)) ≡ last_of (value of s u) (map (value of s) r) = ap (value of s) (prev_is (s (pt NEXT)) (s (pt PREV)) (s (rc PRESENT) i) (y ∷ z ∷ u ∷ r) l) ∙ map_last_of (value of s) u r in
        let g : ring_from of G s (s (pt PREV) (s (rc PRESENT) i)) ≡ back (map (value of s) (s (rc PRESENT) i ∷ y ∷ z ∷ u ∷ r)) = before_is (s (rc PRESENT) i) (y ∷ z ∷ u ∷ r) few w in
        let n : eqb (s (rc PRESENT) i) (s (rc FIRST) i) ≡ is_zero far = zero_is (s (rc FIRST) i) far (s (rc PRESENT) i) (y ∷ z ∷ u ∷ r) e in
        let k : eqb (s (rc PRESENT) i) (s (rc START) i) ≡ is_here (place (s (rc START) i) (s (rc PRESENT) i ∷ y ∷ z ∷ u ∷ r)) = sym (here_is (s (rc START) i) (s (rc PRESENT) i) (y ∷ z ∷ u ∷ r)) in
        let Q : P = last_of (value of s u) (map (value of s) r) in
        let t : P = G.crossing_point Q (value of s (s (rc PRESENT) i)) (value of s y) (value of s z) in
        let h = left_is (not (G.same_point t Q || G.same_point t (value of s z))) t (s (rc PRESENT) i) y z u r w in
        cc

  pub split_is : GeoLaws G → Sound s → (i : ℕ) → Closed s i → due_at s i ≡ split → split_at of G s i ≡ act_of G (map_ring (value of s) (lone_at s i))
  unfolding act_of decide
  split_is f o i c m =
      let b : Loop s i (s (rc PRESENT) i) split = loop s o i (s (rc PRESENT) i) split c refl m refl in
      by o.few_points i b.far f b.others b.whole b.first_at ∙ ap (λ (R : Ring ℕ). act_of G (map_ring (value of s) R)) (sym b.lone_is)
