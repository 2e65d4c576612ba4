-- What the needs of the deciding code come to: each premise is what a callee ensures, or a branch.
use Prim.Native.Nat.{ℕ, ◌*◌, ◌/◌, ◌%◌, ◌≤◌, ◌<◌}
use mathlib.Core.Path.{◌≡◌, refl, ap, ◌∙◌, sym, subst}
use mathlib.Core.Logic.{◌≢◌}
use mathlib.Core.Bool.{Bool, true, false, cond, not, ◌||◌, beq}
use mathlib.Core.List.{List, [], ◌∷◌, map}
use native.Mathlib.Omega.{arith}
use lib.Dec.{eqb, ltb, leb}
use lib.IntN.{ℤ, pos, nat_abs}
use lib.Signed.{lt_z}
use lib.Ieee.{Float}
use borrow.Author.Tests.{eq-eqb, ne_eqb, lt-ltb, le-ltb, le-leb, lt-leb}
use mir.Syntax.{w64}
use mir.Val.{to_z, of_z, SFits}
use mir.Facts.{to_z-of_z}
use Rattle.rings.specs.Progress.{validity, removal, triangle, split, done, at_validity, while_removing, at_split}
use Rattle.rings.specs.Progress as rings
use Rattle.rings.specs.Walk.{walk}
use Rattle.geometry.specs.declared.Point.{Point}
use Rattle.geometry.specs.Plane.{same_point, is_very_small_triangle, removable, segments_intersect, area_triangle, area_outpt}
use Rattle.crossing.specs.declared.Edges.{Edges}
use Rattle.crossing.specs.declared.Crossing.{Crossing}
use Rattle.crossing.specs.declared.Crossing.TheVariants.{Parallel, Start, End, Inside}
use Rattle.crossing.specs.Crossing.{crossing, point_at}
use Rattle.crossing.specs.Within.{edges_of, Paired, Crossed}
use Rattle.crossing.proofs.Differences.{paired_of}
use Rattle.crossing.proofs.Crossings.{crossed_as}
use Rattle.lone.specs.Act.{Act, stay, discard, drop_point, move_on, to_first, double, cut}
use Rattle.lone.specs.Lone.{is_valid_closed_path}
use Rattle.lone.specs.Plane.{plane}
use Rattle.store.specs.Field.{pt, rc, ct, NEXT, PREV, FIRST, PRESENT, START, SETTINGS}
use Rattle.store.specs.Words.{view, cell}
use Rattle.store.specs.Sound.{due_at}
use Rattle.store.specs.Value as value
use Rattle.store.specs.Value.{preserve_collinear}
use Rattle.walks.specs.Ring.{OnRing, MaybeOnRing, values_from, values_of}
use Rattle.turns.specs.declared.Due.{Due}
use Rattle.turns.specs.declared.Due.TheVariants.{Validity, Removal, Triangle, Split, Done}
use Rattle.turns.specs.Code.{due_is}
use Rattle.turns.specs.Form.{raised, geometry_of}
use Rattle.turns.specs.Reads.{Found, Valued, Going, Three, Four, EdgesAt}
use Rattle.turns.specs.Decide.{keeps_by, small_at, remove_at, valid_without, removal_at, validity_at, triangle_at, three_from, three_left, due_on, ring_from, cut_at, split_op_at, crossed_at, split_at, decide_due, decide_at}
use Rattle.turns.proofs.Reading.{found}
use Rattle.turns.proofs.Sizes.{ring_fits}

-- ---- what is read is on the ring
pub found_present : (w : List ℕ) (i r : ℕ) → Going w i → r ≡ cell (rc PRESENT) w i → Found w (cell (rc PRESENT) w i) r
found_present w i r g e = found w (cell (rc PRESENT) w i) r e g.present_on

pub found_first : (w : List ℕ) (i r : ℕ) → Going w i → r ≡ cell (rc FIRST) w i → Found w (cell (rc FIRST) w i) r
found_first w i r g e = found w (cell (rc FIRST) w i) r e g.first_on

pub maybe : (w : List ℕ) (k a : ℕ) → Found w k a → MaybeOnRing w a
maybe w k a f = record { long = f.on.long; ring = λ n. f.on }

pub three_of : (w : List ℕ) (j k l a b c : ℕ) → Found w j a → Found w k b → Found w l c → Three w a b c
three_of w j k l a b c f g h = record { one = f.on; two = g.on; three = h.on }

pub four_of : (w : List ℕ) (j k l m a b c d : ℕ) → Found w j a → Found w k b → Found w l c → Found w m d → Four w a b c d
four_of w j k l m a b c d f g h e = record { one = f.on; two = g.on; three = h.on; four = e.on }

-- ---- the validity test
valid_any : (k : Bool) (c : List Point) → is_valid_closed_path (plane true) c ≡ is_valid_closed_path (plane k) c
valid_any k [] = refl
valid_any k (a ∷ []) = refl
valid_any k (a ∷ b ∷ []) = refl
valid_any k (a ∷ b ∷ c ∷ []) = refl
valid_any k (a ∷ b ∷ c ∷ d ∷ r) = refl

module _ (w : List ℕ) (i f : ℕ) (b : Bool) (F : Found w (cell (rc FIRST) w i) f) (e : b ≡ is_valid_closed_path (plane true) (values_of w f)) where
  valid_at : is_valid_closed_path (geometry_of (view w)) (ring_from raised.of (geometry_of (view w)) (view w) (cell (rc FIRST) w i)) ≡ b
  valid_at =
      let n : eqb f 65535 ≡ false = ne_eqb f 65535 (λ z. omega (arith, F.low)) in
      let v : values_of w f ≡ map (value.point_of w) (walk (view w (pt NEXT)) (cell (rc FIRST) w i)) = rw n (ap (λ (k : ℕ). map (value.point_of w) (walk (view w (pt NEXT)) k)) F.is) in
      sym (e ∙ ap (is_valid_closed_path (plane true)) v ∙ valid_any (preserve_collinear (view w)) (map (value.point_of w) (walk (view w (pt NEXT)) (cell (rc FIRST) w i))))

  pub is_valid : b ≡ true → ◌≡◌ {A = Act Point} (to_first removal) (validity_at raised.of (geometry_of (view w)) (view w) i)
  unfolding validity_at
  is_valid h = rw (valid_at ∙ h)

  pub not_valid : b ≡ false → ◌≡◌ {A = Act Point} (discard at_validity) (validity_at raised.of (geometry_of (view w)) (view w) i)
  unfolding validity_at
  not_valid h = rw (valid_at ∙ h)

-- ---- a removal turn
pub removable_at : (w : List ℕ) (p x n : ℕ) (keep r : Bool) (a b c : Point) → keep ≡ preserve_collinear (view w) → Valued w p a → Valued w x b → Valued w n c → r ≡ removable keep a b c
    → r ≡ remove_at raised.of (geometry_of (view w)) (view w) p x n
removable_at w p x n keep r a b c k A B C e = rw (e, k, A.is, B.is, C.is)

pub small_at_lem : (w : List ℕ) (a b c : ℕ) (r : Bool) (p q s : Point) → Valued w a p → Valued w b q → Valued w c s → r ≡ is_very_small_triangle s p q → r ≡ small_at raised.of (geometry_of (view w)) (view w) a b c
small_at_lem w a b c r p q s A B C e = rw (e, A.is, B.is, C.is)

module _ (w : List ℕ) (x a : ℕ) (A : Found w (cell (pt NEXT) w x) a) where
  pub valid_1 : a ≡ x → false ≡ valid_without raised.of (geometry_of (view w)) (view w) x
  unfolding valid_without
  valid_1 h = rw (eq-eqb (cell (pt NEXT) w x) x (sym A.is ∙ h))

  module _ (b : ℕ) (B : Found w (cell (pt NEXT) w a) b) where
    pub valid_2 : a ≢ x → b ≡ x → false ≡ valid_without raised.of (geometry_of (view w)) (view w) x
    unfolding valid_without
    valid_2 n h = rw (← A.is) (rw (ne_eqb a x n, ← B.is) (rw (eq-eqb b x h)))

    module _ (c : ℕ) (C : Found w (cell (pt NEXT) w b) c) where
      pub valid_3 : a ≢ x → b ≢ x → c ≡ x → false ≡ valid_without raised.of (geometry_of (view w)) (view w) x
      unfolding valid_without
      valid_3 n m h = rw (← A.is) (rw (ne_eqb a x n, ← B.is) (rw (ne_eqb b x m, ← C.is) (rw (eq-eqb c x h))))

      module _ (e : ℕ) (E : Found w (cell (pt NEXT) w c) e) where
        pub valid_4 : (t : Bool) → a ≢ x → b ≢ x → c ≢ x → e ≡ x → t ≡ small_at raised.of (geometry_of (view w)) (view w) a b c → not t ≡ valid_without raised.of (geometry_of (view w)) (view w) x
        unfolding valid_without
        valid_4 t n m k h q = rw (← A.is) (rw (ne_eqb a x n, ← B.is) (rw (ne_eqb b x m, ← C.is) (rw (ne_eqb c x k, ← E.is) (rw (eq-eqb e x h) (ap not q)))))

        pub valid_5 : a ≢ x → b ≢ x → c ≢ x → e ≢ x → true ≡ valid_without raised.of (geometry_of (view w)) (view w) x
        unfolding valid_without
        valid_5 n m k h = rw (← A.is) (rw (ne_eqb a x n, ← B.is) (rw (ne_eqb b x m, ← C.is) (rw (ne_eqb c x k, ← E.is) (rw (ne_eqb e x h)))))

pub drops : (v u : Bool) → v ≡ u → v ≡ true → ◌≡◌ {A = Act Point} drop_point (cond u drop_point (discard while_removing))
drops v u e h = rw (sym e ∙ h)

pub discards : (v u : Bool) → v ≡ u → v ≡ false → ◌≡◌ {A = Act Point} (discard while_removing) (cond u drop_point (discard while_removing))
discards v u e h = rw (sym e ∙ h)

module _ (w : List ℕ) (i x n p : ℕ) (g : Bool) (X : Found w (cell (rc PRESENT) w i) x) (N : Found w (cell (pt NEXT) w x) n) (Q : Found w (cell (pt PREV) w x) p)
    (eg : g ≡ remove_at raised.of (geometry_of (view w)) (view w) p x n) where
  pub turn_drops : (r : Act Point) → g ≡ true → r ≡ cond (valid_without raised.of (geometry_of (view w)) (view w) x) drop_point (discard while_removing) → r ≡ removal_at raised.of (geometry_of (view w)) (view w) i
  unfolding removal_at
  turn_drops r h q = rw (← X.is) (rw (← N.is, ← Q.is) (rw (sym eg ∙ h) q))

  pub turn_ends : (s : ℕ) → g ≡ false → s ≡ cell (rc START) w i → n ≡ s → move_on triangle ≡ removal_at raised.of (geometry_of (view w)) (view w) i
  unfolding removal_at
  turn_ends s h es q = rw (← X.is) (rw (← N.is, ← Q.is) (rw (sym eg ∙ h, eq-eqb n (cell (rc START) w i) (q ∙ es))))

  pub turn_goes : (s : ℕ) → g ≡ false → s ≡ cell (rc START) w i → n ≢ s → move_on removal ≡ removal_at raised.of (geometry_of (view w)) (view w) i
  unfolding removal_at
  turn_goes s h es q = rw (← X.is) (rw (← N.is, ← Q.is) (rw (sym eg ∙ h, ne_eqb n (cell (rc START) w i) (λ z. q (z ∙ sym es)))))

-- ---- the triangle test
pub three_is : (w : List ℕ) (a p n m : ℕ) → Found w (cell (pt PREV) w a) p → Found w (cell (pt NEXT) w a) n → Found w (cell (pt NEXT) w n) m → eqb p m ≡ three_from (view w) a
three_is w a p n m P N M = rw (P.is, M.is, N.is)

module _ (w : List ℕ) (i f : ℕ) (t : Bool) (F : Found w (cell (rc FIRST) w i) f) (e : t ≡ three_from (view w) f) where
  pub is_triangle : t ≡ true → ◌≡◌ {A = Act Point} (to_first done) (triangle_at (view w) i)
  is_triangle h = rw (← F.is) (rw (sym e ∙ h))

  pub not_triangle : t ≡ false → ◌≡◌ {A = Act Point} (to_first split) (triangle_at (view w) i)
  not_triangle h = rw (← F.is) (rw (sym e ∙ h))

-- ---- a split turn
module _ (w : List ℕ) (i k f : ℕ) (ef : f ≡ cell (rc FIRST) w i) where
  pub ends_first : k ≡ f → done ≡ due_on (view w) i k
  ends_first h = rw (eq-eqb k (cell (rc FIRST) w i) (h ∙ ef))

  module _ (n : k ≢ f) (s : ℕ) (es : s ≡ cell (rc START) w i) where
    not_first : eqb k (cell (rc FIRST) w i) ≡ false
    not_first = ne_eqb k (cell (rc FIRST) w i) (λ z. n (z ∙ sym ef))

    pub ends_start : k ≡ s → done ≡ due_on (view w) i k
    ends_start h = rw (not_first, eq-eqb k (cell (rc START) w i) (h ∙ es))

    pub goes_on : k ≢ s → split ≡ due_on (view w) i k
    goes_on h = rw (not_first, ne_eqb k (cell (rc START) w i) (λ z. h (z ∙ sym es)))

pub edges_at : (w : List ℕ) (p x y z : ℕ) (a b c d : Point) (e : Edges) → Valued w p a → Valued w x b → Valued w y c → Valued w z d → e ≡ edges_of a b c d → EdgesAt w p x y z e
edges_at w p x y z a b c d e A B C D q =
    record {
      paired = paired_of A.in_table B.in_table C.in_table D.in_table q;
      prev_is = rw q A.is;
      pt_is = rw q B.is;
      next_is = rw q C.is;
      after_is = rw q D.is;
    }

-- the crossing point, by the crossing's kind
module _ (e : Edges) (f : Crossing) (p : Paired e) (q : f ≡ crossing e.a e.b e.c e.d) where
  pub crossed_parallel : f ≡ Parallel → Crossed e.a e.b e.c e.d e.a
  crossed_parallel h = crossed_as p q h refl

  pub crossed_start : f ≡ Start → Crossed e.a e.b e.c e.d e.a
  crossed_start h = crossed_as p q h refl

  pub crossed_end : f ≡ End → Crossed e.a e.b e.c e.d e.b
  crossed_end h = crossed_as p q h refl

  pub crossed_inside : (t s : Float) (r : Point) → f ≡ Inside t s → r ≡ point_at e.a e.b t → Crossed e.a e.b e.c e.d r
  crossed_inside t s r h k = crossed_as p q h k

-- what the second crossing test asks
pub twice_paired : (w : List ℕ) (k : Edges) (u : ℕ) (v : Point) (g : Edges) → Paired k → Valued w u v → g ≡ edges_of k.a k.b k.d v → Paired g
twice_paired w k u v g P W q = paired_of P.a_in P.b_in P.d_in W.in_table q

pub put_is : (ip prev z : Point) (a b : Bool) → a ≡ same_point ip prev → b ≡ same_point ip z → not (a || b) ≡ not (same_point ip prev || same_point ip z)
put_is ip prev z a b e f = rw (e, f)

-- the offcut's test
module _ (area1 area2 : ℤ) (f1 : SFits w64 area1) (f2 : SFits w64 area2) (n2 : ℕ) (q2 : n2 ≡ nat_abs (to_z w64 (of_z w64 area2))) where
  e2 : n2 ≡ nat_abs area2
  e2 = q2 ∙ ap nat_abs (to_z-of_z f2)

  pub too_little : n2 < 1 → false ≡ keeps_by area1 area2
  too_little h = rw (lt-leb 1 (nat_abs area2) (omega (arith, e2)))

  module _ (l : 1 ≤ n2) (n1 : ℕ) (q1 : n1 ≡ nat_abs (to_z w64 (of_z w64 area1))) where
    e1 : n1 ≡ nat_abs area1
    e1 = q1 ∙ ap nat_abs (to_z-of_z f1)

    enough : leb 1 (nat_abs area2) ≡ true
    enough = le-leb 1 (nat_abs area2) (omega (arith, e2))

    pub larger : n1 / 2 < n2 → true ≡ keeps_by area1 area2
    larger h = rw (enough, lt-ltb (nat_abs area1) (2 * nat_abs area2) (omega (arith, e1, e2)))

    module _ (h : n2 ≤ n1 / 2) where
      no_larger : ltb (nat_abs area1) (2 * nat_abs area2) ≡ false
      no_larger = le-ltb (nat_abs area1) (2 * nat_abs area2) (omega (arith, e1, e2))

      pub both_plus : lt_z (pos 0) (to_z w64 (of_z w64 area2)) ≡ true → lt_z (pos 0) (to_z w64 (of_z w64 area1)) ≡ keeps_by area1 area2
      both_plus g = rw (to_z-of_z f1, enough, no_larger, rw (to_z-of_z f2) at g) (by (lt_z (pos 0) area1))
        where
          by : (b : Bool) → b ≡ beq true b
          by true = refl
          by false = refl

      pub one_minus : lt_z (pos 0) (to_z w64 (of_z w64 area2)) ≡ false → not (lt_z (pos 0) (to_z w64 (of_z w64 area1))) ≡ keeps_by area1 area2
      one_minus g = rw (to_z-of_z f1, enough, no_larger, rw (to_z-of_z f2) at g) (by (lt_z (pos 0) area1))
        where
          by : (b : Bool) → not b ≡ beq false b
          by true = refl
          by false = refl

module _ (w : List ℕ) (x a b c e : ℕ) (put : Bool) (A : Found w (cell (pt NEXT) w x) a) (B : Found w (cell (pt NEXT) w a) b) (C : Found w (cell (pt NEXT) w b) c) (E : Found w (cell (pt NEXT) w c) e) where
  pub left_put : put ≡ true → eqb e x ≡ three_left (view w) put x
  left_put h = subst (λ (t : Bool). eqb e x ≡ three_left (view w) t x) (sym h) (rw (E.is, C.is, B.is, A.is))

  pub left_plain : (f : ℕ) → put ≡ false → Found w (cell (pt NEXT) w e) f → eqb f x ≡ three_left (view w) put x
  left_plain f h F = subst (λ (t : Bool). eqb f x ≡ three_left (view w) t x) (sym h) (rw (F.is, E.is, C.is, B.is, A.is))

pub left_done : (t u : Bool) → t ≡ u → t ≡ true → done ≡ cond u done split
left_done t u e h = rw (sym e ∙ h)

pub left_more : (t u : Bool) → t ≡ u → t ≡ false → split ≡ cond u done split
left_more t u e h = rw (sym e ∙ h)

pub cut_is : (w : List ℕ) (x : ℕ) (k : Edges) (area1 : ℤ) (ip : Point) (put off : Bool) (due : rings.Due) → SFits w64 area1 → Crossed k.a k.b k.c k.d ip
    → put ≡ not (same_point ip k.a || same_point ip k.d) → off ≡ keeps_by (to_z w64 (of_z w64 area1)) (area_triangle ip k.b k.c) → due ≡ cond (three_left (view w) put x) done split
    → cut ip put off due ≡ cut_at raised.of (geometry_of (view w)) (view w) area1 x k.a k.b k.c k.d
unfolding cut_at
cut_is w x k area1 ip put off due f I ep eo ed = rw (ed, eo, to_z-of_z f, ep, I.is)

module _ (w : List ℕ) (p x : ℕ) (k : Edges) (area1 : ℤ) (n : ℕ) (o : OnRing w p) (ea : area1 ≡ area_outpt (values_from w p)) (en : n ≡ nat_abs (to_z w64 (of_z w64 area1))) where
  area_is : to_z w64 (of_z w64 area1) ≡ area_outpt (values_from w p)
  area_is = rw ea (to_z-of_z (ring_fits w p o))

  pub too_small : n < 4 → discard at_split ≡ split_op_at raised.of (geometry_of (view w)) (view w) p x k.a k.b k.c k.d
  unfolding split_op_at
  too_small h = rw (lt-ltb (nat_abs (area_outpt (values_from w p))) 4 (rw (← area_is, ← en) h))

  pub large : (r : Act Point) → 4 ≤ n → r ≡ cut_at raised.of (geometry_of (view w)) (view w) (to_z w64 (of_z w64 area1)) x k.a k.b k.c k.d
      → r ≡ split_op_at raised.of (geometry_of (view w)) (view w) p x k.a k.b k.c k.d
  unfolding split_op_at
  large r h e = rw (le-ltb (nat_abs (area_outpt (values_from w p))) 4 (rw (← area_is, ← en) h)) (e ∙ ap (λ (m : ℤ). cut_at raised.of (geometry_of (view w)) (view w) m x k.a k.b k.c k.d) area_is)

module _ (w : List ℕ) (i p x z u : ℕ) (k : Edges) (v : Point) (t : Bool) (g : Edges) (U : Found w (cell (pt NEXT) w z) u) (W : Valued w u v) (eg : g ≡ edges_of k.a k.b k.d v) (et : t ≡ segments_intersect g.a g.b g.c g.d) where
  twice_is : t ≡ segments_intersect k.a k.b k.d (value.point_of w (cell (pt NEXT) w z))
  twice_is = (rw eg at et) ∙ ap (segments_intersect k.a k.b k.d) (W.is ∙ ap (value.point_of w) U.is)

  pub doubles : (d : rings.Due) → t ≡ true → d ≡ due_on (view w) i x → double k.d d ≡ crossed_at raised.of (geometry_of (view w)) (view w) i p x z k.a k.b k.c k.d
  unfolding crossed_at
  doubles d h ed = rw (sym twice_is ∙ h, ed)

  pub splits : (r : Act Point) → t ≡ false → r ≡ split_op_at raised.of (geometry_of (view w)) (view w) p x k.a k.b k.c k.d
      → r ≡ crossed_at raised.of (geometry_of (view w)) (view w) i p x z k.a k.b k.c k.d
  unfolding crossed_at
  splits r h e = rw (sym twice_is ∙ h) e

module _ (w : List ℕ) (i p x y z : ℕ) (k : Edges) (t : Bool) (X : Found w (cell (rc PRESENT) w i) x) (Y : Found w (cell (pt NEXT) w x) y) (Z : Found w (cell (pt NEXT) w y) z) (Q : Found w (cell (pt PREV) w x) p)
    (K : EdgesAt w p x y z k) (et : t ≡ segments_intersect k.a k.b k.c k.d) where
  hit_is : t ≡ segments_intersect (value.point_of w p) (value.point_of w x) (value.point_of w y) (value.point_of w z)
  hit_is = rw (← K.prev_is, ← K.pt_is, ← K.next_is, ← K.after_is) et

  pub crosses : (r : Act Point) → t ≡ true → r ≡ crossed_at raised.of (geometry_of (view w)) (view w) i p x z k.a k.b k.c k.d → r ≡ split_at raised.of (geometry_of (view w)) (view w) i
  unfolding split_at
  crosses r h e = rw (← X.is) (rw (← Y.is, ← Q.is) (rw (← Z.is) (rw (sym hit_is ∙ h) (rw (← K.prev_is, ← K.pt_is, ← K.next_is, ← K.after_is) e))))

  pub moves : (d : rings.Due) → t ≡ false → d ≡ due_on (view w) i y → move_on d ≡ split_at raised.of (geometry_of (view w)) (view w) i
  unfolding split_at
  moves d h e = rw (← X.is) (rw (← Y.is, ← Q.is) (rw (← Z.is) (rw (sym hit_is ∙ h, e))))

-- ---- by the step due
pub by_due : (w : List ℕ) (i : ℕ) (d : rings.Due) (r : Act Point) → d ≡ due_at (view w) i → r ≡ decide_due raised.of (geometry_of (view w)) (view w) i d → r ≡ decide_at raised.of (geometry_of (view w)) (view w) i
unfolding decide_at
by_due w i d r e h = h ∙ ap (decide_due raised.of (geometry_of (view w)) (view w) i) e

module _ (w : List ℕ) (i : ℕ) (t : Due) (e : due_is t ≡ due_at (view w) i) (r : Act Point) where
  pub at_validity_lem : t ≡ Validity → r ≡ validity_at raised.of (geometry_of (view w)) (view w) i → r ≡ decide_at raised.of (geometry_of (view w)) (view w) i
  at_validity_lem h q = by_due w i validity r (sym (ap due_is h) ∙ e) q

  pub at_removal : t ≡ Removal → r ≡ removal_at raised.of (geometry_of (view w)) (view w) i → r ≡ decide_at raised.of (geometry_of (view w)) (view w) i
  at_removal h q = by_due w i removal r (sym (ap due_is h) ∙ e) q

  pub at_triangle : t ≡ Triangle → r ≡ triangle_at (view w) i → r ≡ decide_at raised.of (geometry_of (view w)) (view w) i
  at_triangle h q = by_due w i triangle r (sym (ap due_is h) ∙ e) q

  pub at_split_lem : t ≡ Split → r ≡ split_at raised.of (geometry_of (view w)) (view w) i → r ≡ decide_at raised.of (geometry_of (view w)) (view w) i
  at_split_lem h q = by_due w i split r (sym (ap due_is h) ∙ e) q

pub at_done : (w : List ℕ) (i : ℕ) (t : Due) → due_is t ≡ due_at (view w) i → t ≡ Done → stay ≡ decide_at raised.of (geometry_of (view w)) (view w) i
at_done w i t e h = by_due w i done stay (sym (ap due_is h) ∙ e) refl

pub preserve_is : (w : List ℕ) (s : ℕ) → s ≡ cell (ct SETTINGS) w 0 → eqb (s % 2) 1 ≡ preserve_collinear (view w)
preserve_is w s e = rw e
