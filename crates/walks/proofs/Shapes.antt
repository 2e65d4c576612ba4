-- How many points a ring has, as the tests of the code tell it: by its first point's next and prev.
use Prim.Native.Nat.{ℕ, ◌≤◌, ◌<◌}
use mathlib.Core.Path.{◌≡◌, refl, ap, ◌∙◌, sym, subst}
use mathlib.Core.Logic.{◌≢◌}
use mathlib.Core.Bool.{Bool, true, false, not}
use mathlib.Core.List.{List, [], ◌∷◌, map}
use native.Mathlib.Omega.{arith}
use lib.ListN.{length}
use borrow.Author.Tests.{eq-eqb, ne_eqb}
use Rattle.rings.specs.Circle.{last_of}
use Rattle.rings.specs.Count.{occ}
use Rattle.rings.specs.Whole.{Whole}
use Rattle.rings.proofs.Counting.{one_here, occ_head, occ_last_of}
use Rattle.rings.proofs.Linking.{prev_is}
use Rattle.rings.proofs.Members.{one_is, next_on, prev_on}
use Rattle.job.specs.Limits as limit
use Rattle.geometry.specs.Plane.{is_very_small_triangle}
use Rattle.lone.specs.Lone.{is_valid_closed_path}
use Rattle.lone.specs.Plane.{plane}
use Rattle.store.specs.Field.{NONE}
use Rattle.store.specs.Named.{points_of, next_of, prev_of, ring_of}
use Rattle.store.specs.Value.{point_of}
use Rattle.walks.specs.Ring.{OnRing, MaybeOnRing, Neighbours, values_from, values_of, is_very_small}
use Rattle.walks.proofs.Visiting.{split}

-- a, b, and those after: each once
module _ (w : List ℕ) (a : ℕ) where
  Ring : List ℕ → Type 0
  Ring l = Whole (next_of w) (prev_of w) (points_of w) (a ∷ l)

  module _ (n p m : ℕ) (en : n ≡ next_of w a) (ep : p ≡ prev_of w a) where
    -- next is the point itself: alone
    one_only : (l : List ℕ) → Ring l → n ≡ a → l ≡ []
    unfolding Ring
    one_only [] r h = refl
    one_only (b ∷ l) r h = absurd (omega (arith, r.once a, one_here a, one_is a b (sym h ∙ en ∙ r.linked.0)))

    -- next is prev: one or two
    two_only : (l : List ℕ) → Ring l → n ≡ p → length l ≤ 1
    unfolding Ring
    two_only [] r h = omega arith
    two_only (b ∷ []) r h = omega arith
    two_only (b ∷ c ∷ l) r h =
        let f : b ≡ last_of c l = sym r.linked.0 ∙ sym en ∙ h ∙ ep ∙ prev_is (next_of w) (prev_of w) a (b ∷ c ∷ l) r.linked in
        absurd (omega (arith, r.once b, one_here b, subst (λ (x : ℕ). 0 < occ x (c ∷ l)) (sym f) (occ_last_of c l)))

    module _ (em : m ≡ next_of w n) where
      -- the second after is the one before: one or three
      small_no : (l : List ℕ) → Ring l → m ≢ p → false ≡ is_very_small (map (point_of w) (a ∷ l))
      unfolding Ring
      small_no [] r h = absurd (h (em ∙ ap (next_of w) (en ∙ r.linked.0) ∙ r.linked.0 ∙ sym (ep ∙ r.linked.1)))
      small_no (b ∷ []) r h = refl
      small_no (b ∷ c ∷ []) r h = absurd (h (em ∙ ap (next_of w) (en ∙ r.linked.0) ∙ r.linked.2.0 ∙ sym (ep ∙ r.linked.2.2.1)))
      small_no (b ∷ c ∷ d ∷ l) r h = refl

      small_yes : (l : List ℕ) → Ring l → m ≡ p → (t : Bool) → t ≡ is_very_small_triangle (point_of w p) (point_of w a) (point_of w n) → t ≡ is_very_small (map (point_of w) (a ∷ l))
      unfolding Ring
      small_yes [] r h t e =
          let x : p ≡ a = ep ∙ r.linked.1 in
          let y : n ≡ a = en ∙ r.linked.0 in
          e ∙ ap (λ (k : ℕ). is_very_small_triangle (point_of w k) (point_of w a) (point_of w n)) x ∙ ap (λ (k : ℕ). is_very_small_triangle (point_of w a) (point_of w a) (point_of w k)) y
      small_yes (b ∷ []) r h t e =
          let x : a ≡ b = sym r.linked.2.0 ∙ ap (next_of w) (sym (en ∙ r.linked.0)) ∙ sym em ∙ h ∙ ep ∙ r.linked.2.1 in
          absurd (omega (arith, r.once a, one_here a, one_is a b x))
      small_yes (b ∷ c ∷ []) r h t e =
          let x : p ≡ c = ep ∙ r.linked.2.2.1 in
          let y : n ≡ b = en ∙ r.linked.0 in
          e ∙ ap (λ (k : ℕ). is_very_small_triangle (point_of w k) (point_of w a) (point_of w n)) x ∙ ap (λ (k : ℕ). is_very_small_triangle (point_of w c) (point_of w a) (point_of w k)) y
      small_yes (b ∷ c ∷ d ∷ l) r h t e =
          let x : m ≡ c = em ∙ ap (next_of w) (en ∙ r.linked.0) ∙ r.linked.2.0 in
          let f : c ≡ last_of d l = sym x ∙ h ∙ ep ∙ prev_is (next_of w) (prev_of w) a (b ∷ c ∷ d ∷ l) r.linked in
          absurd (omega (arith, r.once c, one_here c, subst (λ (k : ℕ). 0 < occ k (d ∷ l)) (sym f) (occ_last_of d l)))

-- ---- as the code asks

module _ (w : List ℕ) (op : ℕ) (r : OnRing w op) where
  member : 0 < occ op (ring_of w op)
  member = let t = split w op r in rw t.is (occ_head op t.others)

  pub op_low : op < limit.POINTS
  op_low = omega (arith, r.whole.below op member, r.few)

  module _ (n p : ℕ) (en : n ≡ next_of w op) (ep : p ≡ prev_of w op) where
    next_member : 0 < occ n (ring_of w op)
    next_member = rw en (next_on (next_of w) (prev_of w) (points_of w) (ring_of w op) r.whole op member)

    prev_member : 0 < occ p (ring_of w op)
    prev_member = rw ep (prev_on (next_of w) (prev_of w) (points_of w) (ring_of w op) r.whole op member)

    pub three : Neighbours w p op n
    three = record { long = r.long; few = r.few; one = r.points_in_lem p prev_member; two = r.points_in_lem op member; three = r.points_in_lem n next_member }

    one_none : n ≡ op → op ≢ NONE → false ≡ is_valid_closed_path (plane true) (values_of w op)
    unfolding Ring
    one_none h d =
        let t = split w op r in
        rw (ne_eqb op NONE d, t.is, one_only w op n p 0 en ep t.others t.ring h)

    two : (l : List ℕ) → length l ≤ 1 → false ≡ is_valid_closed_path (plane true) (map (point_of w) (op ∷ l))
    two [] h = refl
    two (b ∷ []) h = refl
    two (b ∷ c ∷ l) h = absurd (omega arith)

    two_none : n ≡ p → op ≢ NONE → false ≡ is_valid_closed_path (plane true) (values_of w op)
    unfolding Ring
    two_none h d =
        let t = split w op r in
        rw (ne_eqb op NONE d, t.is) (two t.others (two_only w op n p 0 en ep t.others t.ring h))

    three_on : (l : List ℕ) → ring_of w op ≡ op ∷ l → n ≢ op → n ≢ p → (b : Bool) → b ≡ is_very_small (map (point_of w) (op ∷ l)) → not b ≡ is_valid_closed_path (plane true) (map (point_of w) (op ∷ l))
    three_on [] e h k b f = absurd (h (en ∙ (rw e at r.whole.linked).0))
    three_on (x ∷ []) e h k b f = let s = (rw e at r.whole.linked) in absurd (k (en ∙ s.0 ∙ sym (ep ∙ s.2.1)))
    three_on (x ∷ y ∷ []) e h k b f = ap not f
    three_on (x ∷ y ∷ z ∷ l) e h k b f = ap not f

    else_valid : (b : Bool) → op ≢ NONE → n ≢ op → n ≢ p → b ≡ is_very_small (values_from w op) → not b ≡ is_valid_closed_path (plane true) (values_of w op)
    else_valid b d h k e =
        let t = split w op r in
        rw (ne_eqb op NONE d, t.is) (three_on t.others t.is h k b (rw t.is at e))

  module _ (n p m : ℕ) (en : n ≡ next_of w op) (ep : p ≡ prev_of w op) where
    pub next_low : n < limit.POINTS
    next_low = omega (arith, r.whole.below n (next_member n p en ep), r.few)

    module _ (em : m ≡ next_of w n) where
      pub not_small : m ≢ p → false ≡ is_very_small (values_from w op)
      unfolding Ring
      not_small h = let t = split w op r in rw t.is (small_no w op n p m en ep em t.others t.ring h)

      pub as_small : (t : Bool) → m ≡ p → t ≡ is_very_small_triangle (point_of w p) (point_of w op) (point_of w n) → t ≡ is_very_small (values_from w op)
      unfolding Ring
      as_small b h e = let t = split w op r in rw t.is (small_yes w op n p m en ep em t.others t.ring h b e)

-- none, or on a ring
pub none_is : (w : List ℕ) (op : ℕ) → op ≡ NONE → false ≡ is_valid_closed_path (plane true) (values_of w op)
none_is w op h = rw (eq-eqb op NONE h)

module _ (w : List ℕ) (op : ℕ) (g : MaybeOnRing w op) (d : op ≢ NONE) where
  pub the_ring : OnRing w op
  the_ring = g.ring d

  pub the_low : op < limit.POINTS
  the_low = op_low w op the_ring

  module _ (n : ℕ) (en : n ≡ next_of w op) where
    pub no_other : n ≡ op → false ≡ is_valid_closed_path (plane true) (values_of w op)
    no_other h = one_none w op the_ring n (prev_of w op) en refl h d

    module _ (p : ℕ) (ep : p ≡ prev_of w op) where
      pub no_third : n ≡ p → false ≡ is_valid_closed_path (plane true) (values_of w op)
      no_third h = two_none w op the_ring n p en ep h d

      pub judged : (b : Bool) → n ≢ op → n ≢ p → b ≡ is_very_small (values_from w op) → not b ≡ is_valid_closed_path (plane true) (values_of w op)
      judged b h k e = else_valid w op the_ring n p en ep b d h k e
