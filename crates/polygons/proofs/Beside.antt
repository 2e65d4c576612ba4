-- A point beside all of a path, above, below, to its left or to its right, is outside it.
use Prim.Native.Nat.{ℕ, zero, suc, ◌+◌, ◌≤◌, ◌<◌}
use mathlib.Core.Path.{◌≡◌, refl, sym, ap, ◌∙◌, subst}
use mathlib.Core.Bool.{Bool, true, false, cond, not, ◌||◌, beq, true≢false, false≢true}
use mathlib.Core.List.{List, [], ◌∷◌, ◌++◌, append_assoc}
use mathlib.Core.Logic.{◌⊎◌, inl, inr}
use native.Mathlib.Omega.{arith}
use lib.Dec.{ltb}
use lib.IntN.{ℤ}
use lib.ListN.{length, take, drop}
use lib.Signed.{lt_z}
use Rattle.exact.specs.Equal.{eq_z}
use Rattle.exact.proofs.Size.{ne_eq_z}
use Rattle.exact.proofs.Parts.{pp, np}
use Rattle.rings.specs.Circle.{last_of}
use Rattle.geometry.specs.declared.Point.{Point}
use Rattle.geometry.specs.Plane.{cross_product_sign}
use Rattle.rays.specs.declared.Way.{Way}
use Rattle.rays.specs.declared.Way.TheVariants.{Stays, Passes, Crosses}
use Rattle.rays.specs.Edge.{is_level, is_above, level_way, over_way, way_of}
use Rattle.rays.specs.Needs.{BeginsOn}
use Rattle.rays.proofs.Shortcuts.{lt_parts, parts_ge, over_right, over_left}
use Rattle.polygons.specs.declared.PointInPolygonResult.TheVariants.{IsOutside}
use Rattle.polygons.specs.declared.Tour.{Tour}
use Rattle.polygons.specs.Polygon.{after, along, walk, start, result_of, round_from, levels, point_in_polygon}
use Rattle.polygons.specs.Needs.{Sided}
use Rattle.polygons.proofs.Going.{start_sided, along_sided, walk_append}
use Rattle.polygons.proofs.Written.{first_off}

-- ---- lists
abbrev pub All : (Point → Type 0) → List Point → Type 0
All E [] = Unit {0}
All E (q ∷ qs) = E q × All E qs

module _ (E : Point → Type 0) where
  all_append : (a b : List Point) → All E a → All E b → All E (a ++ b)
  all_append [] b h k = k
  all_append (p ∷ a) b h k = (h.0, all_append a b h.1 k)

  all_take : (n : ℕ) (a : List Point) → All E a → All E (take n a)
  all_take zero a h = tt
  all_take (suc n) [] h = tt
  all_take (suc n) (p ∷ a) h = (h.0, all_take n a h.1)

  all_drop : (n : ℕ) (a : List Point) → All E a → All E (drop n a)
  all_drop zero a h = h
  all_drop (suc n) [] h = tt
  all_drop (suc n) (p ∷ a) h = all_drop n a h.1

-- ---- order
module _ (a b : ℤ) (h : lt_z a b ≡ true) where
  pub not_equal : eq_z b a ≡ false
  not_equal = ne_eq_z b a (λ z. let k = lt_parts a b h in omega (arith, ap pp z, ap np z))

  pub not_equal_back : eq_z a b ≡ false
  not_equal_back = ne_eq_z a b (λ z. let k = lt_parts a b h in omega (arith, ap pp z, ap np z))

  pub not_more : lt_z b a ≡ false
  not_more = let k = lt_parts a b h in parts_ge b a (omega arith)

-- ---- once round, keeping a fact of the tour
along_seen : (pt : Point) (s : Tour) (p q : Point) → s.on ≡ false → along pt s p q ≡ after s (way_of pt s.above p q)
unfolding along
along_seen pt s p q h = rw h

module _ (pt : Point) (E : Point → Type 0) (Q : Tour → Type 0) (keeps : (s : Tour) (p q : Point) → Q s → Sided pt s p → E p → E q → Q (along pt s p q)) where
  walk_keeps : (s : Tour) (p : Point) (l : List Point) → Q s → Sided pt s p → E p → All E l → Q (walk pt s p l)
  walk_keeps s p [] h d e k = h
  walk_keeps s p (q ∷ l) h d e k = walk_keeps (along pt s p q) q l (keeps s p q h d e k.0) (along_sided pt p q s) k.0 k.1

abbrev tour : Point → List Point → Point → List Point → Tour
tour pt a v rest = walk pt (start pt v) v (rest ++ (a ++ (v ∷ [])))

-- it ends at v, whose side it knows
tour_sided : (pt : Point) (a : List Point) (v : Point) (rest : List Point) → Sided pt (tour pt a v rest) v
tour_sided pt a v rest =
    subst (λ (x : Tour). Sided pt x v)
    (sym (walk_append pt (start pt v) v (rest ++ a) (v ∷ [])) ∙ ap (walk pt (start pt v) v) (append_assoc rest a (v ∷ [])))
    (along_sided pt (last_of v (rest ++ a)) v (walk pt (start pt v) v (rest ++ a)))

module _ (pt : Point) (E : Point → Type 0) (round : (a : List Point) (v : Point) (rest : List Point) → is_level pt v ≡ false → All E a → E v → All E rest → result_of (tour pt a v rest) ≡ IsOutside) where
  by_round : (a l : List Point) → ((v : Point) (rest : List Point) → l ≡ v ∷ rest → is_level pt v ≡ false) → All E a → All E l → round_from pt a l ≡ IsOutside
  by_round a [] f h k = refl
  by_round a (v ∷ rest) f h k = round a v rest (f v rest refl) h k.0 k.1

  polygon_outside : (ps : List Point) → All E ps → point_in_polygon pt ps ≡ IsOutside
  unfolding point_in_polygon
  polygon_outside ps h = go (ltb (length ps) 3)
    where
      go : (b : Bool) → cond b IsOutside (round_from pt (take (levels pt ps) ps) (drop (levels pt ps) ps)) ≡ IsOutside
      go true = refl
      go false = by_round (take (levels pt ps) ps) (drop (levels pt ps) ps) (first_off pt ps) (all_take E (levels pt ps) ps h) (all_drop E (levels pt ps) ps h)

result_outside : (s : Tour) → s.on ≡ false → s.odd ≡ false → result_of s ≡ IsOutside
result_outside s h k = rw (h, k)

-- ---- off the level, on one side of it
pub record Beside (pt : Point) (b : Bool) (q : Point) : Type 0 where
  pub off : is_level pt q ≡ false
  pub side : is_above pt q ≡ b

beq_same : (b : Bool) → beq b b ≡ true
beq_same true = refl
beq_same false = refl

module _ (pt : Point) (b : Bool) where
  begun : Tour
  begun = record { on = false; above = b; odd = false }

  beside_stays : (p q : Point) → Beside pt b q → way_of pt b p q ≡ Stays
  unfolding way_of
  beside_stays p q h = rw (h.off, h.side, beq_same b)

  beside_keeps : (s : Tour) (p q : Point) → s ≡ begun → Sided pt s p → Beside pt b p → Beside pt b q → along pt s p q ≡ begun
  unfolding begun
  beside_keeps s p q e d h k = ap (λ (x : Tour). along pt x p q) e ∙ along_seen pt begun p q refl ∙ ap (after begun) (beside_stays p q k)

  beside_round : (a : List Point) (v : Point) (rest : List Point) → is_level pt v ≡ false → All (Beside pt b) a → Beside pt b v → All (Beside pt b) rest → result_of (tour pt a v rest) ≡ IsOutside
  unfolding begun
  beside_round a v rest f h e k =
      ap result_of
      (walk_keeps pt (Beside pt b) (λ (s : Tour). s ≡ begun) beside_keeps (start pt v) v (rest ++ (a ++ (v ∷ [])))
      (ap (λ (x : Bool). record { on = false; above = x; odd = false }) e.side) (start_sided pt v) e
      (all_append (Beside pt b) rest (a ++ (v ∷ [])) k (all_append (Beside pt b) a (v ∷ []) h (e, tt))))

-- ---- wholly on the right: no crossing
abbrev pub Right : Point → Point → Type 0
Right pt q = lt_z pt.x q.x ≡ true

record Uncrossed (s : Tour) : Type 0 where
  off : s.on ≡ false
  even : s.odd ≡ false

module _ (pt p q : Point) (h : Right pt p) (k : Right pt q) where
  right_level : level_way pt p q ≡ Stays
  unfolding level_way
  right_level = rw (not_equal pt.x q.x k, h, k) (go (is_level pt p))
    where
      go : (b : Bool) → cond b Stays Stays ≡ Stays
      go true = refl
      go false = refl

  right_way : (above : Bool) → BeginsOn pt above p → (way_of pt above p q ≡ Stays) ⊎ (way_of pt above p q ≡ Passes)
  unfolding way_of
  right_way above f = go (is_level pt q) (beq (is_above pt q) above) refl refl
    where
      go : (l b : Bool) → is_level pt q ≡ l → beq (is_above pt q) above ≡ b
          → (cond l (level_way pt p q) (cond b Stays (over_way above (cross_product_sign p q pt))) ≡ Stays) ⊎ (cond l (level_way pt p q) (cond b Stays (over_way above (cross_product_sign p q pt))) ≡ Passes)
      go true b i j = inl right_level
      go false true i j = inl refl
      go false false i j = inr (sym (over_right pt p q above (record { from = f; off = i; other = j }) h k))

module _ (pt : Point) where
  right_keeps : (s : Tour) (p q : Point) → Uncrossed s → Sided pt s p → Right pt p → Right pt q → Uncrossed (along pt s p q)
  right_keeps s p q u d h k = subst Uncrossed (sym (along_seen pt s p q u.off)) (go (right_way pt p q h k s.above (d.known u.off)))
    where
      go : (way_of pt s.above p q ≡ Stays) ⊎ (way_of pt s.above p q ≡ Passes) → Uncrossed (after s (way_of pt s.above p q))
      go (inl e) = subst (λ (w : Way). Uncrossed (after s w)) (sym e) u
      go (inr e) = subst (λ (w : Way). Uncrossed (after s w)) (sym e) (record { off = u.off; even = u.even })

  right_round : (a : List Point) (v : Point) (rest : List Point) → is_level pt v ≡ false → All (Right pt) a → Right pt v → All (Right pt) rest → result_of (tour pt a v rest) ≡ IsOutside
  right_round a v rest f h e k =
      let u =
      walk_keeps pt (Right pt) Uncrossed right_keeps (start pt v) v (rest ++ (a ++ (v ∷ []))) (record { off = refl; even = refl }) (start_sided pt v) e
      (all_append (Right pt) rest (a ++ (v ∷ [])) k (all_append (Right pt) a (v ∷ []) h (e, tt)))
      in
      result_outside (tour pt a v rest) u.off u.even

-- ---- wholly on the left: a crossing each time the side changes, so an even number
abbrev pub Left : Point → Point → Type 0
Left pt q = lt_z q.x pt.x ≡ true

record Alternating (first : Bool) (s : Tour) : Type 0 where
  off : s.on ≡ false
  count : s.odd ≡ not (beq s.above first)

turn_over : (a b : Bool) → not (not (beq a b)) ≡ not (beq (not a) b)
turn_over true true = refl
turn_over true false = refl
turn_over false true = refl
turn_over false false = refl

module _ (pt p q : Point) (h : Left pt p) (k : Left pt q) where
  left_level : level_way pt p q ≡ Stays
  unfolding level_way
  left_level = rw (not_equal_back q.x pt.x k, not_more p.x pt.x h, not_more q.x pt.x k) (go (is_level pt p))
    where
      go : (b : Bool) → cond b Stays Stays ≡ Stays
      go true = refl
      go false = refl

  left_way : (above : Bool) → BeginsOn pt above p → (way_of pt above p q ≡ Stays) ⊎ (way_of pt above p q ≡ Crosses)
  unfolding way_of
  left_way above f = go (is_level pt q) (beq (is_above pt q) above) refl refl
    where
      go : (l b : Bool) → is_level pt q ≡ l → beq (is_above pt q) above ≡ b
          → (cond l (level_way pt p q) (cond b Stays (over_way above (cross_product_sign p q pt))) ≡ Stays) ⊎ (cond l (level_way pt p q) (cond b Stays (over_way above (cross_product_sign p q pt))) ≡ Crosses)
      go true b i j = inl left_level
      go false true i j = inl refl
      go false false i j = inr (sym (over_left pt p q above (record { from = f; off = i; other = j }) h k))

module _ (pt : Point) (first : Bool) where
  left_keeps : (s : Tour) (p q : Point) → Alternating first s → Sided pt s p → Left pt p → Left pt q → Alternating first (along pt s p q)
  left_keeps s p q u d h k = subst (Alternating first) (sym (along_seen pt s p q u.off)) (go (left_way pt p q h k s.above (d.known u.off)))
    where
      go : (way_of pt s.above p q ≡ Stays) ⊎ (way_of pt s.above p q ≡ Crosses) → Alternating first (after s (way_of pt s.above p q))
      go (inl e) = subst (λ (w : Way). Alternating first (after s w)) (sym e) u
      go (inr e) = subst (λ (w : Way). Alternating first (after s w)) (sym e) (record { off = u.off; count = ap not u.count ∙ turn_over s.above first })

same_side : (l a b : Bool) → l ≡ false → (l || beq a b) ≡ true → not (beq b a) ≡ false
same_side true a b e h = absurd (true≢false e)
same_side false true true e h = refl
same_side false true false e h = absurd (false≢true h)
same_side false false true e h = absurd (false≢true h)
same_side false false false e h = refl

left_round : (pt : Point) (a : List Point) (v : Point) (rest : List Point) → is_level pt v ≡ false → All (Left pt) a → Left pt v → All (Left pt) rest → result_of (tour pt a v rest) ≡ IsOutside
left_round pt a v rest f h e k =
    let u =
    walk_keeps pt (Left pt) (Alternating (is_above pt v)) (left_keeps pt (is_above pt v)) (start pt v) v (rest ++ (a ++ (v ∷ []))) (record { off = refl; count = ap not (sym (beq_same (is_above pt v))) }) (start_sided pt v) e
    (all_append (Left pt) rest (a ++ (v ∷ [])) k (all_append (Left pt) a (v ∷ []) h (e, tt)))
    in
    let s = tour pt a v rest in
    result_outside s u.off (u.count ∙ same_side (is_level pt v) (is_above pt v) s.above f ((tour_sided pt a v rest).known u.off).side)

-- ---- so it is outside
module _ (pt : Point) (ps : List Point) where
  pub beside_outside : (b : Bool) → All (Beside pt b) ps → point_in_polygon pt ps ≡ IsOutside
  beside_outside b h = polygon_outside pt (Beside pt b) (beside_round pt b) ps h

  pub right_outside : All (Right pt) ps → point_in_polygon pt ps ≡ IsOutside
  right_outside h = polygon_outside pt (Right pt) (right_round pt) ps h

  pub left_outside : All (Left pt) ps → point_in_polygon pt ps ≡ IsOutside
  left_outside h = polygon_outside pt (Left pt) (left_round pt) ps h
