-- The rule as core.rs writes it, edge by edge, is the rule.
use Prim.Native.Nat.{ℕ, suc}
use mathlib.Core.Path.{◌≡◌, refl, sym, ap, ◌∙◌}
use mathlib.Core.Bool.{Bool, true, false, cond, ◌&&◌, beq}
use mathlib.Core.List.{List, [], ◌∷◌, ◌++◌, append_assoc}
use native.Mathlib.Omega.{arith}
use lib.Dec.{ltb}
use lib.ListN.{length, take, drop}
use lib.Signed.{lt_z}
use Rattle.rings.specs.Circle.{last_of}
use Rattle.geometry.specs.declared.Point.{Point}
use Rattle.polygons.specs.declared.PointInPolygonResult.TheVariants.{IsOutside}
use Rattle.rays.specs.declared.Way.{Way}
use Rattle.rays.specs.declared.Way.TheVariants.{Stays, Passes, Crosses}
use Rattle.polygons.specs.declared.Tour.{Tour}
use Rattle.geometry.specs.Plane.{cross_product_sign}
use Rattle.rays.specs.Edge.{is_level, is_above, level_way, over_way, way_of}
use Rattle.polygons.specs.Polygon.{after, along, walk, start, result_of, round_from, levels, point_in_polygon}
use Rattle.rays.specs.Needs.{GoesOver}
use Rattle.polygons.specs.Needs.{Sided}
use Rattle.polygons.specs.AsWritten.{over_as_written, along_as_written, walk_as_written, close_as_written, round_as_written, point_in_polygon_as_written}
use Rattle.rays.proofs.Shortcuts.{over_right, over_left}
use Rattle.polygons.proofs.Going.{start_sided, along_sided, walk_append}

over_same : (pt p q : Point) (above : Bool) → GoesOver pt above p q → over_as_written pt above p q ≡ over_way above (cross_product_sign p q pt)
unfolding over_as_written
over_same pt p q above o = go (lt_z pt.x q.x) (lt_z pt.x p.x) (lt_z p.x pt.x) (lt_z q.x pt.x) refl refl refl refl
  where
    W : Way
    W = over_way above (cross_product_sign p q pt)

    go : (a b c d : Bool) → lt_z pt.x q.x ≡ a → lt_z pt.x p.x ≡ b → lt_z p.x pt.x ≡ c → lt_z q.x pt.x ≡ d
        → cond (lt_z pt.x q.x && lt_z pt.x p.x) Passes (cond (lt_z p.x pt.x && lt_z q.x pt.x) Crosses (over_way above (cross_product_sign p q pt))) ≡ over_way above (cross_product_sign p q pt)
    go true true c d e f g h = rw (e, f) (over_right pt p q above o f e)
    go true false true true e f g h = rw (e, f, g, h) (over_left pt p q above o g h)
    go true false true false e f g h = rw (e, f, g, h)
    go true false false d e f g h = rw (e, f, g)
    go false b true true e f g h = rw (e, g, h) (over_left pt p q above o g h)
    go false b true false e f g h = rw (e, g, h)
    go false b false d e f g h = rw (e, g)

module _ (pt : Point) (s : Tour) (p q : Point) where
  along_same : Sided pt s p → along_as_written pt s p q ≡ along pt s p q
  unfolding along_as_written along way_of
  along_same h = go s.on refl
    where
      way : s.on ≡ false → (l b : Bool) → is_level pt q ≡ l → beq (is_above pt q) s.above ≡ b
          → cond l (level_way pt p q) (cond b Stays (over_as_written pt s.above p q)) ≡ cond l (level_way pt p q) (cond b Stays (over_way s.above (cross_product_sign p q pt)))
      way e true b i j = refl
      way e false true i j = refl
      way e false false i j = over_same pt p q s.above (record { from = h.known e; off = i; other = j })

      go : (b : Bool) → s.on ≡ b
          → cond b s (after s (cond (is_level pt q) (level_way pt p q) (cond (beq (is_above pt q) s.above) Stays (over_as_written pt s.above p q))))
          ≡ cond b s (after s (cond (is_level pt q) (level_way pt p q) (cond (beq (is_above pt q) s.above) Stays (over_way s.above (cross_product_sign p q pt)))))
      go true e = refl
      go false e = ap (after s) (way e (is_level pt q) (beq (is_above pt q) s.above) refl refl)

  close_same : is_level pt q ≡ false → close_as_written pt s p q ≡ along pt s p q
  unfolding close_as_written along way_of
  close_same h = ap (cond s.on s) (go (is_level pt q) (beq (is_above pt q) s.above) h)
    where
      go : (l b : Bool) → l ≡ false → cond b s (after s (over_way s.above (cross_product_sign p q pt))) ≡ after s (cond l (level_way pt p q) (cond b Stays (over_way s.above (cross_product_sign p q pt))))
      go l true e = rw e
      go l false e = rw e

walk_same : (pt : Point) (s : Tour) (p : Point) (l : List Point) → Sided pt s p → walk_as_written pt s p l ≡ walk pt s p l
walk_same pt s p [] h = refl
walk_same pt s p (q ∷ l) h =
    ap (λ (x : Tour). walk_as_written pt x q l) (along_same pt s p q h) ∙ walk_same pt (along pt s p q) q l (along_sided pt p q s)

-- the first vertex that is not on the level isn't
pub first_off : (pt : Point) (ps : List Point) (v : Point) (rest : List Point) → drop (levels pt ps) ps ≡ v ∷ rest → is_level pt v ≡ false
first_off pt [] v rest e = let z : ◌≡◌ {A = List Point} [] (v ∷ rest) = e in absurd_nil v rest z
  where
    absurd_nil : {A : Type 0} (v : Point) (rest : List Point) → ◌≡◌ {A = List Point} [] (v ∷ rest) → A
    absurd_nil v rest z = let y : ◌≡◌ {A = ℕ} 0 (suc (length rest)) = ap length z in absurd (omega arith)
first_off pt (q ∷ qs) v rest e = go (first_off pt qs v rest) (is_level pt q) refl e
  where
    go : (drop (levels pt qs) qs ≡ v ∷ rest → is_level pt v ≡ false) → (b : Bool) → is_level pt q ≡ b → drop (cond b (suc (levels pt qs)) 0) (q ∷ qs) ≡ v ∷ rest → is_level pt v ≡ false
    go k true f g = k g
    go k false f g = let z : q ≡ v = cc in rw (sym z) f

round_same : (pt : Point) (before l : List Point) → ((v : Point) (rest : List Point) → l ≡ v ∷ rest → is_level pt v ≡ false) → round_as_written pt before l ≡ round_from pt before l
round_same pt before [] h = refl
round_same pt before (v ∷ rest) h =
    ap result_of
    (close_same pt (walk_as_written pt (start pt v) v (rest ++ before)) (last_of v (rest ++ before)) v (h v rest refl)
    ∙ ap (λ (x : Tour). along pt x (last_of v (rest ++ before)) v) (walk_same pt (start pt v) v (rest ++ before) (start_sided pt v))
    ∙ sym (walk_append pt (start pt v) v (rest ++ before) (v ∷ []))
    ∙ ap (walk pt (start pt v) v) (append_assoc rest before (v ∷ [])))

pub as_written : (pt : Point) (ps : List Point) → point_in_polygon_as_written pt ps ≡ point_in_polygon pt ps
unfolding point_in_polygon_as_written point_in_polygon
as_written pt ps = ap (cond (ltb (length ps) 3) IsOutside) (round_same pt (take (levels pt ps) ps) (drop (levels pt ps) ps) (first_off pt ps))
