-- No answer reads a z: what twelve bytes keep of each point gives the same answers as the points themselves.
use Prim.Native.Nat.{ℕ, zero, suc}
use mathlib.Core.Path.{◌≡◌, refl, sym, ap, ◌∙◌}
use mathlib.Core.Bool.{Bool, cond}
use mathlib.Core.List.{List, [], ◌∷◌, ◌++◌, map, map-append}
use lib.Dec.{ltb}
use lib.ListN.{length, take, drop, length-map}
use Rattle.geometry.specs.declared.Point.{Point}
use Rattle.listing.specs.Fields.{as_words}
use Rattle.polygons.specs.declared.PointInPolygonResult.{PointInPolygonResult}
use Rattle.polygons.specs.declared.PointInPolygonResult.TheVariants.{IsOutside}
use Rattle.polygons.specs.declared.Tour.{Tour}
use Rattle.geometry.specs.Plane.{cross_product_sign}
use Rattle.rays.specs.Edge.{is_level, level_way, way_of}
use Rattle.polygons.specs.Polygon.{along, walk, start, result_of, round_from, levels, point_in_polygon}

take_words : (n : ℕ) (ps : List Point) → take n (map as_words ps) ≡ map as_words (take n ps)
take_words zero ps = refl
take_words (suc n) [] = refl
take_words (suc n) (p ∷ ps) = ap (λ (l : List Point). as_words p ∷ l) (take_words n ps)

drop_words : (n : ℕ) (ps : List Point) → drop n (map as_words ps) ≡ map as_words (drop n ps)
drop_words zero ps = refl
drop_words (suc n) [] = refl
drop_words (suc n) (p ∷ ps) = drop_words n ps

module _ (pt : Point) where
  walk_words : (s : Tour) (p : Point) (qs : List Point) → walk pt s (as_words p) (map as_words qs) ≡ walk pt s p qs
  unfolding along way_of level_way cross_product_sign
  walk_words s p [] = refl
  walk_words s p (q ∷ qs) = walk_words (along pt s p q) q qs

  levels_words : (qs : List Point) → levels pt (map as_words qs) ≡ levels pt qs
  levels_words [] = refl
  levels_words (q ∷ qs) = ap (λ (n : ℕ). cond (is_level pt q) (suc n) 0) (levels_words qs)

  round_words : (before rest : List Point) → round_from pt (map as_words before) (map as_words rest) ≡ round_from pt before rest
  round_words before [] = refl
  round_words before (v ∷ rest) =
      let e : map as_words rest ++ (map as_words before ++ (as_words v ∷ [])) ≡ map as_words (rest ++ (before ++ (v ∷ []))) =
      ap (λ (l : List Point). map as_words rest ++ l) (sym (map-append as_words before (v ∷ []))) ∙ sym (map-append as_words rest (before ++ (v ∷ [])))
      in
      ap (λ (l : List Point). result_of (walk pt (start pt v) (as_words v) l)) e ∙ ap result_of (walk_words (start pt v) v (rest ++ (before ++ (v ∷ []))))

  pub inside_words : (ps : List Point) → point_in_polygon pt (map as_words ps) ≡ point_in_polygon pt ps
  unfolding point_in_polygon
  inside_words ps =
      let n : ℕ = levels pt ps in
      rw (levels_words ps, length-map ps as_words, take_words n ps, drop_words n ps)
      (ap (λ (r : PointInPolygonResult). cond (ltb (length ps) 3) IsOutside r) (round_words (take n ps) (drop n ps)))

-- nor is that of the point that is looked for
module _ (pt : Point) where
  walk_seen : (s : Tour) (p : Point) (qs : List Point) → walk (as_words pt) s p qs ≡ walk pt s p qs
  unfolding along way_of level_way cross_product_sign
  walk_seen s p [] = refl
  walk_seen s p (q ∷ qs) = walk_seen (along pt s p q) q qs

  levels_seen : (qs : List Point) → levels (as_words pt) qs ≡ levels pt qs
  levels_seen [] = refl
  levels_seen (q ∷ qs) = ap (λ (n : ℕ). cond (is_level pt q) (suc n) 0) (levels_seen qs)

  round_seen : (before rest : List Point) → round_from (as_words pt) before rest ≡ round_from pt before rest
  round_seen before [] = refl
  round_seen before (v ∷ rest) = ap result_of (walk_seen (start pt v) v (rest ++ (before ++ (v ∷ []))))

  pub seen_words : (ps : List Point) → point_in_polygon (as_words pt) ps ≡ point_in_polygon pt ps
  unfolding point_in_polygon
  seen_words ps = rw (levels_seen ps) (ap (λ (r : PointInPolygonResult). cond (ltb (length ps) 3) IsOutside r) (round_seen (take (levels pt ps) ps) (drop (levels pt ps) ps)))
