-- No answer reads a z: what twelve bytes keep of each point gives the same answers as the points themselves.
use mathlib.Core.Path.{◌≡◌, refl, ap, ◌∙◌}
use mathlib.Core.List.{List, [], ◌∷◌, map}
use mathlib.Core.Option.{Option, none, some}
use Rattle.geometry.specs.declared.Point.{Point}
use Rattle.geometry.specs.declared.Rect.{Rect}
use Rattle.geometry.specs.Box.{around, widen, widen_all, box_of}
use Rattle.listing.specs.Fields.{as_words}
use Rattle.polygons.specs.declared.PointInPolygonResult.{PointInPolygonResult}
use Rattle.polygons.specs.declared.PointInPolygonResult.TheVariants.{IsOn}
use Rattle.polygons.specs.Polygon.{point_in_polygon}
use Rattle.polygons.proofs.Depths.{inside_words, seen_words}
use Rattle.containing.specs.Middle.{mid_point}
use Rattle.containing.specs.Contains.{is_inside, decide, places, middle_inside, path2_contains_path1}

places_words : (path2 ps : List Point) → places (map as_words path2) (map as_words ps) ≡ places path2 ps
places_words path2 [] = refl
places_words path2 (p ∷ ps) =
    ap (λ (r : PointInPolygonResult). r ∷ places (map as_words path2) (map as_words ps)) (seen_words p (map as_words path2) ∙ inside_words p path2)
    ∙ ap (λ (l : List PointInPolygonResult). point_in_polygon p path2 ∷ l) (places_words path2 ps)

wider_words : (b : Rect) (ps : List Point) → widen_all b (map as_words ps) ≡ widen_all b ps
unfolding widen
wider_words b [] = refl
wider_words b (p ∷ ps) = wider_words (widen b p) ps

bounds_words : (ps : List Point) → box_of (map as_words ps) ≡ box_of ps
bounds_words [] = refl
bounds_words (p ∷ ps) = ap (λ (b : Rect). some b) (wider_words (around p) ps)

middle_words : (b : Option Rect) (q : List Point) → middle_inside b (map as_words q) ≡ middle_inside b q
middle_words none q = refl
middle_words (some b) q = ap is_inside (inside_words (mid_point b) q)

pub contains_words : (p q : List Point) → path2_contains_path1 (map as_words p) (map as_words q) ≡ path2_contains_path1 p q
unfolding path2_contains_path1
contains_words p q =
    ap (λ (l : List PointInPolygonResult). decide IsOn l (middle_inside (box_of (map as_words p)) (map as_words q))) (places_words q p)
    ∙ ap (λ (b : Option Rect). decide IsOn (places q p) (middle_inside b (map as_words q))) (bounds_words p)
    ∙ ap (decide IsOn (places q p)) (middle_words (box_of p) q)
