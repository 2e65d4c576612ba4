-- One path in another: the places of its points, one after another.
use Prim.Native.Nat.{ℕ, ◌+◌, ◌-◌, ◌≤◌, ◌<◌}
use mathlib.Core.Path.{◌≡◌, refl, sym, ap, ◌∙◌}
use mathlib.Core.Bool.{Bool, true, false, cond, ◌&&◌}
use mathlib.Core.List.{List, ◌∷◌}
use mathlib.Core.Option.{Option, some}
use Rattle.geometry.specs.declared.Point.{Point}
use Rattle.geometry.specs.Table.{InTable}
use Rattle.listing.specs.Fields.{point_in, points_in}
use Rattle.listing.specs.Needs.{Held, Run}
use Rattle.listing.proofs.Runs.{head_at, rest_at, points_at, points_over, from_none}
use Rattle.polygons.specs.declared.PointInPolygonResult.{PointInPolygonResult}
use Rattle.polygons.specs.declared.PointInPolygonResult.TheVariants.{IsOn, IsInside, IsOutside}
use Rattle.geometry.specs.declared.Rect.{Rect}
use Rattle.polygons.specs.Polygon.{point_in_polygon}
use Rattle.geometry.specs.Box.{box_of}
use Rattle.paths.specs.Tray.{POINT}
use Rattle.containing.specs.Middle.{mid_point}
use Rattle.containing.specs.Needs.{BoxIn, Deciding}
use Rattle.containing.specs.Contains.{is_inside, decide, repeats, latest, places, middle_inside, path2_contains_path1}
use Rattle.containing.proofs.Boxes.{bounds_in, mid_in}

-- ---- the middle
module _ (t : List ℕ) (n from : ℕ) (b : Rect) (r : Run t n from) (e : some b ≡ box_of (points_in t n from)) where
  pub box_asked : BoxIn b
  box_asked = bounds_in (points_in t n from) b e r.small

  pub middle_asked : (m : Point) → m ≡ mid_point b → InTable m
  middle_asked m f = rw f (mid_in b box_asked)

  pub middle_inside_lem : (m : Point) (path2 : List Point) (q : PointInPolygonResult) (a : Bool) → m ≡ mid_point b → q ≡ point_in_polygon m path2 → a ≡ is_inside q
      → a ≡ middle_inside (box_of (points_in t n from)) path2
  middle_inside_lem m path2 q a f g h = h ∙ ap is_inside (g ∙ ap (λ (x : Point). point_in_polygon x path2) f) ∙ ap (λ (x : Option Rect). middle_inside x path2) e

-- ---- one place more
decide_more : (last r : PointInPolygonResult) (rs : List PointInPolygonResult) (m : Bool) → decide last (r ∷ rs) m ≡ cond (repeats last r) (is_inside r) (decide (latest last r) rs m)
decide_more IsOn IsOn rs m = refl
decide_more IsOn IsInside rs m = refl
decide_more IsOn IsOutside rs m = refl
decide_more IsInside IsOn rs m = refl
decide_more IsInside IsInside rs m = refl
decide_more IsInside IsOutside rs m = refl
decide_more IsOutside IsOn rs m = refl
decide_more IsOutside IsInside rs m = refl
decide_more IsOutside IsOutside rs m = refl

module _ (t : List ℕ) where
  -- what the middle says, and the whole
  abbrev pub middle : ℕ → ℕ → List Point → Bool
  middle n from path2 = middle_inside (box_of (points_in t n from)) path2

  pub deciding_begins : (n from : ℕ) (path2 : List Point) → Run t n from → Deciding t path2 IsOn from (n - 0) (middle n from path2) (path2_contains_path1 (points_in t n from) path2)
  unfolding path2_contains_path1
  deciding_begins n from path2 r = from_none (λ (k : ℕ). Deciding t path2 IsOn from k (middle n from path2) (path2_contains_path1 (points_in t n from) path2)) n (record { rest = r; all = refl })

  pub contains_none : (n from : ℕ) (path2 : List Point) → n ≡ 0 → false ≡ path2_contains_path1 (points_in t n from) path2
  unfolding path2_contains_path1
  contains_none n from path2 e = rw e

  module _ (path2 : List Point) (last : PointInPolygonResult) (at c i : ℕ) (m total : Bool) (d : Deciding t path2 last at (c - i) m total) where
    pub deciding_head : i < c → Held t at
    deciding_head h = head_at t c i at d.rest h

    pub deciding_point : i < c → (p : Point) → p ≡ point_in t at → InTable p
    deciding_point h p e = rw e (deciding_head h).small

    module _ (h : i < c) (p : Point) (e : p ≡ point_in t at) (r : PointInPolygonResult) (f : r ≡ point_in_polygon p path2) (sure : Bool) (g : sure ≡ repeats last r) where
      more : cond sure (is_inside r) (decide (latest last r) (places path2 (points_in t (c - (i + 1)) (at + POINT))) m) ≡ total
      more =
          ap (λ (b : Bool). cond b (is_inside r) (decide (latest last r) (places path2 (points_in t (c - (i + 1)) (at + POINT))) m)) g
          ∙ sym (decide_more last r (places path2 (points_in t (c - (i + 1)) (at + POINT))) m)
          ∙ ap (λ (x : PointInPolygonResult). decide last (x ∷ places path2 (points_in t (c - (i + 1)) (at + POINT))) m) (f ∙ ap (λ (x : Point). point_in_polygon x path2) e)
          ∙ ap (λ (l : List Point). decide last (places path2 l) m) (sym (points_at t c i at h))
          ∙ d.all

      pub deciding_sure : sure ≡ true → (a : Bool) → a ≡ is_inside r → a ≡ total
      deciding_sure agreed a j = j ∙ ap (λ (b : Bool). cond b (is_inside r) (decide (latest last r) (places path2 (points_in t (c - (i + 1)) (at + POINT))) m)) (sym agreed) ∙ more

      pub deciding_on : sure ≡ false → (last' : PointInPolygonResult) → last' ≡ latest last r → Deciding t path2 last' (at + POINT) (c - (i + 1)) m total
      deciding_on unsure last' j =
          record {
            rest = rest_at t c i at d.rest h;
            all =
                ap (λ (x : PointInPolygonResult). decide x (places path2 (points_in t (c - (i + 1)) (at + POINT))) m) j
                ∙ ap (λ (b : Bool). cond b (is_inside r) (decide (latest last r) (places path2 (points_in t (c - (i + 1)) (at + POINT))) m)) (sym unsure)
                ∙ more;
          }

    module _ (h : c ≤ i) (inside : Bool) (e : inside ≡ is_inside last) where
      over : (inside && m) ≡ total
      over = ap (λ (b : Bool). b && m) e ∙ ap (λ (l : List Point). decide last (places path2 l) m) (sym (points_over t c i at h)) ∙ d.all

      pub deciding_middle : inside ≡ true → (a : Bool) → a ≡ m → a ≡ total
      deciding_middle i a j = j ∙ ap (λ (b : Bool). b && m) (sym i) ∙ over

      pub deciding_no : inside ≡ false → false ≡ total
      deciding_no i = ap (λ (b : Bool). b && m) (sym i) ∙ over
