-- "Holes stay holes when the knife runs the other way": under either setting of `reverse_solution` a ring's path has the same word, and the charge is the same.
use Prim.Native.Nat.{ℕ, zero, suc}
use mathlib.Core.Path.{◌≡◌, refl, sym, ap, ◌∙◌}
use mathlib.Core.Bool.{Bool, true, false, not}
use mathlib.Core.List.{List, [], ◌∷◌, map, reverse}
use mathlib.Core.Option.{Option, none, some}
use lib.IntN.{ℤ, pos, negsuc, nat_abs, neg_ℤ, ◌+ℤ◌, neg_ℤ-+ℤ}
use Rattle.exact.proofs.Size.{size_neg}
use Rattle.rings.specs.Circle.{omap}
use Rattle.rates.specs.Charge.{charge_of}
use Rattle.geometry.specs.declared.Point.{Point}
use Rattle.geometry.specs.Plane.{area_outpt}
use Rattle.geometry.proofs.Circles.{area_reversed, area_ground}
use Rattle.store.specs.Words.{Store}
use Rattle.store.specs.Value.{reverse_solution}
use Rattle.lone.specs.Plane.{plane}
use Rattle.lone.specs.Path.{build_path64_from_outpt}
use Rattle.paths.specs.Path.{closed_paths}
use Rattle.opposite.specs.Opposite.{turned_over, on_ground, all_on_ground, opposite}
use Rattle.opposite.proofs.Paths.{path_turned}
use Rattle.opposite.proofs.Stores.{reversed_other, closed_other}
use Rattle.listing.specs.Lines.{word_of}
use Rattle.listing.specs.Charge.{net_area, charge_text, charge_line}
use Rattle.listing.specs.Senses.{path_word, ring_word, words_of}

word_turned : (rev : Bool) (z : ℤ) → word_of (not rev) (neg_ℤ z) ≡ word_of rev z
word_turned rev (pos zero) = refl
word_turned true (pos (suc n)) = refl
word_turned false (pos (suc n)) = refl
word_turned true (negsuc n) = refl
word_turned false (negsuc n) = refl

path_stays : (rev : Bool) (path : List Point) → path_word (not rev) (reverse path) ≡ path_word rev path
path_stays rev path = ap (word_of (not rev)) (area_reversed path) ∙ word_turned rev (area_outpt path)

-- z has no part in it
path_ground : (rev : Bool) (path : List Point) → path_word rev (on_ground path) ≡ path_word rev path
path_ground rev path = ap (word_of rev) (area_ground path)

-- of a ring by value
pub holes_stay : (keep : Bool) (ring : List Point) → ring_word keep true ring ≡ ring_word keep false ring
holes_stay keep ring = go (build_path64_from_outpt (plane keep) true false ring) (build_path64_from_outpt (plane keep) false false ring) (path_turned keep false ring)
  where
    on : (rev : Bool) (path : Option (List Point)) → omap (path_word rev) (omap on_ground path) ≡ omap (path_word rev) path
    on rev none = refl
    on rev (some path) = ap some (path_ground rev path)

    back : (path : Option (List Point)) → omap (path_word true) (omap reverse path) ≡ omap (path_word false) path
    back none = refl
    back (some path) = ap some (path_stays false path)

    go : (x y : Option (List Point)) → omap on_ground x ≡ omap reverse (omap on_ground y) → omap (path_word true) x ≡ omap (path_word false) y
    go x y e = sym (on true x) ∙ ap (omap (path_word true)) e ∙ back (omap on_ground y) ∙ on false y

-- of every closed path of a store
all_stay : (rev : Bool) (paths : List (List Point)) → map (path_word (not rev)) (opposite paths) ≡ map (path_word rev) paths
all_stay rev [] = refl
all_stay rev (path ∷ paths) = rw (path_stays rev path, all_stay rev paths)

all_ground : (rev : Bool) (paths : List (List Point)) → map (path_word rev) (all_on_ground paths) ≡ map (path_word rev) paths
all_ground rev [] = refl
all_ground rev (path ∷ paths) = rw (path_ground rev path, all_ground rev paths)

pub words_stay : (s : Store) → words_of (turned_over s) ≡ words_of s
words_stay s =
    sym (all_ground (reverse_solution (turned_over s)) (closed_paths (turned_over s)))
    ∙ ap (λ (paths : List (List Point)). map (path_word (reverse_solution (turned_over s))) paths) (closed_other s)
    ∙ ap (λ (rev : Bool). map (path_word rev) (opposite (all_on_ground (closed_paths s)))) (reversed_other s)
    ∙ all_stay (reverse_solution s) (all_on_ground (closed_paths s))
    ∙ all_ground (reverse_solution s) (closed_paths s)

-- the net area changes its sign only
pub net_turned : (paths : List (List Point)) → net_area (opposite paths) ≡ neg_ℤ (net_area paths)
net_turned [] = refl
net_turned (path ∷ paths) =
    ap (λ (z : ℤ). z +ℤ net_area (opposite paths)) (area_reversed path)
    ∙ ap (λ (z : ℤ). neg_ℤ (area_outpt path) +ℤ z) (net_turned paths)
    ∙ sym (neg_ℤ-+ℤ (area_outpt path) (net_area paths))

net_ground : (paths : List (List Point)) → net_area (all_on_ground paths) ≡ net_area paths
net_ground [] = refl
net_ground (path ∷ paths) = rw (area_ground path, net_ground paths)

-- so the charge is the same at every rate
pub charge_stays : (s : Store) (rate : ℕ) → charge_line rate (closed_paths (turned_over s)) ≡ charge_line rate (closed_paths s)
charge_stays s rate =
    let e : net_area (closed_paths (turned_over s)) ≡ neg_ℤ (net_area (closed_paths s)) =
    sym (net_ground (closed_paths (turned_over s))) ∙ ap net_area (closed_other s) ∙ net_turned (all_on_ground (closed_paths s)) ∙ ap neg_ℤ (net_ground (closed_paths s)) in
    ap (λ (n : ℕ). charge_text (charge_of n rate)) (ap nat_abs e ∙ size_neg (net_area (closed_paths s)))
