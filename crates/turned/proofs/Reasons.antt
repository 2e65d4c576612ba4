-- Why a record has an outline, or none, and at which place: the same under either setting. Of any store, sound or not.
use Prim.Native.Nat.{ℕ}
use mathlib.Core.Path.{◌≡◌, refl, sym, ap, ◌∙◌}
use mathlib.Core.Bool.{Bool, cond, not, ◌&&◌}
use mathlib.Core.List.{List, map}
use mathlib.Core.Option.{Option}
use lib.Dec.{eqb}
use lib.ListN.{length, length-map, length-reverse}
use Rattle.geometry.specs.declared.Point.{Point}
use Rattle.geometry.specs.Plane.{ground}
use Rattle.geometry.proofs.Points.{same_true, true_same}
use Rattle.rings.specs.Circle.{turn}
use Rattle.lone.specs.Path.{in_order, without_equals, is_small_ring}
use Rattle.lone.specs.Plane.{plane}
use Rattle.store.specs.Field.{rc, ct, SETTINGS, REASON, TAKER}
use Rattle.store.specs.Words.{Store}
use Rattle.store.specs.Sound.{ringless, is_open}
use Rattle.store.specs.Value.{preserve_collinear, reverse_solution}
use Rattle.std.specs.Prelude.{Ok}
use Rattle.paths.specs.Path.{point_at, points_at, small_by, end_by, path_end, path_at, paths_below}
use Rattle.opposite.specs.Opposite.{turned_over}
use Rattle.opposite.specs.Turned.{TurnedOr, neither, both, walk_at}
use Rattle.opposite.proofs.Keyed.{tests_other}
use Rattle.opposite.proofs.Paths.{small_turned}
use Rattle.opposite.proofs.Stores.{kept_bit, reversed_other, path_other, below_other}
use Rattle.telling.specs.Telling.{kept_reason, end_reason, path_reason, reason_at}
use Rattle.turned.proofs.Lists.{as_many}

module _ (s : Store) where
  small_same : (o : Bool) (i : ℕ) → small_by (turned_over s) (reverse_solution (turned_over s)) o i ≡ small_by s (reverse_solution s) o i
  unfolding point_at
  small_same o i =
      ap (λ (n : ℕ). small_of (eqb n 1) (reverse_solution (turned_over s))) (kept_bit (s (ct SETTINGS) 0))
      ∙ ap (small_of (preserve_collinear s)) (reversed_other s)
      ∙ tests_other (plane (preserve_collinear s)) ground same_true true_same (small_turned (preserve_collinear s)) (reverse_solution s) o (points_at s i)
    where
      small_of : Bool → Bool → Bool
      small_of p rev = not o && eqb (length (without_equals (plane p) (in_order rev (points_at s i)))) 3 && is_small_ring (plane p) (cond rev (points_at s i) (turn (points_at s i)))

  -- a path and the other end building it alike
  ends_same : (t : Bool) (c : List Point) (x y : Option (List Point)) → TurnedOr c x y → end_by t y ≡ end_by t x
  ends_same t c x y neither = refl
  ends_same t c x y (both {this} {that} h) = ap Ok (sym (length-map that ground) ∙ ap length h.places ∙ length-reverse (map ground this) ∙ length-map this ground)

  end_same : (i : ℕ) → path_end (turned_over s) (reverse_solution (turned_over s)) (is_open s i) i ≡ path_end s (reverse_solution s) (is_open s i) i
  unfolding path_end path_at
  end_same i =
      ends_same (small_by (turned_over s) (reverse_solution (turned_over s)) (is_open s i) i) (walk_at s i) (path_at s i) (path_at (turned_over s) i) (path_other s i)
      ∙ ap (λ (t : Bool). end_by t (path_at s i)) (small_same (is_open s i) i)

  place_same : (o : Bool) (i : ℕ) → length (paths_below i o (turned_over s)) ≡ length (paths_below i o s)
  place_same o i = as_many (paths_below i o s) (paths_below i o (turned_over s)) (below_other s i o)

  path_same : (i : ℕ) → path_reason (turned_over s) i ≡ path_reason s i
  unfolding path_reason
  path_same i =
      ap (λ (n : ℕ). end_reason (is_open s i) n (path_end (turned_over s) (reverse_solution (turned_over s)) (is_open s i) i)) (place_same (is_open s i) i)
      ∙ ap (end_reason (is_open s i) (length (paths_below i (is_open s i) s))) (end_same i)

  pub reason_same : (i : ℕ) → reason_at (turned_over s) i ≡ reason_at s i
  unfolding reason_at
  reason_same i = ap (cond (ringless s i) (kept_reason (s (rc REASON) i) (s (rc TAKER) i))) (path_same i)
