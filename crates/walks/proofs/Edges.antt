-- One edge's part in the doubled area, and the sum, as the code's words hold them.
use Prim.Native.Nat.{ℕ, ◌*◌, ◌≤◌, ◌<◌}
use mathlib.Core.Path.{◌≡◌, ap, ◌∙◌, sym, subst}
use mathlib.Core.Logic.{◌≢◌}
use mathlib.Core.List.{List}
use native.Mathlib.Omega.{arith}
use lib.IntN.{ℤ, nat_abs, ◌+ℤ◌}
use mir.Syntax.{w64}
use mir.Val.{SFits, to_z, of_z}
use mir.Facts.{to_z-of_z}
use Rattle.exact.proofs.Size.{fits_size}
use Rattle.job.specs.Limits as limit
use Rattle.geometry.specs.declared.Point.{Point}
use Rattle.geometry.specs.Plane.{edge_area}
use Rattle.geometry.specs.Table.{InTable}
use Rattle.geometry.proofs.Coordinates.{edge_within}
use Rattle.store.specs.Field.{pt, X, Y}
use Rattle.store.specs.Words.{view}
use Rattle.store.specs.Named.{next_of, prev_of}
use Rattle.store.specs.Value.{point_of}
use Rattle.walks.specs.Ring.{Edge}
use Rattle.walks.proofs.Visiting.{Summing, table_at, edge_fits, sum_fits, sum_on, sum_end}

module _ (w : List ℕ) (op p : ℕ) (g : Edge w op) (ep : p ≡ prev_of w op) where
  pub prev_low : p < limit.POINTS
  prev_low = omega (arith, g.before.below, g.few)

  pub prev_x : view w (pt X) p ≤ 2 * limit.COORDINATE
  prev_x = rw ep g.before.x_in

  pub prev_y : view w (pt Y) p ≤ 2 * limit.COORDINATE
  prev_y = rw ep g.before.y_in

  pub prev_table : (a : Point) → a ≡ point_of w p → InTable a
  prev_table a e = rw (e, ep) (table_at w (prev_of w op) g.before)

  pub edge_is : (a b : Point) (r : ℤ) → a ≡ point_of w p → b ≡ point_of w op → r ≡ edge_area a b → to_z w64 (of_z w64 r) ≡ edge_area (point_of w (prev_of w op)) (point_of w op)
  edge_is a b r ea eb e =
      let d : r ≡ edge_area (point_of w (prev_of w op)) (point_of w op) = e ∙ ap (λ (x : Point). edge_area x b) (ea ∙ ap (point_of w) ep) ∙ ap (edge_area (point_of w (prev_of w op))) eb in
      to_z-of_z (fits_size w64 r (omega (arith, ap nat_abs d, (edge_within (table_at w (prev_of w op) g.before) (table_at w op g.here)).size))) ∙ d

pub here_table : (w : List ℕ) (op : ℕ) (b : Point) → Edge w op → b ≡ point_of w op → InTable b
here_table w op b g e = rw e (table_at w op g.here)

-- ---- the sum's word is v

module _ (w : List ℕ) (stop a v : ℕ) (t d : ℤ) (c : Summing w stop a (to_z w64 v) t) (ed : d ≡ edge_area (point_of w (prev_of w a)) (point_of w a)) where
  plain : to_z w64 v +ℤ to_z w64 (of_z w64 d) ≡ to_z w64 v +ℤ d
  plain = ap (λ (y : ℤ). to_z w64 v +ℤ y) (to_z-of_z (edge_fits w stop a (to_z w64 v) t d ed c))

  pub add_fits : SFits w64 (to_z w64 v +ℤ to_z w64 (of_z w64 d))
  add_fits = rw plain (sum_fits w stop a (to_z w64 v) t d ed c)

  held : to_z w64 (of_z w64 (to_z w64 v +ℤ to_z w64 (of_z w64 d))) ≡ to_z w64 v +ℤ d
  held = to_z-of_z add_fits ∙ plain

  module _ (q : ℕ) (e : q ≡ next_of w a) where
    pub add_on : q ≢ stop → Summing w stop q (to_z w64 (of_z w64 (to_z w64 v +ℤ to_z w64 (of_z w64 d)))) t
    add_on x = subst (λ (y : ℤ). Summing w stop q y t) (sym held) (sum_on w stop a (to_z w64 v) t d ed q e c x)

    pub add_end : q ≡ stop → to_z w64 (of_z w64 (to_z w64 v +ℤ to_z w64 (of_z w64 d))) ≡ t
    add_end x = held ∙ sum_end w stop a (to_z w64 v) t d ed q e c x
