-- A tour after an edge, by the way it goes.
use mathlib.Core.Path.{◌≡◌}
use mathlib.Core.Bool.{true, not}
use Rattle.rays.specs.declared.Way.{Way}
use Rattle.rays.specs.declared.Way.TheVariants.{Touches, Passes, Crosses}
use Rattle.polygons.specs.declared.Tour.{Tour}
use Rattle.polygons.specs.Polygon.{after}

module _ (s : Tour) (way : Way) where
  pub after_touches : way ≡ Touches → ◌≡◌ {A = Tour} (record { on = true; above = s.above; odd = s.odd }) (after s way)
  after_touches e = rw e

  pub after_passes : way ≡ Passes → ◌≡◌ {A = Tour} (record { on = s.on; above = not s.above; odd = s.odd }) (after s way)
  after_passes e = rw e

  pub after_crosses : way ≡ Crosses → ◌≡◌ {A = Tour} (record { on = s.on; above = not s.above; odd = not s.odd }) (after s way)
  after_crosses e = rw e
