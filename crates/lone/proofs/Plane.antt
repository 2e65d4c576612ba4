-- The laws of the real geometry that the lone ring leans on.
use mathlib.Core.Bool.{Bool}
use Rattle.geometry.proofs.Apart.{start_meets_end, starts_meet}
use Rattle.lone.specs.Kept.{GeoLaws}
use Rattle.lone.specs.Plane.{plane}

pub plane_laws : (preserve : Bool) → GeoLaws (plane preserve)
plane_laws preserve = record { back_to_start = λ a b c. start_meets_end a b c; same_edge = λ a b. starts_meet a b b }
