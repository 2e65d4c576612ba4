-- What a step needs of the geometry: edges that share an end do not cross, and a crossing of points that words hold is one that words hold.
use Rattle.std.specs.Prelude.{ℕ, ◌*◌, ◌≤◌, ◌≡◌, true}
use Rattle.job.specs.Limits as limit
use Rattle.lone.specs.Kept.{GeoLaws}
use Rattle.lone.specs.Lone.{Geo}
use Rattle.acts.specs.Apply.{Coding}
use Rattle.acts.specs.Codes.{Codes}

pub record Laws {P : Type 0} (G : Geo P) (f : Coding P) : Type 0 where
  -- so a ring of three points cuts nothing, nor one of two or one
  pub flat : GeoLaws G
  pub meets : (a b c d : P) → Codes f a → Codes f b → Codes f c → Codes f d → G.segments_intersect a b c d ≡ true → Codes f (G.crossing_point a b c d)
  pub reads : (a b c : ℕ) → a ≤ 2 * limit.COORDINATE → b ≤ 2 * limit.COORDINATE → Codes f (f.of a b c)
