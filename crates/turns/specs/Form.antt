-- A point by value, from its three words, as the acts read and write it; and the settings' bit that the geometry takes.
use Rattle.numbers.specs.Raised.{coordinate}
use Rattle.job.specs.Limits as limit
use Rattle.geometry.specs.declared.Point.{Point}
use Rattle.store.specs.Value.{word_of, preserve_collinear}
use Rattle.store.specs.Words.{Store}
use Rattle.lone.specs.Lone.{Geo}
use Rattle.lone.specs.Plane.{plane}
use Rattle.acts.specs.Apply.{Coding}

abbrev pub raised : Coding Point
raised = record { of = λ a b c. record { x = coordinate limit.COORDINATE a; y = coordinate limit.COORDINATE b; z = c }; xw = λ p. word_of p.x; yw = λ p. word_of p.y; zw = λ p. p.z }

-- the geometry of a work space, by its setting `preserve_collinear`
abbrev pub geometry_of : Store → Geo Point
geometry_of s = plane (preserve_collinear s)
