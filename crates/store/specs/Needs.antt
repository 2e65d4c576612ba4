-- What the code asks of a box's words.
use Rattle.std.specs.Prelude.{◌<◌, ◌^◌}
use Rattle.store.specs.declared.boxed.Sides.{Sides}

-- they fit words
pub record Small (b : Sides) : Type 0 where
  pub left : b.left < 2 ^ 32
  pub top : b.top < 2 ^ 32
  pub right : b.right < 2 ^ 32
  pub bottom : b.bottom < 2 ^ 32
