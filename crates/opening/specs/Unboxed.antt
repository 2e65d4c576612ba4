-- Words without their boxes yet: what the code's stages leave.
use Rattle.std.specs.Prelude.{List, Ok, Err}
use Rattle.store.specs.Boxes.{all_boxed}
use Rattle.opening.specs.Open.{End, end}

-- an accepted job's words, with the boxes; a refused one's, as they are
abbrev pub boxed_end : End → End
boxed_end (end (Ok tt) w) = end (Ok tt) (all_boxed w)
boxed_end (end (Err r) w) = end (Err r) w
