-- Request 6, of every job that opening accepts: the work space that it leaves.
use Prim.Native.Nat.{ℕ}
use mathlib.Core.Path.{◌≡◌}
use mathlib.Core.List.{List}
use Rattle.std.proofs.Common.{Ok}
use Rattle.opening.specs.Open.{end, open_of}
use Rattle.finishing.proofs.InOneCall.{opening_left}
use Rattle.tidied.specs.Tidied.{NothingLeft}
use Rattle.tidied.proofs.Theorem.{nothing_left}

pub of_job : (bytes lent w : List ℕ) → open_of bytes lent ≡ end (Ok tt) w → NothingLeft w
of_job bytes lent w e = nothing_left w (opening_left bytes lent w e)
