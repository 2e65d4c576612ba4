-- `paths::too_small` meets its contract: a tray that is long enough for any job is not counted.
use native.Mathlib.Omega.{arith}
use Rattle.paths.proofs.Bound.{never_short, bytes_fit, short_is}
use Rattle.paths.proofs.too_small.Goals as goal

pub returns-then-n-ge-TRAY : goal.returns-then-n-ge-TRAY
returns-then-n-ge-TRAY c = search never_short

pub overflow_add-result : goal.overflow_add-result
overflow_add-result c = let h = bytes_fit _ _ c.requires _ _ c.count_bytes-closed.ensures c.count_bytes-opened.ensures in record { fits = omega arith }

pub returns : goal.returns
returns c = search short_is
