-- A number that falls with every step: the endless loops of the Rust end by "a measure of free places, ring size and walk left".
use Rattle.std.proofs.Math.Option.{Option, none, some}
use Rattle.std.specs.Prelude.{ℕ, zero, suc, ◌+◌, ◌*◌, length}
use Rattle.rings.specs.Progress.{Due, validity, removal, triangle, split, done, Ring}
use Rattle.lone.specs.Rounds.{heaviest, rounds}

-- the walk left on a circle of n points, to a place k ahead: all round, if it is the present one
abbrev pub walk_left : ℕ → ℕ → ℕ
walk_left n zero = n
walk_left n (suc k) = suc k

abbrev pub start_left : ℕ → Option ℕ → ℕ
start_left n none = 0
start_left n (some k) = walk_left n k

-- by the size of the circle, where first point and start are, and the step due: falls with every step that takes no point
abbrev pub weigh : ℕ → ℕ → Option ℕ → Due → ℕ
weigh n f s validity = 4 + (rounds n + n) + (rounds n + n)
weigh n f s removal = 3 + (rounds n + n) + (rounds n + start_left n s)
weigh n f s triangle = 2 + (rounds n + n)
weigh n f s split = 1 + (rounds n + walk_left n f)
weigh n f s done = 0

abbrev pub weight : {A : Type 0} → Ring A → ℕ
weight R = weigh (length R.circle) R.first R.start R.due

-- with `free` points left and circles of at most n points: falls with every step
abbrev pub measure : {A : Type 0} → ℕ → ℕ → Ring A → ℕ
measure n free R = free * suc (heaviest n) + weight R
