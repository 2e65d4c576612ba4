-- Places in a test program's input.
use Rattle.std.specs.Prelude.{ℕ}

-- a place that no input reaches: places go no further
abbrev pub FAR : ℕ
FAR = 1000000
