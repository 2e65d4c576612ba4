-- Two callers who finish alike.
use Rattle.std.specs.Prelude.{◌≡◌}
use Rattle.finishing.specs.InOneCall.{Finished}

-- "the same lists, or the same refusal": the answer (how many closed and open paths, or the refusal), and every byte of the tray
pub record SameFinish (f f' : Finished) : Type 0 where
  pub answer : f'.answer ≡ f.answer
  pub tray : f'.tray ≡ f.tray
