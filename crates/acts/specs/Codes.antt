-- Values that three words hold, and the store after an act.
use Rattle.std.specs.Prelude.{ℕ, ◌*◌, ◌≤◌, ◌≡◌}
use Rattle.job.specs.Limits as limit
use Rattle.lone.specs.Act.{Act, stay, discard, drop_point, move_on, to_first, double, cut}
use Rattle.store.specs.Words.{Store}
use Rattle.store.specs.Stores.{on_store}
use Rattle.acts.specs.Writes.{move_writes, to_first_writes, discard_writes, drop_writes, double_writes}
use Rattle.acts.specs.Apply.{Coding, off_writes, ring_writes}

-- a value that three words hold, the first two in range
pub record Codes {P : Type 0} (f : Coding P) (v : P) : Type 0 where
  pub x_in : f.xw v ≤ 2 * limit.COORDINATE
  pub y_in : f.yw v ≤ 2 * limit.COORDINATE
  pub again : f.of (f.xw v) (f.yw v) (f.zw v) ≡ v

module _ {P : Type 0} (f : Coding P) where
  -- the store after an act on record i
  abbrev pub after : Store → ℕ → Act P → Store
  after s i stay = s
  after s i (discard y) = on_store s (discard_writes i y)
  after s i drop_point = on_store s (drop_writes s i)
  after s i (move_on d) = on_store s (move_writes s i d)
  after s i (to_first d) = on_store s (to_first_writes s i d)
  after s i (double v d) = on_store s (double_writes s i (f.xw v) (f.yw v) (f.zw v) d)
  after s i (cut v put off d) = on_store (on_store s (ring_writes f s i v put d)) (off_writes f s (on_store s (ring_writes f s i v put d)) i v off)
