-- Whether rings are to be stepped still.
use Rattle.std.specs.Prelude.{Bool}
use Rattle.store.specs.Words.{Store}
use Rattle.store.specs.Sound.{recs}
use Rattle.audit.specs.Tests.{any_below}
use Rattle.acts.specs.Step.{live}

-- "a closed ring isn't done"
unfoldable pub any_live : Store → Bool
any_live s = any_below (recs s) (live s)
