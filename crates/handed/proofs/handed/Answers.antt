-- handed meets its contract: the length, then the tests.
use Rattle.handed.proofs.Handing.{says_short, says_tested}
use Rattle.handed.proofs.handed.Goals as goal

pub returns-then-w-lt-LENGTH : goal.returns-then-w-lt-LENGTH
returns-then-w-lt-LENGTH c = search says_short

pub returns : goal.returns
returns c = search says_tested
