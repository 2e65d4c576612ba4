-- `test_text::ring::put_ring` meets its contract.
use Rattle.test_text.proofs.Ringing.{ring_none, ring_poured}
use Rattle.test_text.proofs.ring.put_ring.Goals as goal

pub returns-then-a-eq-NONE : goal.returns-then-a-eq-NONE
returns-then-a-eq-NONE c = search ring_none

pub returns : goal.returns
returns c = search ring_poured
