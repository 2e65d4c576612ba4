-- `paths::count_bytes` meets its contract: the bytes of the records below i are counted.
use native.Mathlib.Omega.{arith}
use Rattle.paths.proofs.Counts.{size_fits, tally_asked, tally_on, tally_ends}
use Rattle.paths.proofs.count_bytes.Goals as goal

pub field_size-bytes-requires : goal.field_size-bytes-requires
field_size-bytes-requires c = size_fits _ _ _ _ (tally_asked _ _ _ c.requires _ _ _ c.loop-i.invariant c.get-n.ensures.0 c.loop-i-test.true).of c.size_if.ensures

pub overflow_add-bytes : goal.overflow_add-bytes
overflow_add-bytes c = let h = tally_on _ _ _ c.requires _ _ _ c.loop-i.invariant c.get-n.ensures.0 c.loop-i-test.true _ _ c.size_if.ensures c.field_size-bytes.ensures in
    record { fits = omega (arith, h.few_bytes, h.within) }

pub loop-i-preserved : goal.loop-i-preserved
loop-i-preserved c = tally_on _ _ _ c.requires _ _ _ c.loop-i.invariant c.get-n.ensures.0 c.loop-i-test.true _ _ c.size_if.ensures c.field_size-bytes.ensures

pub returns : goal.returns
returns c = tally_ends _ _ _ _ _ c.loop-i.invariant c.get-n.ensures.0 c.loop-i-test.false
