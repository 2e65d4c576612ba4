-- `opening::clear::clear_to` meets its contract: after each block the words up to it are 0 and the rest are as they were.
use Rattle.std.proofs.Common.{ℕ, ◌≡◌, ◌+◌, ◌*◌, ◌/◌, subst, arith, rules}
use Rattle.opening.proofs.Blanking.{Clearing, clear_on, cleared_to}
use Rattle.opening.proofs.clear.clear_to.Goals as goal

pub loop-k-preserved : goal.loop-k-preserved
loop-k-preserved c =
    let e : c.loop-k.k * 128 + 128 ≡ (c.loop-k.k + 1) * 128 = omega arith in
    subst (Clearing c.args.n c.args.work.now c.clear_block.new.t) e (clear_on _ _ _ _ c.loop-k.invariant c.clear_block.new.t (omega arith) (search rules) c.clear_block.ensures)

pub returns : goal.returns
returns c =
    let e : c.loop-k.k ≡ c.args.n / 128 = omega arith in
    cleared_to _ _ _ _ (subst (λ (k : ℕ). Clearing c.args.n c.args.work.now c.loop-k.work (k * 128)) e c.loop-k.invariant) _ c.write_zeros.ensures
