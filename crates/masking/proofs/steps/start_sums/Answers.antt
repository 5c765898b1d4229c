-- `masking::steps::start_sums` meets its contract. Assumes nothing.
use Rattle.std.proofs.Common.{◌≡◌, arith}
use Rattle.xor.specs.Lists.{at}
use Rattle.xor.proofs.WriteLaws.{over_none, over_more, over_all}
use Rattle.masking.proofs.steps.start_sums.Goals as goal

pub loop-i-init : goal.loop-i-init
loop-i-init c = over_none _ _

pub loop-i-preserved : goal.loop-i-preserved
unfolding at
loop-i-preserved c = over_more _ _ _ _ _ c.loop-i.invariant c.times.ensures (omega arith)

pub returns : goal.returns
returns c =
    let e : c.loop-i.i ≡ c.args.n = omega arith in
    over_all _ _ _ _ (rw e at c.loop-i.invariant) (omega arith)
