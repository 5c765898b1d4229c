-- `masking::steps::back_row` meets its contract. Assumes nothing.
use Rattle.std.proofs.Common.{◌≡◌, ap, ◌∙◌, arith}
use Rattle.std.specs.Int.Bits.{bit_xor}
use Rattle.xor.specs.Lists.{at}
use Rattle.xor.proofs.WriteLaws.{over_none, over_more, over_front}
use Rattle.masking.proofs.steps.back_row.Goals as goal

pub loop-m-init : goal.loop-m-init
loop-m-init c = record { lower = over_none _ _; back = over_none _ _ }

pub loop-m-preserved : goal.loop-m-preserved
unfolding at
loop-m-preserved c =
    let l = c.loop-m in
    let t = c.times-c.ensures in
    record {
      lower = over_more _ _ _ _ _ l.invariant.lower t (omega arith);
      back = over_more _ _ _ _ _ l.invariant.back (ap (bit_xor (at c.args.half.now l.m)) t) (omega arith);
    }

pub returns : goal.returns
returns c =
    let l = c.loop-m in
    let e : l.m ≡ c.args.w = omega arith in
    ((rw e at l.invariant.lower) ∙ over_front _ _ _, (rw e at l.invariant.back) ∙ over_front _ _ _)
