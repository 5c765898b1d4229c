-- `sheet_parts::parts::put_sums` meets its contract. Assumes nothing.
use Rattle.std.proofs.Common.{◌≡◌, refl, arith}
use Rattle.xor.specs.Lists.{at}
use Rattle.sheet_parts.specs.Parts.{row_put}
use Rattle.sheet_parts.proofs.PartsLaws.{row_put-more}
use Rattle.sheet_parts.proofs.parts.put_sums.Goals as goal

pub loop-m-init : goal.loop-m-init
unfolding row_put
loop-m-init c = refl

pub loop-m-preserved : goal.loop-m-preserved
unfolding at
loop-m-preserved c = row_put-more _ _ _ _ _ _ _ _ c.loop-m.invariant refl refl

pub returns : goal.returns
returns c =
    let e : c.loop-m.m ≡ c.args.w = omega arith in
    rw e at c.loop-m.invariant
