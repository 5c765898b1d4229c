-- `power254::powers::raise` meets its contract. Assumes nothing.
use native.Mathlib.Omega.{arith}
use Rattle.xor.specs.Lists.{at}
use Rattle.gf256.specs.Exponents.{raised_to}
use Rattle.xor.proofs.WriteLaws.{over_none, over_more}
use Rattle.power254.proofs.EachLaws.{over_map}
use Rattle.power254.proofs.powers.raise.Goals as goal

pub loop-k-init : goal.loop-k-init
loop-k-init c = over_none _ _

pub loop-k-preserved : goal.loop-k-preserved
unfolding at
loop-k-preserved c = over_more _ _ _ _ _ c.loop-k.invariant c.raised.ensures (omega arith)

pub returns : goal.returns
returns c = over_map (raised_to c.args.which) _ _ _ _ c.loop-k.invariant (omega arith) (omega arith)
