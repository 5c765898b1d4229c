-- `text::packing::pack` meets its contract. Assumes nothing.
use native.Mathlib.Omega.{arith}
use Rattle.xor.specs.Lists.{at}
use Rattle.xor.proofs.WriteLaws.{over_none, over_more}
use Rattle.text.specs.Packing.{word_at, packed}
use Rattle.text.proofs.FillLaws.{filled}
use Rattle.text.proofs.packing.pack.Goals as goal

pub loop-k-init : goal.loop-k-init
loop-k-init c = over_none _ _

pub loop-k-preserved : goal.loop-k-preserved
unfolding word_at at
loop-k-preserved c = over_more _ _ _ _ _ c.loop-k.invariant c.word.ensures (omega arith)

pub returns : goal.returns
unfolding packed
returns c = filled _ _ _ _ c.loop-k.invariant (omega arith)
