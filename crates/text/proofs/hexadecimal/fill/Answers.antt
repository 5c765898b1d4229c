-- `text::hexadecimal::fill` meets its contract. Assumes nothing.
use native.Mathlib.Omega.{arith}
use Rattle.xor.proofs.WriteLaws.{over_none, over_more}
use Rattle.text.specs.Hexadecimal.{bytes}
use Rattle.text.proofs.FillLaws.{filled}
use Rattle.text.proofs.hexadecimal.fill.Goals as goal

pub loop-k-init : goal.loop-k-init
loop-k-init c = over_none _ _

pub loop-k-preserved : goal.loop-k-preserved
loop-k-preserved c = over_more _ _ _ _ _ c.loop-k.invariant c.byte_at.ensures (omega arith)

pub returns : goal.returns
unfolding bytes
returns c = filled _ _ _ _ c.loop-k.invariant (omega arith)
