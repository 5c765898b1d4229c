-- `text::hexadecimal::fill_words` meets its contract. Assumes nothing.
use native.Mathlib.Omega.{arith}
use Rattle.xor.proofs.WriteLaws.{over_none, over_more}
use Rattle.text.specs.Hexadecimal.{words}
use Rattle.text.proofs.FillLaws.{filled}
use Rattle.text.proofs.hexadecimal.fill_words.Goals as goal

pub loop-k-init : goal.loop-k-init
loop-k-init c = over_none _ _

pub loop-k-preserved : goal.loop-k-preserved
loop-k-preserved c = over_more _ _ _ _ _ c.loop-k.invariant c.word_at.ensures (omega arith)

pub returns : goal.returns
unfolding words
returns c = filled _ _ _ _ c.loop-k.invariant (omega arith)
