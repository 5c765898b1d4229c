-- `sbox::boxes::correct` meets its contract. Assumes nothing.
use native.Mathlib.Omega.{arith}
use Rattle.sbox.proofs.BoxLaws.{corrected_odd, corrected_even}
use Rattle.sbox.proofs.boxes.correct.Goals as goal

pub returns-then-number-eq1 : goal.returns-then-number-eq1
returns-then-number-eq1 c = corrected_odd _ _ _ _ c.constant.ensures (omega arith)

pub returns-else-number-eq1 : goal.returns-else-number-eq1
returns-else-number-eq1 c = corrected_even _ _ _ (omega arith)
