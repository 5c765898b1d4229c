-- `sbox::boxes::box_need` meets its contract. Assumes nothing.
use mathlib.Core.Path.{sym, ap, ◌∙◌}
use Prim.Native.Nat.{◌*◌}
use native.Mathlib.Omega.{arith}
use Rattle.power254.proofs.PowerLaws.{power_need-pairs}
use Rattle.sbox.proofs.boxes.box_need.Goals as goal

pub returns : goal.returns
returns c = (ap (◌*◌ 6) c.pair_count.ensures.0 ∙ sym (power_need-pairs _), omega (arith, c.pair_count.ensures.1))
