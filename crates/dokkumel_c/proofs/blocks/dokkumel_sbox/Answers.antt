-- `dokkumel_c::blocks::dokkumel_sbox` meets its contract. Assumes nothing.
use Rattle.dokkumel_c.proofs.ReturnedLaws.{handed_on}
use Rattle.dokkumel_c.proofs.blocks.dokkumel_sbox.Goals as goal

pub returns : goal.returns
returns c = handed_on _ c.masked_box-answer.ensures (c.returned.ensures _)
