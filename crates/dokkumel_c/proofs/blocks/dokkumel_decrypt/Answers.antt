-- `dokkumel_c::blocks::dokkumel_decrypt` meets its contract. Assumes nothing.
use Rattle.dokkumel_c.proofs.ReturnedLaws.{handed_on}
use Rattle.dokkumel_c.proofs.blocks.dokkumel_decrypt.Goals as goal

pub returns : goal.returns
returns c = handed_on _ c.decrypt-answer.ensures (c.returned.ensures _)
