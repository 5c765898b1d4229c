-- `dokkumel_c::blocks::dokkumel_encrypt` meets its contract. Assumes nothing.
use Rattle.dokkumel_c.proofs.ReturnedLaws.{handed_on}
use Rattle.dokkumel_c.proofs.blocks.dokkumel_encrypt.Goals as goal

pub returns : goal.returns
returns c = handed_on _ c.encrypt-answer.ensures (c.returned.ensures _)
