-- `dokkumel_c::prepared::dokkumel_encrypt_prepared` meets its contract. Assumes nothing.
use Rattle.dokkumel_c.proofs.ReturnedLaws.{handed_on}
use Rattle.dokkumel_c.proofs.prepared.dokkumel_encrypt_prepared.Goals as goal

pub returns : goal.returns
returns c = handed_on _ c.encrypt_prepared-answer.ensures (c.returned.ensures _)
