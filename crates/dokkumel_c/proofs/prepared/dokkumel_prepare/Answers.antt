-- `dokkumel_c::prepared::dokkumel_prepare` meets its contract. Assumes nothing.
use Rattle.dokkumel_c.proofs.ReturnedLaws.{handed_on}
use Rattle.dokkumel_c.proofs.prepared.dokkumel_prepare.Goals as goal

pub returns : goal.returns
returns c = handed_on _ c.prepare-answer.ensures (c.returned.ensures _)
