-- `dokkumel_c::sharing::dokkumel_split` meets its contract. Assumes nothing.
use Rattle.dokkumel_c.proofs.ReturnedLaws.{handed_on}
use Rattle.dokkumel_c.proofs.sharing.dokkumel_split.Goals as goal

pub returns : goal.returns
returns c = handed_on _ c.split-answer.ensures (c.returned.ensures _)
