-- `dokkumel_c::sharing::dokkumel_join` meets its contract. Assumes nothing.
use Rattle.dokkumel_c.proofs.ReturnedLaws.{handed_on}
use Rattle.dokkumel_c.proofs.sharing.dokkumel_join.Goals as goal

pub returns : goal.returns
returns c = handed_on _ c.join-answer.ensures (c.returned.ensures _)
