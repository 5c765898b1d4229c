-- `dokkumel_c::product::dokkumel_read_places` meets its contract. Assumes nothing.
use Rattle.dokkumel_c.proofs.ReturnedLaws.{handed_on}
use Rattle.dokkumel_c.proofs.product.dokkumel_read_places.Goals as goal

pub returns : goal.returns
returns c = handed_on _ c.read_places-answer.ensures (c.returned.ensures _)
