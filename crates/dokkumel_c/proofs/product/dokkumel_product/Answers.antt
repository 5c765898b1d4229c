-- `dokkumel_c::product::dokkumel_product` meets its contract. Assumes nothing.
use Rattle.dokkumel_c.proofs.ReturnedLaws.{handed_on}
use Rattle.dokkumel_c.proofs.product.dokkumel_product.Goals as goal

pub returns : goal.returns
returns c = handed_on _ c.masked_product-answer.ensures (c.returned.ensures _)
