-- `dokkumel_c::product::dokkumel_product_sheet` meets its contract. Assumes nothing.
use Rattle.dokkumel_c.proofs.ReturnedLaws.{handed_on}
use Rattle.dokkumel_c.proofs.product.dokkumel_product_sheet.Goals as goal

pub returns : goal.returns
returns c = handed_on _ c.product_sheet-answer.ensures (c.returned.ensures _)
