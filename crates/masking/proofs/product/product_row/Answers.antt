-- `masking::product::product_row` meets its contract. Assumes nothing.
use Rattle.masking.proofs.product.product_row.Goals as goal

pub returns : goal.returns
returns c = let t = c.take.ensures in (t.0, t.6)
