-- `masking::product::product_need` meets its contract. Assumes nothing.
use Rattle.isw.specs.Place.{product_need}
use Rattle.masking.proofs.product.product_need.Goals as goal

pub returns : goal.returns
unfolding product_need
returns c = c.pair_count.ensures
