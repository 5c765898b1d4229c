-- `gf256::product::if_set` meets its contract: 0 - bit is the mask ff or 00. Assumes nothing.
use Rattle.std.proofs.Common.{rules}
use Rattle.gf256.proofs.DigitMasks.{masked_by}
use Rattle.gf256.proofs.product.if_set.Goals as goal

pub returns : goal.returns
returns c =
    masked_by c.wrapping_sub_u8.result c.args.bit c.args.a c.requires (search rules) (search rules)
    c.wrapping_sub_u8.ensures.value
