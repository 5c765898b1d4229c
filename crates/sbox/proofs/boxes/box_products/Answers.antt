-- `sbox::boxes::box_products` meets its contract. Assumes nothing.
use mathlib.Core.Path.{sym, ap, ◌∙◌}
use Prim.Native.Nat.{◌*◌}
use native.Mathlib.Omega.{arith}
use Rattle.power254.proofs.PowerLaws.{power_products_is}
use Rattle.sbox.proofs.boxes.box_products.Goals as goal

pub overflow_mul-result : goal.overflow_mul-result
overflow_mul-result c = omega (arith, c.product_count.ensures.1)

pub returns : goal.returns
returns c = (ap (◌*◌ 4) c.product_count.ensures.0 ∙ sym (power_products_is _), omega (arith, c.product_count.ensures.1))
