-- `masking::product::product_core` meets its contract. Assumes nothing.
use mathlib.Core.Path.{sym, ap, ◌∙◌}
use Rattle.masking.specs.Steps.{starts}
use Rattle.masking.proofs.product.product_core.Goals as goal

pub take_pairs-requires : goal.take_pairs-requires
take_pairs-requires c =
    let a = c.args in
    (c.requires.0, c.start_sums.ensures ∙ ap (starts a.a.now a.b.now) c.shares.ensures.0)
