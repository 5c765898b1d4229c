-- `masking::product::product_on_words` meets its contract. Assumes nothing.
use mathlib.Core.Path.{ap, ◌∙◌}
use native.Mathlib.Omega.{arith}
use Rattle.gf256.specs.Field.{times}
use Rattle.isw.proofs.SheetLaws.{product-surplus}
use Rattle.tape_words.specs.Words.{words_for}
use Rattle.masking.proofs.CallsLaws.{factors_unpack, factors_unpacked, factors_made}
use Rattle.masking.proofs.product.product_on_words.Goals as goal

pub unpack-requires : goal.unpack-requires
unpack-requires c =
    factors_unpack _ _ _ _ c.args.tape.now c.requires.0 c.product_need.ensures.0 c.product_need.ensures.1

pub product_core-requires : goal.product_core-requires
product_core-requires c =
    let v = c.args in
    (factors_unpacked v.d _ v.a.now v.b.now v.tape.now c.requires.0 c.product_need.ensures.0 c.product_need.ensures.1 _ (omega arith), c.requires.1)

pub returns : goal.returns
returns c =
    let v = c.args in
    let made = factors_made _ _ _ _ v.tape.now c.requires.0 c.product_need.ensures.0 c.product_need.ensures.1 _
    (product-surplus times v.d v.a.now v.b.now) _ _ _ c.unpack.ensures in
    (c.words_for.ensures ∙ ap words_for c.product_core.ensures.0, made c.product_core.ensures.1)
