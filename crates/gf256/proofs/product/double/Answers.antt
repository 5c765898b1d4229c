-- `gf256::product::double` meets its contract: the shift by seven is the digit that the definition reads. Assumes nothing.
use Rattle.std.proofs.Common.{ℕ, ◌*◌, ◌%◌, ap, ◌∙◌, arith}
use lib.Bits.{bit_xor}
use Rattle.xor.specs.Digit.{if_set}
use Rattle.gf256.specs.Field.{doubled}
use Rattle.gf256.proofs.DigitMasks.{top_digit, top_digit_lt}
use Rattle.gf256.proofs.product.double.Goals as goal

pub if_set-requires : goal.if_set-requires
if_set-requires c = top_digit_lt _ (omega arith)

pub returns : goal.returns
unfolding doubled
returns c =
    let a = c.args.a in
    ap (bit_xor (a * 2 % 256)) (c.if_set.ensures ∙ ap (λ (d : ℕ). if_set d 0x1b) (top_digit a (omega arith)))
