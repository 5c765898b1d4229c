-- `byte_maps::columns::mix` meets its contract: doubling is the product with 02, and a byte more that with 03. Assumes nothing.
use mathlib.Core.Path.{sym, ap, ap₂, ◌∙◌}
use Prim.Native.Nat.{ℕ}
use native.Mathlib.Omega.{arith}
use lib.Bits.{bit_xor}
use Rattle.gf256.specs.Field.{mixed}
use Rattle.gf256.proofs.ProductLaws.{times_two, times_three}
use Rattle.byte_maps.proofs.columns.mix.Goals as goal

pub returns : goal.returns
unfolding mixed
returns c =
    let v = c.args in
    ap₂ (λ (x y : ℕ). bit_xor (bit_xor (bit_xor x y) v.c) v.d) (c.double.ensures ∙ sym (times_two v.a))
    (ap (λ (x : ℕ). bit_xor x v.b) c.double-2.ensures ∙ sym (times_three v.b (omega arith)))
