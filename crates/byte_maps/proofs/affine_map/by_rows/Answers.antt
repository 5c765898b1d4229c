-- `byte_maps::affine_map::by_rows` meets its contract. The loop's invariant: what is gathered, with what the rows to go will add, is the linear part.
-- Assumes nothing.
use mathlib.Core.Path.{◌≡◌, refl, sym, ap, ◌∙◌}
use mathlib.Core.List.{List}
use Prim.Native.Nat.{ℕ, ◌+◌, ◌*◌, ◌%◌, ◌^◌, ◌<◌}
use native.Mathlib.Omega.{arith}
use lib.ListN.{length, drop, get_or}
use native.Mathlib.Nat.{zero-mul, one-mul, mod-eq_of_lt}
use native.Mathlib.Numerals.{add-one}
use lib.Seq.{drop-cons, drop-length}
use lib.Pow.{pow-lt}
use lib.Bits.{bit_and, bit_xor, xor_zero_r}
use Rattle.xor.specs.Digit.{if_set}
use Rattle.xor.proofs.DigitLaws.{digit_cases}
use Rattle.xor.proofs.XorLaws.{xor_assoc}
use Rattle.gf256.specs.Field.{rows_from, linear_by, affine_by, parity}
use Rattle.byte_maps.proofs.AffineLaws.{parity_lt}
use Rattle.byte_maps.proofs.affine_map.by_rows.Goals as goal

-- a digit shifted to its place
placed : (d i : ℕ) → d < 2 → i < 8 → d * 2 ^ i % 256 ≡ if_set d (2 ^ i)
unfolding if_set
placed d i h l =
    digit_cases (λ (d : ℕ). d * 2 ^ i % 256 ≡ if_set d (2 ^ i)) (ap (λ (n : ℕ). n % 256) (zero-mul (2 ^ i)))
    (ap (λ (n : ℕ). n % 256) (one-mul (2 ^ i)) ∙ mod-eq_of_lt (pow-lt l)) d h

-- one turn
turn : (rows : List ℕ) (r i a : ℕ) → i < length rows
    → bit_xor (bit_xor r (if_set (parity (bit_and a (get_or rows i 0))) (2 ^ i))) (rows_from (drop (i + 1) rows) (i + 1) a)
    ≡ bit_xor r (rows_from (drop i rows) i a)
unfolding rows_from
turn rows r i a h =
    xor_assoc r (if_set (parity (bit_and a (get_or rows i 0))) (2 ^ i)) (rows_from (drop (i + 1) rows) (i + 1) a)
    ∙ ap (λ (k : ℕ). bit_xor r (bit_xor (if_set (parity (bit_and a (get_or rows i 0))) (2 ^ i)) (rows_from (drop k rows) k a))) (add-one i)
    ∙ sym (ap (λ (l : List ℕ). bit_xor r (rows_from l i a)) (drop-cons rows i 0 h))

-- no rows to go
gathered : (rows : List ℕ) (r i a : ℕ) → i ≡ length rows → r ≡ bit_xor r (rows_from (drop i rows) i a)
unfolding rows_from
gathered rows r i a e =
    sym
    (ap (λ (l : List ℕ). bit_xor r (rows_from l i a)) (ap (λ (k : ℕ). drop k rows) e ∙ drop-length rows) ∙ xor_zero_r r)

pub loop-i-init : goal.loop-i-init
unfolding linear_by
loop-i-init c = refl

pub loop-i-preserved : goal.loop-i-preserved
unfolding parity
loop-i-preserved c =
    let v = c.args in
    let at = c.loop-i in
    let rows = v.rows.now in
    let m = bit_and v.a (get_or rows at.i 0) in
    ap (λ (n : ℕ). bit_xor (bit_xor at.r n) (rows_from (drop (at.i + 1) rows) (at.i + 1) v.a))
    (placed (parity m) at.i (parity_lt m) (omega arith))
    ∙ turn rows at.r at.i v.a (omega arith)
    ∙ at.invariant

pub returns : goal.returns
unfolding affine_by
returns c =
    let v = c.args in
    let at = c.loop-i in
    ap (λ (n : ℕ). bit_xor n v.constant) (gathered v.rows.now at.r at.i v.a (omega arith) ∙ at.invariant)
