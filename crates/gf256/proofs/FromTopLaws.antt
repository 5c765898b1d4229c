-- The product from the top bit: what stands after bit k is the first factor times the second shifted right by k. Assumes nothing.
use Rattle.std.proofs.Common.{◌≡◌, ℕ, zero, suc, ◌+◌, ◌-◌, ◌*◌, ◌/◌, ◌%◌, ◌^◌, ◌<◌, ◌≤◌, sym, ap, ◌∙◌, ap₂, lt_of_le_of_lt, mod-lt}
use Rattle.std.proofs.Common.{div-add-mod', arith, shr-shr}
use lib.Pow.{shr_le}
use lib.Bits.{bit_xor, xor_zero_r, xor_shifted}
use Rattle.xor.specs.Digit.{if_set}
use Rattle.xor.proofs.DigitLaws.{two_pos, digit_cases, if_set_zero, if_set_one}
use Rattle.gf256.specs.Field.{doubled, times}
use Rattle.gf256.specs.FromTop.{from_top}
use Rattle.gf256.proofs.ProductLaws.{times-right, times_zero_r, times_one_r, times-doubled_r}

-- doubling is a plain shift where bit 7 is not set
doubled-small : (a : ℕ) → a < 128 → doubled a ≡ a * 2
unfolding doubled if_set
doubled-small a h =
    let low : a * 2 % 256 ≡ a * 2 = omega arith in
    let top : a / 128 % 2 ≡ 0 = omega arith in
    ap₂ (λ (x y : ℕ). bit_xor x (if_set y 0x1b)) low top ∙ xor_zero_r (a * 2)

-- a product with a digit
times-digit : (a d : ℕ) → a < 256 → d < 2 → times a d ≡ if_set d a
times-digit a d h =
    digit_cases (λ (d : ℕ). times a d ≡ if_set d a) (times_zero_r a ∙ sym (if_set_zero a)) (times_one_r a h ∙ sym (if_set_one a)) d

-- the second factor's lowest digit taken apart
times-low-digit : (a b : ℕ) → a < 256 → b < 256 → times a b ≡ bit_xor (doubled (times a (b / 2))) (if_set (b % 2) a)
times-low-digit a b ha hb =
    let half : b / 2 < 128 = omega arith in
    ap (times a) (sym (xor_shifted (b / 2) 1 (b % 2) (mod-lt b two_pos) ∙ div-add-mod' b 2))
    ∙ times-right a (b / 2 * 2) (b % 2)
    ∙ ap₂ bit_xor (ap (times a) (sym (doubled-small (b / 2) half)) ∙ times-doubled_r a (b / 2)) (times-digit a (b % 2) ha (mod-lt b two_pos))

-- before bit 7 nothing stands
pub times_before_bits : (a b : ℕ) → b < 256 → times a (b / 2 ^ 8) ≡ 0
times_before_bits a b h = let none : b / 256 ≡ 0 = omega arith in ap (times a) none ∙ times_zero_r a

-- bit k: what stood is doubled, and a is added if the bit is set
pub times_next_bit : (a b k : ℕ) → a < 256 → b < 256
    → times a (b / 2 ^ k) ≡ bit_xor (doubled (times a (b / 2 ^ (k + 1)))) (if_set (b / 2 ^ k % 2) a)
times_next_bit a b k ha hb =
    times-low-digit a (b / 2 ^ k) ha (lt_of_le_of_lt (shr_le b k) hb)
    ∙ ap (λ (n : ℕ). bit_xor (doubled (times a n)) (if_set (b / 2 ^ k % 2) a)) (shr-shr b k 1)

from_top_bits : (n a b : ℕ) → a < 256 → b < 256 → n ≤ 8 → from_top n a b ≡ times a (b / 2 ^ (8 - n))
unfolding from_top
from_top_bits zero a b ha hb h = sym (times_before_bits a b hb)
from_top_bits (suc n) a b ha hb h =
    let above : 8 - n ≡ 7 - n + 1 = omega arith in
    let here : 7 - n ≡ 8 - suc n = omega arith in
    ap (λ (p : ℕ). bit_xor (doubled p) (if_set (b / 2 ^ (7 - n) % 2) a))
    (from_top_bits n a b ha hb (omega arith) ∙ ap (λ (k : ℕ). times a (b / 2 ^ k)) above)
    ∙ sym (times_next_bit a b (7 - n) ha hb)
    ∙ ap (λ (k : ℕ). times a (b / 2 ^ k)) here

-- what stands after bit k; at bit 0 it is the product
pub from_top-after-bit : (a b k : ℕ) → a < 256 → b < 256 → k ≤ 8 → from_top (8 - k) a b ≡ times a (b / 2 ^ k)
from_top-after-bit a b k ha hb h =
    let bits : 8 - (8 - k) ≡ k = omega arith in
    from_top_bits (8 - k) a b ha hb (omega arith) ∙ ap (λ (n : ℕ). times a (b / 2 ^ n)) bits
