-- Document 03's definitions of the field agree with those of `Field.antt` on all bytes, so nothing said of the one is weaker than of the other.
-- Assumes nothing.
use mathlib.Core.Path.{◌≡◌, refl, sym, ap, ap₂, ◌∙◌}
use mathlib.Core.Bool.{cond}
use Prim.Native.Nat.{ℕ, zero, suc, ◌+◌, ◌*◌, ◌/◌, ◌%◌, ◌^◌, ◌<◌}
use native.Mathlib.Nat.{mod-lt, mod-eq_of_lt, mod-one, mul_comm, add_comm}
use native.Mathlib.Numerals.{add-one}
use lib.Dec.{eqb}
use lib.Pow.{mod-pow-add}
use lib.Bits.{bit_xor, xor_lt}
use Rattle.xor.specs.Digit.{if_set}
use Rattle.xor.proofs.DigitLaws.{two_pos, digit_cases, digit-sum, xor-half, xor_odd, if_set_lt}
use Rattle.xor.proofs.XorLaws.{xor_regroup}
use Rattle.gf256.specs.Field as Field
use Rattle.field_laws.specs.Document03 as Document03
use Rattle.gf256.proofs.TableTest.{alike}
use Rattle.gf256.proofs.ProductLaws.{doubled_lt, times_from_lt, times_two, times_three, squared_lt, fourth_lt}

-- with k digits to go, the XOR of the k low digits
xor_from_is : (k a b : ℕ) → Document03.xor_from k a b ≡ bit_xor a b % 2 ^ k
unfolding Document03.xor_from
xor_from_is zero a b = sym (mod-one (bit_xor a b))
xor_from_is (suc k) a b =
    ap₂ (λ (x y : ℕ). x + 2 * y) (digit-sum a b ∙ sym (xor_odd a b)) (xor_from_is k (a / 2) (b / 2) ∙ ap (λ (n : ℕ). n % 2 ^ k) (sym (xor-half a b)))
    ∙ add_comm (bit_xor a b % 2) (2 * (bit_xor a b / 2 % 2 ^ k))
    ∙ ap (λ (n : ℕ). n + bit_xor a b % 2) (mul_comm 2 (bit_xor a b / 2 % 2 ^ k))
    ∙ sym (mod-pow-add (bit_xor a b) k 1)
    ∙ ap (λ (n : ℕ). bit_xor a b % 2 ^ n) (add-one k)

pub xor_agrees : (a b : ℕ) → a < 256 → b < 256 → Document03.xor a b ≡ bit_xor a b
unfolding Document03.xor
xor_agrees a b ha hb = xor_from_is 8 a b ∙ mod-eq_of_lt (xor_lt 8 a b ha hb)

pub doubled_agrees : (a : ℕ) → a < 256 → Document03.doubled a ≡ Field.doubled a
unfolding Document03.doubled Document03.xor Document03.xor_from Field.doubled if_set
doubled_agrees = alike Document03.doubled Field.doubled 256 tt

picked : (d a : ℕ) → d < 2 → cond (eqb d 1) a 0 ≡ if_set d a
unfolding if_set
picked d a h = digit_cases (λ (x : ℕ). cond (eqb x 1) a 0 ≡ if_set x a) refl refl d h

times_from_agrees : (k a b : ℕ) → a < 256 → Document03.times_from k a b ≡ Field.times_from k a b
unfolding Document03.times_from Field.times_from
times_from_agrees zero a b h = refl
times_from_agrees (suc k) a b h =
    ap₂ Document03.xor (picked (b % 2) a (mod-lt b two_pos))
    (ap (λ (n : ℕ). Document03.times_from k n (b / 2)) (doubled_agrees a h) ∙ times_from_agrees k (Field.doubled a) (b / 2) (doubled_lt a))
    ∙ xor_agrees (if_set (b % 2) a) (Field.times_from k (Field.doubled a) (b / 2)) (if_set_lt 8 (b % 2) a h)
    (times_from_lt k (Field.doubled a) (b / 2) (doubled_lt a))

pub times_agrees : (a b : ℕ) → a < 256 → Document03.times a b ≡ Field.times a b
unfolding Document03.times Field.times
times_agrees a b h = times_from_agrees 8 a b h ∙ ap (λ (n : ℕ). Field.times_from 8 n b) (sym (mod-eq_of_lt h))

-- ---- powers

pub squared_agrees : (a : ℕ) → a < 256 → Document03.squared a ≡ Field.squared a
unfolding Document03.squared Field.squared
squared_agrees a h = times_agrees a a h

pub fourth_agrees : (a : ℕ) → a < 256 → Document03.fourth a ≡ Field.fourth a
unfolding Document03.fourth Field.fourth
fourth_agrees a h = ap Document03.squared (squared_agrees a h) ∙ squared_agrees (Field.squared a) (squared_lt a)

pub sixteenth_agrees : (a : ℕ) → a < 256 → Document03.sixteenth a ≡ Field.sixteenth a
unfolding Document03.sixteenth Field.sixteenth
sixteenth_agrees a h = ap Document03.fourth (fourth_agrees a h) ∙ fourth_agrees (Field.fourth a) (fourth_lt a)

-- ---- MixColumns

pub mixed_agrees : (a b c e : ℕ) → a < 256 → b < 256 → c < 256 → e < 256 → Document03.mixed_byte a b c e ≡ Field.mixed a b c e
unfolding Document03.mixed_byte Field.mixed
mixed_agrees a b c e ha hb hc he =
    let da = doubled_lt a in
    let db = doubled_lt b in
    let three = xor_lt 8 (Field.doubled b) b db hb in
    let rest = xor_lt 8 c e hc he in
    ap₂ (λ (x y : ℕ). Document03.xor x (Document03.xor (Document03.xor y b) (Document03.xor c e))) (doubled_agrees a ha) (doubled_agrees b hb)
    ∙ ap₂ (λ (x y : ℕ). Document03.xor (Field.doubled a) (Document03.xor x y)) (xor_agrees (Field.doubled b) b db hb) (xor_agrees c e hc he)
    ∙ ap (Document03.xor (Field.doubled a)) (xor_agrees (bit_xor (Field.doubled b) b) (bit_xor c e) three rest)
    ∙ xor_agrees (Field.doubled a) (bit_xor (bit_xor (Field.doubled b) b) (bit_xor c e)) da
    (xor_lt 8 (bit_xor (Field.doubled b) b) (bit_xor c e) three rest)
    ∙ xor_regroup (Field.doubled a) (bit_xor (Field.doubled b) b) c e
    ∙ sym (ap₂ (λ (x y : ℕ). bit_xor (bit_xor (bit_xor x y) c) e) (times_two a) (times_three b hb))
