-- Affine maps by rows and a constant: additive up to the constant, share by share too. Af and its inverse undo each other; by their rows they are
-- what FIPS 197 and document 02 have bit by bit. Assumes nothing.
use mathlib.Core.Path.{◌≡◌, refl, sym, ap, ap₂, ◌∙◌}
use mathlib.Core.List.{List, [], ◌∷◌, map}
use Prim.Native.Nat.{ℕ, suc, ◌+◌, ◌/◌, ◌%◌, ◌^◌, ◌<◌, ◌≤◌}
use native.Mathlib.Nat.{mod-lt, mod-eq_of_lt}
use native.Mathlib.Omega.{arith}
use lib.Arith.{bin_ind}
use lib.Dec.{eqb, lit<, lit≤}
use lib.ListN.{length}
use lib.Pow.{pow_pos, pow-lt}
use lib.Count.{ones, ones_in, ones_step}
use lib.Bits.{bit_and, bit_xor, xor_lt}
use Rattle.xor.specs.Digit.{if_set}
use Rattle.xor.specs.Additive.{Additive}
use Rattle.xor.specs.Sums.{joined}
use Rattle.xor.proofs.DigitLaws.{two_pos, digit_cases, digit-sum, xor-half, xor_odd, if_set_zero, if_set_one, if_set-sum, if_set_lt}
use Rattle.xor.proofs.XorLaws.{xor_cancel_r, xor-four, xor_sums, and_xor}
use Rattle.xor.proofs.AdditiveLaws.{additive_zero, additive_after, additive_agree}
use Rattle.gf256.specs.Field.{parity, rows_from, linear_by, affine_by, rows, affine, inverse_rows, inverse_affine, bit, affine_bit, affine_from}
use Rattle.gf256.specs.Field.{affine_by_bits, inverse_affine_bit}
use Rattle.gf256.specs.Directions.{affine_of}
use Rattle.gf256.specs.declared.Direction.{Direction}
use Rattle.gf256.specs.declared.Direction.TheVariants.{Forward, Inverse}
use Rattle.gf256.proofs.TableTest.{all, all-at, alike}

-- ---- parity

pub parity_lt : (a : ℕ) → parity a < 2
unfolding parity
parity_lt a = mod-lt (ones a) two_pos

parity_step : (n : ℕ) → parity n ≡ bit_xor (n % 2) (parity (n / 2))
unfolding parity
parity_step n =
    ap (λ (x : ℕ). x % 2) (ones_step n) ∙ digit-sum (n % 2) (ones (n / 2))
    ∙ ap (λ (x : ℕ). bit_xor x (ones (n / 2) % 2)) (mod-eq_of_lt (mod-lt n two_pos))

parity_zero : parity 0 ≡ 0
unfolding parity ones
parity_zero = refl

pub parity-xor : Additive parity
parity-xor a =
    bin_ind (λ (n : ℕ). (b : ℕ) → parity (bit_xor n b) ≡ bit_xor (parity n) (parity b))
    (λ b. ap (λ (x : ℕ). bit_xor x (parity b)) (sym parity_zero))
    (λ n ih b.
    parity_step (bit_xor n b)
    ∙ ap₂ bit_xor (xor_odd n b) (ap parity (xor-half n b) ∙ ih (b / 2))
    ∙ xor-four (n % 2) (b % 2) (parity (n / 2)) (parity (b / 2))
    ∙ sym (ap₂ bit_xor (parity_step n) (parity_step b)))
    a

-- ---- any rows and constant

pub rows-xor : (ms : List ℕ) (i : ℕ) → Additive (rows_from ms i)
unfolding rows_from
rows-xor [] i a b = refl
rows-xor (m ∷ ms) i a b =
    ap₂ bit_xor
    (ap (λ (n : ℕ). if_set n (2 ^ i)) (ap parity (and_xor a b m) ∙ parity-xor (bit_and a m) (bit_and b m))
    ∙ if_set-sum (parity (bit_and a m)) (parity (bit_and b m)) (2 ^ i) (parity_lt (bit_and a m)) (parity_lt (bit_and b m)))
    (rows-xor ms (suc i) a b)
    ∙ xor-four (if_set (parity (bit_and a m)) (2 ^ i)) (if_set (parity (bit_and b m)) (2 ^ i)) (rows_from ms (suc i) a) (rows_from ms (suc i) b)

pub linear_by-xor : (ms : List ℕ) → Additive (linear_by ms)
unfolding linear_by
linear_by-xor ms = rows-xor ms 0

pub affine_by-xor : (ms : List ℕ) (c a b : ℕ) → affine_by ms c (bit_xor a b) ≡ bit_xor (bit_xor (affine_by ms c a) (affine_by ms c b)) c
unfolding affine_by
affine_by-xor ms c a b = ap (λ (n : ℕ). bit_xor n c) (linear_by-xor ms a b) ∙ thrice (linear_by ms a) (linear_by ms b) c
  where
    thrice : (x y c : ℕ) → bit_xor (bit_xor x y) c ≡ bit_xor (bit_xor (bit_xor x c) (bit_xor y c)) c
    thrice x y c = simp xor_sums

-- one more share: the constant counts if the shares are an odd number
pub once_more : (n c : ℕ) → bit_xor c (if_set (n % 2) c) ≡ if_set (suc n % 2) c
once_more n c =
    ap (λ (k : ℕ). bit_xor k (if_set (n % 2) c)) (sym (if_set_one c)) ∙ sym (if_set-sum 1 (n % 2) c (lit< tt) (mod-lt n two_pos))
    ∙ ap (λ (k : ℕ). if_set k c) (next (n % 2) (mod-lt n two_pos) ∙ step n)
  where
    next : (d : ℕ) → d < 2 → bit_xor 1 d ≡ suc d % 2
    next = digit_cases (λ (x : ℕ). bit_xor 1 x ≡ suc x % 2) refl refl

    step : (n : ℕ) → suc (n % 2) % 2 ≡ suc n % 2
    step n = omega arith

-- the map of each share
pub joined-affine_by : (ms : List ℕ) (c : ℕ) (xs : List ℕ)
    → joined (map (affine_by ms c) xs) ≡ bit_xor (linear_by ms (joined xs)) (if_set (length xs % 2) c)
unfolding joined affine_by
joined-affine_by ms c [] = sym (ap₂ bit_xor (additive_zero (linear_by ms) (linear_by-xor ms)) (if_set_zero c))
joined-affine_by ms c (x ∷ xs) =
    ap (bit_xor (bit_xor (linear_by ms x) c)) (joined-affine_by ms c xs)
    ∙ xor-four (linear_by ms x) c (linear_by ms (joined xs)) (if_set (length xs % 2) c)
    ∙ ap₂ bit_xor (sym (linear_by-xor ms x (joined xs))) (once_more (length xs) c)

-- rows i to k - 1 make a number of k digits
rows_lt : (ms : List ℕ) (i k a : ℕ) → i + length ms ≤ k → rows_from ms i a < 2 ^ k
unfolding rows_from
rows_lt [] i k a h = pow_pos k
rows_lt (m ∷ ms) i k a h =
    let s : i + suc (length ms) ≤ k = h in
    xor_lt k (if_set (parity (bit_and a m)) (2 ^ i)) (rows_from ms (suc i) a) (if_set_lt k (parity (bit_and a m)) (2 ^ i) (pow-lt (omega arith)))
    (rows_lt ms (suc i) k a (omega arith))

pub affine_by_lt : (ms : List ℕ) (c a : ℕ) → length ms ≤ 8 → c < 256 → affine_by ms c a < 256
unfolding affine_by linear_by
affine_by_lt ms c a h hc = xor_lt 8 (rows_from ms 0 a) c (rows_lt ms 0 8 a (omega arith)) hc

-- ---- Af

pub affine_lt : (a : ℕ) → affine a < 256
unfolding affine rows
affine_lt a = affine_by_lt rows 0x63 a (lit≤ tt) (lit< tt)

-- by rows as by bits: one test over the 256 bytes
pub affine_agrees : (a : ℕ) → a < 256 → affine a ≡ affine_by_bits a
unfolding affine affine_by linear_by rows rows_from parity ones ones_in if_set affine_by_bits affine_from affine_bit bit
affine_agrees = alike affine affine_by_bits 256 tt

-- ---- both directions

pub affine_of_lt : (w : Direction) (a : ℕ) → affine_of w a < 256
unfolding inverse_affine inverse_rows
affine_of_lt Forward a = affine_lt a
affine_of_lt Inverse a = affine_by_lt inverse_rows 0x05 a (lit≤ tt) (lit< tt)

-- a map undoes another if its linear part does so at the powers of two and sends the other's constant to its own
undone : (ms ns : List ℕ) (c e : ℕ) → linear_by ns c ≡ e → ((i : ℕ) → i < 8 → linear_by ns (linear_by ms (2 ^ i)) ≡ 2 ^ i)
    → (a : ℕ) → a < 256 → affine_by ns e (affine_by ms c a) ≡ a
unfolding affine_by
undone ms ns c e h basis a l =
    ap (λ (n : ℕ). bit_xor n e) (linear_by-xor ns (linear_by ms a) c ∙ ap (bit_xor (linear_by ns (linear_by ms a))) h)
    ∙ xor_cancel_r (linear_by ns (linear_by ms a)) e
    ∙ additive_agree (λ x. linear_by ns (linear_by ms x)) (λ x. x)
    (additive_after (linear_by ns) (linear_by ms) (linear_by-xor ns) (linear_by-xor ms))
    (λ x y. refl) 8 basis a l

pub inverse_affine-affine : (a : ℕ) → a < 256 → inverse_affine (affine a) ≡ a
unfolding inverse_affine affine linear_by rows inverse_rows rows_from parity ones ones_in if_set
inverse_affine-affine =
    undone rows inverse_rows 0x63 0x05 refl (alike (λ i. linear_by inverse_rows (linear_by rows (2 ^ i))) (λ i. 2 ^ i) 8 tt)

pub affine-inverse_affine : (a : ℕ) → a < 256 → affine (inverse_affine a) ≡ a
unfolding inverse_affine affine linear_by rows inverse_rows rows_from parity ones ones_in if_set
affine-inverse_affine =
    undone inverse_rows rows 0x05 0x63 refl (alike (λ i. linear_by rows (linear_by inverse_rows (2 ^ i))) (λ i. 2 ^ i) 8 tt)

-- the inverse map by rows as by bits: one test over the 8 bits of the 256 bytes
pub inverse_affine_bits : (a i : ℕ) → a < 256 → i < 8 → bit (inverse_affine a) i ≡ inverse_affine_bit a i
unfolding inverse_affine affine_by linear_by inverse_rows rows_from parity ones ones_in if_set inverse_affine_bit bit
inverse_affine_bits a i ha hi =
    alike (bit (inverse_affine a)) (inverse_affine_bit a) 8
    (all-at (λ a. all 8 (λ i. eqb (bit (inverse_affine a) i) (inverse_affine_bit a i))) 256 tt a ha) i hi
