-- MixColumns and InvMixColumns are additive in a whole column, since each of their bytes is a sum of four products: so they act share by share.
-- InvMixColumns is MixColumns of a column with doublings added, and undoes MixColumns. Assumes nothing.
use mathlib.Core.Path.{◌≡◌, refl, sym, ap, ap₂, ◌∙◌}
use mathlib.Core.List.{[], ◌∷◌}
use Prim.Native.Nat.{ℕ, ◌<◌}
use lib.Bits.{bit_xor, xor_lt}
use Rattle.xor.specs.Digit.{if_set}
use Rattle.xor.proofs.XorLaws.{xor_sums}
use Rattle.xor.proofs.SumTest.{same_sum, #, ◌⊕◌}
use Rattle.gf256.specs.Field.{doubled, times_from, times, mixed, inverse_mixed}
use Rattle.gf256.specs.Directions.{mixed_of}
use Rattle.gf256.specs.declared.Direction.{Direction}
use Rattle.gf256.specs.declared.Direction.TheVariants.{Forward, Inverse}
use Rattle.gf256.proofs.ProductLaws.{doubled_lt, times-left, times-right, times_zero_l, times-doubled_l, times_assoc, times_lt, times_one_l}
use Rattle.gf256.proofs.ProductLaws.{times_two, times_three}

pub mixed_lt : (a b c d : ℕ) → c < 256 → d < 256 → mixed a b c d < 256
unfolding mixed
mixed_lt a b c d hc hd =
    let p = times 2 a in
    let q = times 3 b in
    xor_lt 8 (bit_xor (bit_xor p q) c) d (xor_lt 8 (bit_xor p q) c (xor_lt 8 p q (times_lt 2 a) (times_lt 3 b)) hc) hd

-- ---- sums of four

abbrev four : (w x y z : ℕ) → ℕ
four w x y z = bit_xor (bit_xor (bit_xor w x) y) z

four_cong : {w x y z w' x' y' z' : ℕ} → w ≡ w' → x ≡ x' → y ≡ y' → z ≡ z' → four w x y z ≡ four w' x' y' z'
four_cong e f g h = ap₂ bit_xor (ap₂ bit_xor (ap₂ bit_xor e f) g) h

four-xor : (w x y z w' x' y' z' : ℕ)
    → four (bit_xor w w') (bit_xor x x') (bit_xor y y') (bit_xor z z') ≡ bit_xor (four w x y z) (four w' x' y' z')
four-xor w x y z w' x' y' z' = simp xor_sums

-- ---- additive

pub mixed-xor : (a b c d a' b' c' d' : ℕ)
    → mixed (bit_xor a a') (bit_xor b b') (bit_xor c c') (bit_xor d d') ≡ bit_xor (mixed a b c d) (mixed a' b' c' d')
unfolding mixed
mixed-xor a b c d a' b' c' d' =
    four_cong (times-right 2 a a') (times-right 3 b b') refl refl ∙ four-xor (times 2 a) (times 3 b) c d (times 2 a') (times 3 b') c' d'

inverse_mixed-xor : (a b c d a' b' c' d' : ℕ)
    → inverse_mixed (bit_xor a a') (bit_xor b b') (bit_xor c c') (bit_xor d d') ≡ bit_xor (inverse_mixed a b c d) (inverse_mixed a' b' c' d')
unfolding inverse_mixed
inverse_mixed-xor a b c d a' b' c' d' =
    four_cong (times-right 0x0e a a') (times-right 0x0b b b') (times-right 0x0d c c') (times-right 0x09 d d')
    ∙ four-xor (times 0x0e a) (times 0x0b b) (times 0x0d c) (times 0x09 d) (times 0x0e a') (times 0x0b b') (times 0x0d c') (times 0x09 d')

pub mixed_of-xor : (w : Direction) (a b c d a' b' c' d' : ℕ)
    → mixed_of w (bit_xor a a') (bit_xor b b') (bit_xor c c') (bit_xor d d') ≡ bit_xor (mixed_of w a b c d) (mixed_of w a' b' c' d')
mixed_of-xor Forward = mixed-xor
mixed_of-xor Inverse = inverse_mixed-xor

-- ---- InvMixColumns by doublings

times-four : (a : ℕ) → times 4 a ≡ doubled (doubled a)
unfolding doubled if_set
times-four a = times-doubled_l 2 a ∙ ap doubled (times_two a)

times_eight : (a : ℕ) → times 8 a ≡ doubled (doubled (doubled a))
unfolding doubled if_set
times_eight a = times-doubled_l 4 a ∙ ap doubled (times-four a)

-- 0e = 02 + 0c, 0b = 03 + 08, 0d = 01 + 0c, 09 = 01 + 08
apart : (a b c d : ℕ) → c < 256 → d < 256
    → inverse_mixed a b c d ≡ bit_xor (mixed a b c d) (four (times 0x0c a) (times 8 b) (times 0x0c c) (times 8 d))
unfolding inverse_mixed mixed
apart a b c d hc hd =
    four_cong (times-left a 2 0x0c) (times-left b 3 8) (times-left c 1 0x0c ∙ ap (λ (n : ℕ). bit_xor n (times 0x0c c)) (times_one_l c hc))
    (times-left d 1 8 ∙ ap (λ (n : ℕ). bit_xor n (times 8 d)) (times_one_l d hd))
    ∙ four-xor (times 2 a) (times 3 b) c d (times 0x0c a) (times 8 b) (times 0x0c c) (times 8 d)

-- what the doublings add: 0c · a + 08 · b + 0c · c + 08 · d
added : (a b c d : ℕ) → let u = doubled (doubled (bit_xor a c)) in let v = doubled (doubled (bit_xor b d)) in
    mixed u v u v ≡ four (times 0x0c a) (times 8 b) (times 0x0c c) (times 8 d)
unfolding mixed
added a b c d =
    let x = bit_xor a c in
    let y = bit_xor b d in
    let u = doubled (doubled x) in
    let v = doubled (doubled y) in
    four_cong (times_two u) (times_three v (doubled_lt (doubled y))) refl refl
    ∙ left (doubled u) u (doubled v) v
    ∙ sym (ap₂ bit_xor (times-left x 8 4 ∙ ap₂ bit_xor (times_eight x) (times-four x)) (times_eight y))
    ∙ ap₂ bit_xor (times-right 0x0c a c) (times-right 8 b d)
    ∙ inner (times 0x0c a) (times 0x0c c) (times 8 b) (times 8 d)
  where
    left : (u' u v' v : ℕ) → four u' (bit_xor v' v) u v ≡ bit_xor (bit_xor u' u) v'
    left u' u v' v = simp xor_sums

    inner : (p q r s : ℕ) → bit_xor (bit_xor p q) (bit_xor r s) ≡ four p r q s
    inner p q r s = simp xor_sums

pub inverse_mixed-made : (a b c d u v : ℕ) → c < 256 → d < 256 → u ≡ doubled (doubled (bit_xor a c)) → v ≡ doubled (doubled (bit_xor b d))
    → inverse_mixed a b c d ≡ mixed (bit_xor a u) (bit_xor b v) (bit_xor c u) (bit_xor d v)
inverse_mixed-made a b c d u v hc hd eu ev =
    apart a b c d hc hd
    ∙ ap (bit_xor (mixed a b c d)) (sym (added a b c d) ∙ sym (ap₂ (λ (m n : ℕ). mixed m n m n) eu ev))
    ∙ sym (mixed-xor a b c d u v u v)

-- ---- InvMixColumns undoes MixColumns: the products of their coefficients, gathered by byte, are 01 for the first byte and 00 for the others

spread : (k a b c d : ℕ) → times k (mixed a b c d) ≡ four (times (times k 2) a) (times (times k 3) b) (times k c) (times k d)
unfolding mixed
spread k a b c d =
    let p = times 2 a in
    let q = times 3 b in
    times-right k (bit_xor (bit_xor p q) c) d
    ∙ ap (λ (n : ℕ). bit_xor n (times k d)) (times-right k (bit_xor p q) c ∙ ap (λ (n : ℕ). bit_xor n (times k c)) (times-right k p q))
    ∙ four_cong (sym (times_assoc k 2 a)) (sym (times_assoc k 3 b)) refl refl

gathered : (j k l m x : ℕ) → four (times j x) (times k x) (times l x) (times m x) ≡ times (four j k l m) x
gathered j k l m x =
    sym
    (times-left x (bit_xor (bit_xor j k) l) m
    ∙ ap (λ (n : ℕ). bit_xor n (times m x)) (times-left x (bit_xor j k) l ∙ ap (λ (n : ℕ). bit_xor n (times l x)) (times-left x j k)))

-- the coefficients of each byte, summed
first_byte : four (times 0x0e 2) 0x0b 0x0d (times 0x09 3) ≡ 1
unfolding times times_from doubled if_set
first_byte = refl

second_byte : four (times 0x0e 3) (times 0x0b 2) 0x0d 0x09 ≡ 0
unfolding times times_from doubled if_set
second_byte = refl

third_byte : four 0x0e (times 0x0b 3) (times 0x0d 2) 0x09 ≡ 0
unfolding times times_from doubled if_set
third_byte = refl

fourth-byte : four 0x0e 0x0b (times 0x0d 3) (times 0x09 2) ≡ 0
unfolding times times_from doubled if_set
fourth-byte = refl

pub inverse_mixed-mixed : (a b c d : ℕ) → a < 256 → inverse_mixed (mixed a b c d) (mixed b c d a) (mixed c d a b) (mixed d a b c) ≡ a
unfolding inverse_mixed
inverse_mixed-mixed a b c d ha =
    four_cong (spread 0x0e a b c d) (spread 0x0b b c d a) (spread 0x0d c d a b) (spread 0x09 d a b c)
    ∙ same_sum
    (times (times 0x0e 2) a ∷ times 0x0b a ∷ times 0x0d a ∷ times (times 0x09 3) a
    ∷ times (times 0x0e 3) b ∷ times (times 0x0b 2) b ∷ times 0x0d b ∷ times 0x09 b
    ∷ times 0x0e c ∷ times (times 0x0b 3) c ∷ times (times 0x0d 2) c ∷ times 0x09 c
    ∷ times 0x0e d ∷ times 0x0b d ∷ times (times 0x0d 3) d ∷ times (times 0x09 2) d ∷ [])
    ((# 0 ⊕ # 4 ⊕ # 8 ⊕ # 12) ⊕ (# 5 ⊕ # 9 ⊕ # 13 ⊕ # 1) ⊕ (# 10 ⊕ # 14 ⊕ # 2 ⊕ # 6) ⊕ (# 15 ⊕ # 3 ⊕ # 7 ⊕ # 11))
    ((# 0 ⊕ # 1 ⊕ # 2 ⊕ # 3) ⊕ (# 4 ⊕ # 5 ⊕ # 6 ⊕ # 7) ⊕ (# 8 ⊕ # 9 ⊕ # 10 ⊕ # 11) ⊕ (# 12 ⊕ # 13 ⊕ # 14 ⊕ # 15))
    refl
    ∙ four_cong
    (gathered (times 0x0e 2) 0x0b 0x0d (times 0x09 3) a ∙ ap (λ (n : ℕ). times n a) first_byte ∙ times_one_l a ha)
    (gathered (times 0x0e 3) (times 0x0b 2) 0x0d 0x09 b ∙ ap (λ (n : ℕ). times n b) second_byte ∙ times_zero_l b)
    (gathered 0x0e (times 0x0b 3) (times 0x0d 2) 0x09 c ∙ ap (λ (n : ℕ). times n c) third_byte ∙ times_zero_l c)
    (gathered 0x0e 0x0b (times 0x0d 3) (times 0x09 2) d ∙ ap (λ (n : ℕ). times n d) fourth-byte ∙ times_zero_l d)
    ∙ alone a
  where
    alone : (x : ℕ) → four x 0 0 0 ≡ x
    alone x = simp xor_sums
