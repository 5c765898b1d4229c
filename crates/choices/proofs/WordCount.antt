-- Counting over words: a sum over lists of 32-bit words of what their bytes decide is the sum over the lists of bytes. Assumes nothing.
use mathlib.Core.Path.{◌≡◌, refl, sym, ap, ap₂, ◌∙◌}
use mathlib.Core.Bool.{Bool, cond}
use mathlib.Core.List.{List, ◌∷◌}
use Prim.Native.Nat.{ℕ, zero, suc, ◌+◌, ◌*◌, ◌/◌, ◌%◌, ◌^◌, ◌<◌}
use native.Mathlib.Nat.{zero-mul, suc-mul, add-zero, add-suc}
use native.Mathlib.Omega.{arith}
use Rattle.isw.specs.Hiding.{total, how_many, sums}
use Rattle.isw.proofs.CountLaws.{total_cong, total_swap, how_many-sums}
use Rattle.tape_words.specs.Words.{word_bytes, bytes_of}

-- ---- over the numbers below a product

total-append : (a b : ℕ) (f : ℕ → ℕ) → total (a + b) f ≡ total a f + total b (λ l. f (a + l))
unfolding total
total-append a zero f = ap (λ (n : ℕ). total n f) (add-zero a) ∙ sym (add-zero (total a f))
total-append a (suc b) f = ap (λ (n : ℕ). total n f) (add-suc a b) ∙ (let ih = total-append a b f in omega arith)

total_digits : (m n : ℕ) (f : ℕ → ℕ) → total (m * n) f ≡ total m (λ h. total n (λ l. f (h * n + l)))
unfolding total
total_digits zero n f = ap (λ (k : ℕ). total k f) (zero-mul n)
total_digits (suc m) n f =
    ap (λ (k : ℕ). total k f) (suc-mul m n) ∙ total-append (m * n) n f ∙ ap (λ (x : ℕ). x + total n (λ l. f (m * n + l))) (total_digits m n f)

-- by the lowest byte and the rest, the lowest byte outermost
low_byte : (m : ℕ) (g : ℕ → ℕ → ℕ) → total (m * 256) (λ v. g (v % 256) (v / 256)) ≡ total 256 (λ b. total m (λ h. g b h))
low_byte m g =
    total_digits m 256 (λ v. g (v % 256) (v / 256))
    ∙ total_cong m _ _ (λ h u. total_cong 256 _ _ (λ l w. ap₂ g (rest h l w) (front h l w)))
    ∙ total_swap m 256 (λ h l. g l h)
  where
    rest : (h l : ℕ) → l < 256 → (h * 256 + l) % 256 ≡ l
    rest h l w = omega arith

    front : (h l : ℕ) → l < 256 → (h * 256 + l) / 256 ≡ h
    front h l w = omega arith

-- ---- a word is its four bytes

four_bytes : (g : ℕ → ℕ → ℕ → ℕ → ℕ)
    → total (16777216 * 256) (λ v. g (v % 256) (v / 256 % 256) (v / 256 / 256 % 256) (v / 256 / 256 / 256 % 256))
    ≡ total 256 (λ a. total 256 (λ b. total 256 (λ c. total 256 (λ d. g a b c d))))
four_bytes g =
    low_byte 16777216 (λ a h. g a (h % 256) (h / 256 % 256) (h / 256 / 256 % 256))
    ∙ total_cong 256 _ _ (λ a u.
    low_byte 65536 (λ b h. g a b (h % 256) (h / 256 % 256))
    ∙ total_cong 256 _ _ (λ b v.
    low_byte 256 (λ c h. g a b c (h % 256))
    ∙ total_cong 256 _ _ (λ c w. total_cong 256 _ _ (λ h x. ap (g a b c) (small h x)))))
  where
    small : (h : ℕ) → h < 256 → h % 256 ≡ h
    small h x = omega arith

pub sums-words : (k : ℕ) (f : List ℕ → ℕ) → sums (2 ^ 32) k (λ ws. f (bytes_of ws)) ≡ sums 256 (4 * k) f
unfolding sums bytes_of word_bytes
sums-words zero f = refl
sums-words (suc k) f =
    let e : 4 * suc k ≡ suc (suc (suc (suc (4 * k)))) = omega arith in
    total_cong (2 ^ 32) _ _ (λ v u. sums-words k (λ l. f (v % 256 ∷ v / 256 % 256 ∷ v / 256 / 256 % 256 ∷ v / 256 / 256 / 256 % 256 ∷ l)))
    ∙ four_bytes (λ a b c d. sums 256 (4 * k) (λ l. f (a ∷ b ∷ c ∷ d ∷ l)))
    ∙ ap (λ (n : ℕ). sums 256 n f) (sym e)

-- as many choices of words as of bytes
pub how_many-words : (k : ℕ) (test : List ℕ → Bool) → how_many (2 ^ 32) k (λ ws. test (bytes_of ws)) ≡ how_many 256 (4 * k) test
how_many-words k test = how_many-sums (2 ^ 32) k _ ∙ sums-words k (λ l. cond (test l) 1 0) ∙ sym (how_many-sums 256 (4 * k) test)
