-- A tape that was packed holds the bytes that it was packed from. Assumes nothing.
use mathlib.Core.Path.{◌≡◌, refl, ap, ◌∙◌}
use mathlib.Core.List.{List, [], ◌∷◌, ◌++◌}
use Prim.Native.Nat.{ℕ, zero, suc, ◌+◌, ◌*◌, ◌/◌, ◌%◌, ◌<◌}
use native.Mathlib.Omega.{arith}
use lib.ListN.{length}
use Rattle.xor.specs.Lists.{at, tab, runs, Below, done, ◌&◌}
use Rattle.xor.proofs.ListsLaws.{tab_first, tab_cong}
use Rattle.tape_words.specs.Words.{word_bytes, bytes_of}
use Rattle.text.specs.Hexadecimal as Hexadecimal
use Rattle.text.specs.Packing.{word, word_at, packed}

-- the bytes of a word of four bytes
pub word_read : (a b c d : ℕ) → a < 256 → b < 256 → c < 256 → d < 256 → word_bytes (word a b c d) ≡ a ∷ b ∷ c ∷ d ∷ []
unfolding word word_bytes
word_read a b c d ha hb hc hd =
    let one : (a + b * 256 + c * 65536 + d * 16777216) / 256 ≡ b + c * 256 + d * 65536 = omega arith in
    let two : (b + c * 256 + d * 65536) / 256 ≡ c + d * 256 = omega arith in
    let three : (c + d * 256) / 256 ≡ d = omega arith in
    let first : (a + b * 256 + c * 65536 + d * 16777216) % 256 ≡ a = omega arith in
    let second : (b + c * 256 + d * 65536) % 256 ≡ b = omega arith in
    let third : (c + d * 256) % 256 ≡ c = omega arith in
    let fourth : d % 256 ≡ d = omega arith in
    rw (one, two, three, first, second, third, fourth) refl

-- words behind the first one
later_word : (a b c d i : ℕ) (bs : List ℕ) → word_at (a ∷ b ∷ c ∷ d ∷ bs) (suc i * 4) ≡ word_at bs (i * 4)
unfolding word_at at
later_word a b c d i bs =
    let first : suc i * 4 ≡ suc (suc (suc (suc (i * 4)))) = omega arith in
    let second : suc i * 4 + 1 ≡ suc (suc (suc (suc (i * 4 + 1)))) = omega arith in
    let third : suc i * 4 + 2 ≡ suc (suc (suc (suc (i * 4 + 2)))) = omega arith in
    let fourth : suc i * 4 + 3 ≡ suc (suc (suc (suc (i * 4 + 3)))) = omega arith in
    rw (second, third, fourth, first) refl

packed_first : (a b c d n : ℕ) (bs : List ℕ) → packed (a ∷ b ∷ c ∷ d ∷ bs) (suc n) ≡ word a b c d ∷ packed bs n
unfolding packed word_at at
packed_first a b c d n bs =
    tab_first (λ k. word_at (a ∷ b ∷ c ∷ d ∷ bs) (k * 4)) n
    ∙ ap (◌∷◌ (word a b c d)) (tab_cong _ _ n (λ i _. later_word a b c d i bs))

-- the bytes of what was packed
pub packed_read : (n : ℕ) {bs : List ℕ} → Below 256 bs → length bs ≡ n * 4 → bytes_of (packed bs n) ≡ bs
unfolding packed tab runs bytes_of
packed_read zero done h = refl
packed_read zero (a & s) h = absurd (omega arith)
packed_read (suc n) done h = absurd (omega arith)
packed_read (suc n) (a & done) h = absurd (omega arith)
packed_read (suc n) (a & b & done) h = absurd (omega arith)
packed_read (suc n) (a & b & c & done) h = absurd (omega arith)
packed_read (suc n) {bs = v ∷ w ∷ x ∷ y ∷ bs} (a & b & c & d & small) h =
    ap bytes_of (packed_first v w x y n bs)
    ∙ ap (λ (l : List ℕ). l ++ bytes_of (packed bs n)) (word_read v w x y a b c d)
    ∙ ap (λ (l : List ℕ). v ∷ w ∷ x ∷ y ∷ l) (packed_read n small (omega arith))

-- the digits 00000201 are the word of the bytes 01 02 00 00
pub digits_read : bytes_of (Hexadecimal.words (48 ∷ 48 ∷ 48 ∷ 48 ∷ 48 ∷ 50 ∷ 48 ∷ 49 ∷ []) 1) ≡ 1 ∷ 2 ∷ 0 ∷ 0 ∷ []
unfolding Hexadecimal.words Hexadecimal.word_at Hexadecimal.byte_at Hexadecimal.byte Hexadecimal.digit word at tab runs bytes_of word_bytes
digits_read = refl
