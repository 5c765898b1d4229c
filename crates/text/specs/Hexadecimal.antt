-- Text that stands for bytes, or for words of 32 bits: hexadecimal. Assumes nothing: these are definitions. No document decides them.
use Rattle.std.specs.Prelude.{cond, List, ℕ, ◌+◌, ◌*◌, ◌-◌, ◌%◌, ltb}
use Rattle.xor.specs.Lists.{at, tab}
use Rattle.text.specs.Packing.{word}

-- the value of a hexadecimal digit: 0 to 9, A to F or a to f; 16 where the character is none of these
unfoldable pub digit : (c : ℕ) → ℕ
digit c =
    cond (ltb c 48) 16
    (cond (ltb c 58) (c - 48)
    (cond (ltb c 65) 16
    (cond (ltb c 71) (c - 65 + 10)
    (cond (ltb c 97) 16
    (cond (ltb c 103) (c - 97 + 10) 16)))))

-- two digits as one byte
unfoldable pub byte : (high low : ℕ) → ℕ
byte h l = digit h % 16 * 16 + digit l % 16

-- the byte that two digits of a text are, from i on
unfoldable pub byte_at : (text : List ℕ) (i : ℕ) → ℕ
byte_at t i = byte (at t i) (at t (i + 1))

-- the first n bytes of a text that has two digits for each
unfoldable pub bytes : (text : List ℕ) (n : ℕ) → List ℕ
bytes t n = tab (λ k. byte_at t (k * 2)) n

-- the word whose value eight digits of a text are, from i on: the highest byte first
unfoldable pub word_at : (text : List ℕ) (i : ℕ) → ℕ
word_at t i = word (byte_at t (i + 6)) (byte_at t (i + 4)) (byte_at t (i + 2)) (byte_at t i)

-- the first n words of a text that has eight digits for each
unfoldable pub words : (text : List ℕ) (n : ℕ) → List ℕ
words t n = tab (λ k. word_at t (k * 8)) n
