-- A tape of 32-bit words as the bytes that the steps draw. Document 02, wish 6, decides. Assumes nothing: these are definitions.
-- The steps and their laws speak of bytes; only the outcomes of the calls speak of words.
use Rattle.std.specs.Prelude.{◌≡◌, List, [], ◌∷◌, ◌++◌, ℕ, ◌+◌, ◌/◌, ◌%◌, ◌≤◌, length, take}

-- the four bytes of a word, lowest first (little-endian)
unfoldable pub word_bytes : (word : ℕ) → List ℕ
word_bytes v = v % 256 ∷ v / 256 % 256 ∷ v / 256 / 256 % 256 ∷ v / 256 / 256 / 256 % 256 ∷ []

-- the bytes of a tape: those of its first word, then those of the next, and so on
unfoldable pub bytes_of : (words : List ℕ) → List ℕ
bytes_of [] = []
bytes_of (v ∷ vs) = word_bytes v ++ bytes_of vs

-- how many words hold so many bytes: a quarter, rounded up. What is left of the last word is dropped
unfoldable pub words_for : (bytes : ℕ) → ℕ
words_for n = (n + 3) / 4

-- a tape of words and a tape of bytes begin with the same bytes, as many as are needed
pub record SameFront (need : ℕ) (words bytes : List ℕ) : Type 0 where
  pub long : need ≤ length bytes
  pub same : take need (bytes_of words) ≡ take need bytes
