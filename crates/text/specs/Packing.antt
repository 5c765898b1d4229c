-- Words of 32 bits made of bytes, four each. Assumes nothing: these are definitions. Document 02, wish 6, decides that the lowest byte comes first.
use Rattle.std.specs.Prelude.{List, ℕ, ◌+◌, ◌*◌}
use Rattle.xor.specs.Lists.{at, tab}

-- the word of four bytes, the lowest first
unfoldable pub word : (a b c d : ℕ) → ℕ
word a b c d = a + b * 256 + c * 65536 + d * 16777216

-- the word of the four bytes of a string from i on
unfoldable pub word_at : (bytes : List ℕ) (i : ℕ) → ℕ
word_at bs i = word (at bs i) (at bs (i + 1)) (at bs (i + 2)) (at bs (i + 3))

-- the first n words of a string that has four bytes for each
unfoldable pub packed : (bytes : List ℕ) (n : ℕ) → List ℕ
packed bs n = tab (λ k. word_at bs (k * 4)) n
