-- Counting choices of masks and of the words of a tape (the randomness), by which the hiding rules on words are stated. Document 01, "Places in one
-- product", decides, and that whole words are free, document 02, wish 6. Assumes nothing: these are definitions.
use Rattle.std.specs.Prelude.{Bool, List, ℕ, ◌^◌}
use Rattle.isw.specs.Hiding.{how_many, sums}

-- A choice is m masks, each any byte, and the n words of a tape, each any number of 32 bits; none is tied to another. What a run leaves of its last
-- word, and words behind it, are as free as what it draws.

-- how many choices (of the randomness) pass a test: each list of masks comes once, and with each of them each list of words once
unfoldable pub choices : (m n : ℕ) (test : (masks words : List ℕ) → Bool) → ℕ
choices m n test = sums 256 m (λ ms. how_many (2 ^ 32) n (test ms))
