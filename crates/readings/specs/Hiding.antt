-- Demand 3 for bytes on a tape of 32-bit words: d places of a masked product of order d say nothing about its factors (security against d probes).
-- Document 01, "Places in one product", decides, and that whole words are free, document 02, wish 6. Assumes nothing: these are definitions.
use Rattle.std.specs.Prelude.{◌≡◌, List, ℕ, ◌+◌, ◌≤◌, ◌<◌, length, take, drop}
use Rattle.xor.specs.Lists.{Below}
use Rattle.gf256.specs.Field.{times}
use Rattle.isw.specs.Place.{sheet, listed, place_count, product_need}
use Rattle.isw.specs.Hiding.{factor, same}
use Rattle.tape_words.specs.Words.{bytes_of, words_for}
use Rattle.choices.specs.Choices.{choices}

-- A choice is 2d masks, d of them for a and then d for b, and the words of the tape.

-- the sheet (the transcript) that a choice makes of the factors x and y
unfoldable pub sheet_chosen : (d x y : ℕ) (masks words : List ℕ) → List ℕ
sheet_chosen d x y ms ws = sheet times d (factor x (take d ms)) (factor y (drop d ms)) (bytes_of ws)

-- how many choices put just the reading's values (the observation) at the listed places (the probes)
unfoldable pub word_readings : (d n x y : ℕ) (list reading : List ℕ) → ℕ
word_readings d n x y ps rs = choices (d + d) n (λ ms ws. same (listed (sheet_chosen d x y ms ws) ps) rs)

-- THE HIDING RULE: at every order d, on every tape that has the words of a product, for every list of at most d places, every reading and any two
-- pairs of factors, equally many choices give the reading
unfoldable pub WordsHide : Type 0
WordsHide =
    (d n : ℕ) (list reading : List ℕ) (x y v z : ℕ) → words_for (product_need d) ≤ n → length list ≤ d → Below (place_count d) list
    → x < 256 → y < 256 → v < 256 → z < 256 → word_readings d n x y list reading ≡ word_readings d n v z list reading
