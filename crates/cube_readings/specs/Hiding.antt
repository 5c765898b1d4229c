-- The hiding rule across the cube, for bytes on a tape of 32-bit words: d places of x · x² say nothing about x (security against d probes).
-- Document 02, wish 8, decides, and that whole words are free, wish 6. Assumes nothing: these are definitions.
use Rattle.std.specs.Prelude.{◌≡◌, List, ℕ, ◌≤◌, ◌<◌, length}
use Rattle.xor.specs.Lists.{Below}
use Rattle.gf256.specs.Field.{times, squared}
use Rattle.isw.specs.Place.{listed}
use Rattle.isw.specs.Hiding.{factor, same}
use Rattle.tape_words.specs.Words.{bytes_of, words_for}
use Rattle.choices.specs.Choices.{choices}
use Rattle.gadgets.specs.Cube.{cube_need, cube_sheet, cube_count}

-- A choice is d masks for x, and the words of the tape.

-- the sheet (the transcript) that a choice makes of x
unfoldable pub cube_sheet_chosen : (d x : ℕ) (masks words : List ℕ) → List ℕ
cube_sheet_chosen d x ms ws = cube_sheet times squared d (factor x ms) (bytes_of ws)

-- how many choices put just the reading's values (the observation) at the listed places (the probes)
unfoldable pub cube_word_readings : (d n x : ℕ) (list reading : List ℕ) → ℕ
cube_word_readings d n x ps rs = choices d n (λ ms ws. same (listed (cube_sheet_chosen d x ms ws) ps) rs)

-- THE HIDING RULE: at every order d, on every tape that has the words of a cube, for every list of at most d places, every reading and any two
-- values of x, equally many choices give the reading
unfoldable pub CubeWordsHide : Type 0
CubeWordsHide =
    (d n : ℕ) (list reading : List ℕ) (x y : ℕ) → words_for (cube_need d) ≤ n → length list ≤ d → Below (cube_count d) list → x < 256 → y < 256
    → cube_word_readings d n x list reading ≡ cube_word_readings d n y list reading
