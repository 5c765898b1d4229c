-- The outcome of the reading of the cube's places on every input, refusals included. Document 02, wish 8, decides; that a tape is words, wish 6.
-- Assumes nothing: these are definitions.
use Rattle.std.specs.Prelude.{List, ℕ, suc, eqb, length}
use Rattle.gf256.specs.Field.{times, squared}
use Rattle.outcomes.specs.Outcome.{Outcome, took, served, reaches}
use Rattle.tape_words.specs.Words.{bytes_of, words_for}
use Rattle.place_lists.specs.Listed.{made_tests, listed_outcome}
use Rattle.gadgets.specs.Cube.{cube_need, cube_sheet, cube_count}

-- the reading (the observation) of the cube's sheet (its transcript)
unfoldable pub cube_reading_outcome : (order : ℕ) (input tape list output : List ℕ) → Outcome
cube_reading_outcome d xs ts ps o =
    listed_outcome (made_tests (served d) (eqb (length xs) (suc d)) (reaches (length ts) (words_for (cube_need d))))
    (cube_count d) (took (words_for (cube_need d))) d (cube_sheet times squared d xs (bytes_of ts)) ps o
