-- The outcome of the cube's sheet on every input, refusals included. Document 02, wish 8, decides; that a tape is words, wish 6.
-- Assumes nothing: these are definitions.
use Rattle.std.specs.Prelude.{List, ℕ, length}
use Rattle.gf256.specs.Field.{times, squared}
use Rattle.outcomes.specs.Outcome.{Outcome, took, settled}
use Rattle.tape_words.specs.Words.{bytes_of, words_for}
use Rattle.shares.specs.Calls.{input_tests}
use Rattle.gadgets.specs.Cube.{cube_need, cube_sheet, cube_count}

-- an input of n bytes, the shares of x, and an output of as many bytes as the cube has places
unfoldable pub cube_sheet_outcome : (order : ℕ) (input tape output : List ℕ) → Outcome
cube_sheet_outcome d xs ts o =
    settled (input_tests (cube_count d) (words_for (cube_need d)) d (length xs) (length ts) (length o)) (took (words_for (cube_need d))) o
    (cube_sheet times squared d xs (bytes_of ts))
