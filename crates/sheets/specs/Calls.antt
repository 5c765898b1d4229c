-- The outcome of a product's sheet on every input, refusals included. Document 01, "Turned-down calls", decides; that a tape is words, document 02,
-- wish 6. Assumes nothing: these are definitions.
use Rattle.std.specs.Prelude.{List, ℕ, length}
use Rattle.gf256.specs.Field.{times}
use Rattle.isw.specs.Place.{place_count, product_need, sheet}
use Rattle.outcomes.specs.Outcome.{Outcome, took, settled}
use Rattle.tape_words.specs.Words.{bytes_of, words_for}
use Rattle.masking.specs.Calls.{factor_tests}

-- an output of P(d) bytes
unfoldable pub sheet_outcome : (order : ℕ) (left right tape output : List ℕ) → Outcome
sheet_outcome d a b ts o =
    settled (factor_tests (place_count d) d (length a) (length b) (length ts) (length o)) (took (words_for (product_need d))) o
    (sheet times d a b (bytes_of ts))
