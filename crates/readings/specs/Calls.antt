-- The outcome of the reading of a product's places on every input, refusals included. Document 01, "Turned-down calls", decides; that a tape is
-- words, document 02, wish 6. Assumes nothing: these are definitions.
use Rattle.std.specs.Prelude.{List, ℕ, length}
use Rattle.gf256.specs.Field.{times}
use Rattle.isw.specs.Place.{place_count, product_need, sheet}
use Rattle.outcomes.specs.Outcome.{Outcome, took, served, reaches}
use Rattle.tape_words.specs.Words.{bytes_of, words_for}
use Rattle.masking.specs.Calls.{two_fit}
use Rattle.place_lists.specs.Listed.{made_tests, listed_outcome}

-- the reading (the observation) of the product's sheet (its transcript), of P(d) places
unfoldable pub reading_outcome : (order : ℕ) (left right tape list output : List ℕ) → Outcome
reading_outcome d a b ts ps o =
    listed_outcome (made_tests (served d) (two_fit d (length a) (length b)) (reaches (length ts) (words_for (product_need d))))
    (place_count d) (took (words_for (product_need d))) d (sheet times d a b (bytes_of ts)) ps o
