-- The outcome of the refresh on every input, refusals included. Document 01, "Turned-down calls", decides; that a tape is words, document 02,
-- wish 6. Assumes nothing: these are definitions.
use Rattle.std.specs.Prelude.{List, ℕ, length}
use Rattle.outcomes.specs.Outcome.{Outcome, took, settled}
use Rattle.tape_words.specs.Words.{bytes_of, words_for}
use Rattle.shares.specs.Calls.{byte_tests}
use Rattle.refresh.specs.Refresh.{refreshed, refresh_need}

-- an input and an output of n bytes
unfoldable pub refresh_outcome : (order : ℕ) (input tape output : List ℕ) → Outcome
refresh_outcome d xs ts o =
    settled (byte_tests (words_for (refresh_need d)) d (length xs) (length ts) (length o)) (took (words_for (refresh_need d))) o
    (refreshed d xs (bytes_of ts))
