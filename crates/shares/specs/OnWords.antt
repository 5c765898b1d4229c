-- What a tape of 32-bit words does to a call. Document 02, wish 6, decides: on the same bytes all shares are as on a tape of bytes, and the count is in
-- words, rounded up. Assumes nothing: these are definitions.
use Rattle.std.specs.Prelude.{◌≡◌, List, ◌++◌, ℕ}
use Rattle.outcomes.specs.declared.Count.{Count}
use Rattle.outcomes.specs.Outcome.{Outcome, done, took}
use Rattle.tape_words.specs.Words.{words_for, SameFront}

-- of a call that draws `need` bytes and makes `made ts` of a tape ts of bytes
pub record AsOnBytes (need : ℕ) (made : (bytes : List ℕ) → List ℕ) (call : (words : List ℕ) → Outcome) : Type 0 where
  -- on any words that begin with the same bytes it puts out the same, and counts the words that hold them
  pub same : (ws ts : List ℕ) (k : Count) (q : List ℕ) → call ws ≡ done k q → SameFront need ws ts → (k ≡ took (words_for need)) × (q ≡ made ts)
  -- words behind them have no effect
  pub surplus : (ws us : List ℕ) (k : Count) (q : List ℕ) → call ws ≡ done k q → call (ws ++ us) ≡ done k q
