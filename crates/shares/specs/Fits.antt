-- What a splitting asks of its buffers, once its tests let it through. Assumes nothing: these are definitions.
-- Inner contracts: no document decides them.
use Rattle.std.specs.Prelude.{◌≡◌, List, ℕ, suc, ◌*◌, ◌≤◌, length}
use Rattle.tape_words.specs.Words.{words_for}

-- the tape is words, and has those that hold the masks
pub record SplitFits (d : ℕ) (input tape output : List ℕ) : Type 0 where
  pub short : length input ≤ 32
  pub long : length output ≡ suc d * length input
  pub drawn : words_for (d * length input) ≤ length tape
