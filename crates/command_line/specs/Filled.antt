-- What is read of an argument: all of it, or nothing. Assumes nothing: these are definitions. No document decides them.
use Rattle.std.specs.Prelude.{◌≡◌, List, ℕ, ◌*◌, ◌≤◌, length, Result, Ok, Err}
use Rattle.xor.specs.Writes.{front}

-- how many entries a text of that length has, so many characters each: it has no character more, and there is room for them
pub record Whole (size each room count : ℕ) : Type 0 where
  pub fits : count ≤ room
  pub all : size ≡ count * each

-- a buffer with all entries of a text of that length over its front, as `made` gives them; or the buffer as it was, where the text could not be read
abbrev pub Filled : {E : Type 0} (made : ℕ → List ℕ) (size each : ℕ) (before after : List ℕ) → Result ℕ E → Type 0
Filled made size each before after (Ok count) = Whole size each (length after) count × (after ≡ front (made count) before)
Filled made size each before after (Err _) = after ≡ before
