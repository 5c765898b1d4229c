-- What a call of the C interface gives back: a status, the count behind `taken`, and the output; and where unused tape starts.
-- Assumes nothing: these are definitions. Document 01's table decides the numbers.
use Rattle.std.specs.Prelude.{cond, List, ℕ, ltb, length}
use Rattle.outcomes.specs.Outcome.{Outcome, done, refused}

-- what C can see of a call
pub record Returned : Type 0 where
  pub status : ℕ
  pub taken : ℕ
  pub output : List ℕ

-- the same from its parts
abbrev pub gives : (status taken : ℕ) (output : List ℕ) → Returned
gives s k q = record { status = s; taken = k; output = q }

-- 0, with the count set, when the call was carried through; else document 01's number, and what stood behind `taken` stays
abbrev pub returned : Outcome → (before : ℕ) → Returned
returned (done k q) t = gives 0 k.taken q
returned (refused n q) t = gives n t q

-- unused tape starts at count, or at the tape's end if count exceeds its length
unfoldable pub unused_start : (tape : List ℕ) (count : ℕ) → ℕ
unused_start ts k = cond (ltb (length ts) k) (length ts) k
