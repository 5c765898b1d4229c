-- Running sums: one, and those of all shares while a row of pairs goes into them. Assumes nothing: these are definitions.
-- Document 01, "The steps over shares", decides for the masked product, document 02, wish 7, for the refresh: both take in a row by these.
use Rattle.std.specs.Prelude.{List, ℕ, zero, suc, ◌+◌, set}
use Rattle.std.specs.Int.Bits.{bit_xor}
use Rattle.xor.specs.Lists.{at, tab}

-- a start, and then one term after another XORed in: after k terms
unfoldable pub running : (start : ℕ) (term : ℕ → ℕ) (k : ℕ) → ℕ
running s f zero = s
running s f (suc k) = bit_xor (running s f k) (f k)

-- ---- row i of the pairs, with the shares behind i: pair m is that with share i + 1 + m, and its draw is byte m of the tape

-- share i's own sum after each of the w draws of its row
abbrev pub owns : (tape sums : List ℕ) (i w : ℕ) → List ℕ
owns ts s i w = tab (λ m. running (at s i) (at ts) (m + 1)) w

-- the sums of the shares behind i, once the first m of them have taken in their terms of the row: share i + 1 + m takes in term m
unfoldable pub behind_taken : (i : ℕ) (term : ℕ → ℕ) (sums : List ℕ) (m : ℕ) → List ℕ
behind_taken i f s zero = s
behind_taken i f s (suc m) = set (behind_taken i f s m) (i + 1 + m) (bit_xor (at (behind_taken i f s m) (i + 1 + m)) (f m))

-- all sums after a row of w pairs: share i has taken in the row's draws, one after another, each share behind it its term
unfoldable pub row_taken : (i w : ℕ) (draws term : ℕ → ℕ) (sums : List ℕ) → List ℕ
row_taken i w r f s = set (behind_taken i f s w) i (running (at s i) r w)
