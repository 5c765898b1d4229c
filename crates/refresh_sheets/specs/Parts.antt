-- The parts of the places of a refresh as its routines write them: row by row of the pairs. Document 02, wish 8, decides.
-- Assumes nothing: these are definitions.
use Rattle.std.specs.Prelude.{List, [], ◌∷◌, ℕ, suc, ◌+◌}
use Rattle.xor.specs.Lists.{at, runs, tab}
use Rattle.refresh.specs.Places.{pairs_sheet}

-- three rows of w bytes, pair by pair: the draws, share i on the way, and the shares behind it
unfoldable pub three_rows : (i : ℕ) (drawn own shares : List ℕ) (w : ℕ) → List ℕ
three_rows i ts own xs w = runs (λ m. at ts m ∷ at own m ∷ at xs (i + 1 + m) ∷ []) w

-- the places of the pairs of share i with the w shares behind it
abbrev pub row_sheet : (i w : ℕ) (shares tape : List ℕ) → List ℕ
row_sheet i w xs ts = pairs_sheet (tab (λ m. (i, suc i + m)) w) xs ts
