-- The pairs i < j < n, in the order in which a byte is drawn for each: i outer, both ascending. Assumes nothing: these are definitions.
-- Document 01, "The steps over shares", decides the order.
use Rattle.std.specs.Prelude.{List, ℕ, zero, suc, ◌+◌, ◌-◌}
use Rattle.xor.specs.Lists.{runs, tab}

-- f i j for each pair
unfoldable pub each_pair : {A : Type 0} (n : ℕ) → (ℕ → ℕ → A) → List A
each_pair n f = runs (λ i. tab (λ m. f i (suc i + m)) (n - suc i)) n

-- the pairs themselves
unfoldable pub pairs : (n : ℕ) → List (ℕ × ℕ)
pairs n = each_pair n (λ i j. (i, j))

-- how many have their first entry before i
unfoldable pub before_row : (n i : ℕ) → ℕ
before_row n zero = 0
before_row n (suc i) = before_row n i + (n - suc i)

-- how many there are
abbrev pub pair_count : (n : ℕ) → ℕ
pair_count n = before_row n n

-- where the pair (i, j) stands among them
unfoldable pub draw_index : (n i j : ℕ) → ℕ
draw_index n i j = before_row n i + (j - suc i)
