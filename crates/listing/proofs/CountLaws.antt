-- How many places the parts of a listing have together. Assumes nothing.
use Rattle.std.proofs.Common.{◌≡◌, ℕ, ◌+◌, ◌-◌, ◌*◌, ◌<◌, ◌≤◌, ap, add-one, arith}
use Rattle.std.proofs.Math.Nat.{mul-le-mul_left}
use Rattle.xor.specs.Pairs.{before_row, pair_count}
use Rattle.xor.proofs.PairsLaws.{before_row_next, before_row_le, pair_count_is}
use Rattle.isw.specs.Place.{place_count}
use Rattle.sheet_parts.proofs.SheetParts.{count_bounds}

-- so many places for each pair of row i, behind those of the rows before it
pub rows_next : (m n i : ℕ) → m * before_row n i + m * (n - (i + 1)) ≡ m * before_row n (i + 1)
rows_next m n i = omega (arith, ap (λ (x : ℕ). m * x) (before_row_next n i))

pub rows_fit : (m n i : ℕ) → i < n → m * before_row n (i + 1) ≤ m * pair_count n
rows_fit m n i h = mul-le-mul_left m (before_row_le n i h)

pub ruleset pair_rows = (rows_next, rows_fit)

-- the parts of a product: two factors, the pairs, the running sums
pub place_count_parts : (d : ℕ) → place_count d ≡ (d + 1) + (d + 1) + 5 * pair_count (d + 1) + (d + 1) * (d + 1)
unfolding place_count
place_count_parts d = rw (add-one d) (omega (arith, pair_count_is d))

pub place_count_bound : (d : ℕ) → d ≤ 8 → place_count d ≤ 279
unfolding place_count
place_count_bound d h = omega (arith, count_bounds d h)
