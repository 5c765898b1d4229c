-- How often a masked product applies its operation, counted over its places. Document 02, wish 9, decides what is counted: for the product of bytes
-- these are its field products. Assumes nothing: these are definitions.
use Rattle.std.specs.Prelude.{List, [], ◌∷◌, ℕ, zero, suc, ◌+◌}
use Rattle.isw.specs.Place.{Place, left, right, draw, cross, half, back, part, places}

-- 1 where a place (probe) is the product of two shares: of a_i and b_j in a pair, and of a_i and b_i, with which row i starts; no other place
-- applies the operation
unfoldable pub operations : Place → ℕ
operations (left i) = 0
operations (right i) = 0
operations (draw i j) = 0
operations (cross i j) = 1
operations (half i j) = 0
operations (back i j) = 0
operations (part i zero) = 1
operations (part i (suc k)) = 0

-- how many of the listed places are such
unfoldable pub operations_in : List Place → ℕ
operations_in [] = 0
operations_in (p ∷ ps) = operations p + operations_in ps

-- how many products of two shares a masked product of order d has
unfoldable pub product_operations : (d : ℕ) → ℕ
product_operations d = operations_in (places (suc d))
