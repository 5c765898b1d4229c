-- A masked product of n shares has n² products of two shares. Assumes nothing.
use mathlib.Core.Path.{◌≡◌, refl, ◌∙◌}
use mathlib.Core.List.{List, [], ◌∷◌, ◌++◌}
use Prim.Native.Nat.{ℕ, zero, suc, ◌+◌, ◌-◌, ◌*◌, ◌≤◌}
use native.Mathlib.Nat.{mul-le-mul}
use native.Mathlib.Omega.{arith}
use Rattle.xor.specs.Lists.{runs, tab}
use Rattle.xor.specs.Pairs.{before_row}
use Rattle.isw.specs.Place.{Place, left, right, part, pair_places, pair_row, row_places, places, product_need}
use Rattle.isw.specs.Operations.{operations, operations_in, product_operations}
use Rattle.isw.proofs.OrderLaws.{twice_need}

operations-append : (ps qs : List Place) → operations_in (ps ++ qs) ≡ operations_in ps + operations_in qs
unfolding operations_in
operations-append [] qs = omega arith
operations-append (p ∷ ps) qs = omega (arith, operations-append ps qs)

-- ---- lists one after another: each with so many

operations-runs : (q : ℕ) (f : ℕ → List Place) → ((i : ℕ) → operations_in (f i) ≡ q) → (k : ℕ) → operations_in (runs f k) ≡ q * k
unfolding runs operations_in
operations-runs q f each zero = omega arith
operations-runs q f each (suc k) = operations-append (runs f k) (f k) ∙ omega (arith, each k, operations-runs q f each k)

-- the shares themselves
none : (f : ℕ → Place) → ((i : ℕ) → operations (f i) ≡ 0) → (k : ℕ) → operations_in (tab f k) ≡ 0
unfolding tab operations_in
none f h k = operations-runs 0 (λ i. f i ∷ []) (λ i. omega (arith, h i)) k ∙ omega arith

-- two for each pair
pairs_twice : (n i : ℕ) → operations_in (runs (pair_row n) i) ≡ 2 * before_row n i
unfolding runs operations_in before_row
pairs_twice n zero = refl
pairs_twice n (suc i) =
    let row : operations_in (pair_row n i) ≡ 2 * (n - suc i) =
    unfold pair_row pair_places operations_in operations in operations-runs 2 _ (λ m. refl) (n - suc i) in
    operations-append (runs (pair_row n) i) (pair_row n i) ∙ omega (arith, row, pairs_twice n i)

-- one for each row, with which it starts
row_once : (i k : ℕ) → operations_in (tab (part i) (suc k)) ≡ 1
unfolding tab runs operations_in operations
row_once i zero = refl
row_once i (suc k) = operations-append (tab (part i) (suc k)) (part i (suc k) ∷ []) ∙ omega (arith, row_once i k)

-- as document 02 says: (d + 1)²
pub product_operations_is : (d : ℕ) → product_operations d ≡ suc d * suc d
unfolding product_operations places row_places product_need operations
product_operations_is d =
    let n = suc d in
    operations-append (tab left n ++ tab right n ++ runs (pair_row n) n) (runs (row_places n) n)
    ∙ omega (
      arith,
      operations-append (tab left n ++ tab right n) (runs (pair_row n) n),
      operations-append (tab left n) (tab right n),
      none left (λ i. refl) n,
      none right (λ i. refl) n,
      pairs_twice n n,
      operations-runs 1 (row_places n) (λ i. row_once i d) n,
      twice_need d,
    )

pub product_operations_bound : (d : ℕ) → d ≤ 8 → product_operations d ≤ 81
product_operations_bound d h =
    let n : suc d ≤ 9 = omega arith in omega (arith, product_operations_is d, mul-le-mul n n)
