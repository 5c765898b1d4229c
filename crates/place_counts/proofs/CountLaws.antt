-- The code's counts are those of the definitions, and fit. Assumes nothing.
use Rattle.std.proofs.Common.{◌≡◌, ℕ, suc, ◌+◌, ◌*◌, ◌≤◌, mul-le-mul, arith}
use Rattle.probing.specs.BoxPlaces.{box_count}
use Rattle.probing.specs.StringPlaces.{string_count}
use Rattle.probing.proofs.PlaceCounts.{box_count_is}

-- ---- an S-box

pub box_count_made : (d : ℕ) → 3 * suc d * (7 * d + 10) ≡ box_count d
box_count_made d = omega (arith, box_count_is d)

pub box_count-fits : (d : ℕ) → d ≤ 8 → 3 * (d + 1) * (7 * d + 10) ≤ 1782
box_count-fits d h =
    let a : 3 * (d + 1) ≤ 27 = omega arith in
    let b : 7 * d + 10 ≤ 66 = omega arith in
    mul-le-mul a b

pub box_count_bound : (d : ℕ) → d ≤ 8 → box_count d ≤ 1782
box_count_bound d h =
    let a : 3 * (d + 1) ≤ 27 = omega arith in
    let b : 7 * d + 10 ≤ 66 = omega arith in
    omega (arith, box_count_made d, mul-le-mul a b)

pub box_count_some : (d : ℕ) → 1 ≤ box_count d
unfolding box_count
box_count_some d = omega arith

-- ---- a string in shares

pub string_count_made : (m d : ℕ) → suc d * (m + 1) ≡ string_count m d
unfolding string_count
string_count_made m d = omega arith

pub string_count-fits : (m d : ℕ) → d ≤ 8 → m ≤ 32 → (d + 1) * (m + 1) ≤ 297
string_count-fits m d h g =
    let a : d + 1 ≤ 9 = omega arith in
    let b : m + 1 ≤ 33 = omega arith in
    mul-le-mul a b

pub string_count_some : (m d : ℕ) → 1 ≤ string_count m d
unfolding string_count
string_count_some m d = omega arith
