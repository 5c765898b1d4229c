-- Laws of the pairs i < j < n: how many there are, in closed form too, where each stands, and a list with an entry for each. Assumes nothing.
use mathlib.Core.Path.{◌≡◌, refl, sym, ap, ◌∙◌}
use mathlib.Core.List.{List}
use Prim.Native.Nat.{ℕ, zero, suc, ◌+◌, ◌-◌, ◌*◌, ◌/◌, ◌≤◌, ◌<◌}
use native.Mathlib.Nat.{mul-add, one-mul, mul-le-mul}
use native.Mathlib.Omega.{arith}
use native.Mathlib.Numerals.{add-one}
use lib.ListN.{length, get_or, length-append}
use Rattle.xor.specs.Lists.{runs, tab, All}
use Rattle.xor.specs.Pairs.{each_pair, pairs, before_row, pair_count, draw_index}
use Rattle.xor.proofs.ListsLaws.{length-tab, getD_tab, all_runs, all-tab}
use Rattle.xor.proofs.RunsLaws.{getD_runs}

-- ---- how many

-- each row starts where the one before it ends
pub before_row_next : (n i : ℕ) → before_row n (i + 1) ≡ before_row n i + (n - (i + 1))
unfolding before_row
before_row_next n i = rw add-one refl

before_row_up : (n i k : ℕ) → before_row n i ≤ before_row n (i + k)
before_row_up n i zero = let e : i + 0 ≡ i = omega arith in rw e (omega arith)
before_row_up n i (suc k) =
    let e : i + suc k ≡ i + k + 1 = omega arith in
    rw e (omega (arith, before_row_up n i k, before_row_next n (i + k)))

pub before_row_le : (n i : ℕ) → i < n → before_row n (i + 1) ≤ pair_count n
before_row_le n i h =
    let e : i + 1 + (n - (i + 1)) ≡ n = omega arith in
    rw e at (before_row_up n (i + 1) (n - (i + 1)))

-- the last number has no row of its own
pub pair_count_last : (d : ℕ) → pair_count (suc d) ≡ before_row (suc d) d
unfolding before_row
pair_count_last d = omega arith

-- twice the number of pairs before row i
before_row_twice : (n i : ℕ) → i ≤ n → 2 * before_row n i + i * suc i ≡ 2 * (n * i)
unfolding before_row
before_row_twice n zero h = omega arith
before_row_twice n (suc i) h = omega (arith, before_row_twice n i (omega arith))

pub pair_count_twice : (d : ℕ) → 2 * pair_count (suc d) ≡ d * suc d
pair_count_twice d = omega (arith, before_row_twice (suc d) (suc d) (omega arith))

pub pair_count_is : (d : ℕ) → pair_count (suc d) ≡ d * suc d / 2
pair_count_is d = omega (arith, pair_count_twice d)

pub pair_count_bound : (d : ℕ) → d ≤ 8 → pair_count (suc d) ≤ 36
pair_count_bound d h =
    let n : suc d ≤ 9 = omega arith in
    omega (arith, pair_count_is d, mul-le-mul h n)

-- row i of the pairs of d + 1 numbers, whose entries stand in a list from k on: what it counts
pub row_counts : (d i k : ℕ) → i < d → k ≡ before_row (suc d) i
    → (i + 1 ≤ d) × (k + (d - i) ≡ before_row (suc d) (i + 1)) × (before_row (suc d) (i + 1) ≤ pair_count (suc d)) × (suc d ≡ i + 1 + (d - i))
row_counts d i k h e =
    let x = before_row_next (suc d) i in
    let u = before_row_le (suc d) i (omega arith) in
    (omega arith, omega arith, u, omega arith)

-- ---- where each stands

pub draw_index_lt : (n i j : ℕ) → i < j → j < n → draw_index n i j < pair_count n
unfolding draw_index
draw_index_lt n i j l h = omega (arith, before_row_next n i, before_row_le n i (omega arith))

-- ---- lists with entries for each pair

module _ {A : Type 0} where
  -- the rows before row i, with q entries for each pair
  pub length-rows : (n q : ℕ) (f : ℕ → List A) → ((i : ℕ) → length (f i) ≡ q * (n - suc i)) → (i : ℕ) → length (runs f i) ≡ q * before_row n i
  unfolding runs before_row
  length-rows n q f h zero = omega arith
  length-rows n q f h (suc i) = simp (length-append, h, length-rows n q f h i, mul-add)

  -- one for each
  module _ (n : ℕ) (f : ℕ → ℕ → A) where
    abbrev row : (i : ℕ) → List A
    row i = tab (λ m. f i (suc i + m)) (n - suc i)

    pub length_before : (i : ℕ) → length (runs row i) ≡ before_row n i
    length_before i = length-rows n 1 row (λ i. length-tab (λ m. f i (suc i + m)) (n - suc i) ∙ omega arith) i ∙ one-mul (before_row n i)

    pub length-each_pair : length (each_pair n f) ≡ pair_count n
    unfolding each_pair
    length-each_pair = length_before n

    pub getD_each_pair : (i j : ℕ) (e : A) → i < j → j < n → get_or (each_pair n f) (draw_index n i j) e ≡ f i j
    unfolding each_pair draw_index
    getD_each_pair i j e l h =
        let m = j - suc i in
        let u : m < n - suc i = omega arith in
        let k : suc i + m ≡ j = omega arith in
        ap (λ (x : ℕ). get_or (runs row n) (x + m) e) (sym (length_before i))
        ∙ getD_runs row n i m e (omega arith) (rw (length-tab (λ m. f i (suc i + m)) (n - suc i)) u)
        ∙ getD_tab (λ m. f i (suc i + m)) (n - suc i) m e u
        ∙ ap (f i) k

    pub all-each_pair : {P : A → Type 0} → ((i j : ℕ) → i < j → j < n → P (f i j)) → All P (each_pair n f)
    unfolding each_pair
    all-each_pair h = all_runs row n (λ i l. all-tab (λ m. f i (suc i + m)) (n - suc i) (λ m u. h i (suc i + m) (omega arith) (omega arith)))

-- ---- the list of the pairs

pub length_pairs : (n : ℕ) → length (pairs n) ≡ pair_count n
unfolding pairs
length_pairs n = length-each_pair n (λ i j. (i, j))

pub pairs-at : (n i j : ℕ) (e : ℕ × ℕ) → i < j → j < n → get_or (pairs n) (draw_index n i j) e ≡ (i, j)
unfolding pairs
pairs-at n i j e l h = getD_each_pair n (λ i j. (i, j)) i j e l h
