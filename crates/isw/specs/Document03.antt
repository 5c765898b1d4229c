-- Document 03's masked product, its places and its hiding rule, copied with the operation as a parameter and XOR as `bit_xor`, to be compared
-- with `Place` and `Hiding`. `Document03Laws` proves that they are the same. Assumes nothing: these are definitions.
use Rattle.std.specs.Prelude.{◌≡◌, Bool, true, cond, ◌&&◌, List, [], ◌∷◌, ◌++◌, ℕ, zero, suc, ◌+◌, ◌-◌, ◌*◌, ◌/◌}
use Rattle.std.specs.Prelude.{◌≤◌, ◌<◌, ltb, eqb, length, take, drop}
use Rattle.std.specs.Int.Bits.{bit_xor}
use Rattle.xor.specs.Lists.{at}
use Rattle.xor.specs.Sums.{joined}
use Rattle.isw.specs.Place.{drawn}

module _ (op : ℕ → ℕ → ℕ) where
  unfoldable pub half_sum : (n : ℕ) → (a b tape : List ℕ) → (i j : ℕ) → ℕ
  half_sum n a b ts i j = bit_xor (drawn n ts i j) (op (at a i) (at b j))

  unfoldable pub other : (n : ℕ) → (a b tape : List ℕ) → (i j : ℕ) → ℕ
  other n a b ts i j = bit_xor (half_sum n a b ts i j) (op (at a j) (at b i))

  unfoldable pub term : (n : ℕ) → (a b tape : List ℕ) → (i j : ℕ) → ℕ
  term n a b ts i j = cond (ltb i j) (drawn n ts i j) (other n a b ts j i)

  unfoldable pub sums_from : (left j : ℕ) → (n : ℕ) → (a b tape : List ℕ) → (i so_far : ℕ) → List ℕ
  sums_from zero j n a b ts i s = []
  sums_from (suc k) j n a b ts i s =
      let next = bit_xor s (term n a b ts i j) in cond (eqb i j) (sums_from k (suc j) n a b ts i s) (next ∷ sums_from k (suc j) n a b ts i next)

  unfoldable pub sums : (n : ℕ) → (a b tape : List ℕ) → (i : ℕ) → List ℕ
  sums n a b ts i = op (at a i) (at b i) ∷ sums_from n 0 n a b ts i (op (at a i) (at b i))

  unfoldable pub last_of : (default : ℕ) → List ℕ → ℕ
  last_of d [] = d
  last_of d (x ∷ xs) = last_of x xs

  unfoldable pub products_from : (left i : ℕ) → (n : ℕ) → (a b tape : List ℕ) → List ℕ
  products_from zero i n a b ts = []
  products_from (suc k) i n a b ts = last_of 0 (sums n a b ts i) ∷ products_from k (suc i) n a b ts

  unfoldable pub product : (a b tape : List ℕ) → List ℕ
  product a b ts = products_from (length a) 0 (length a) a b ts

  unfoldable pub pair_places : (n : ℕ) → (a b tape : List ℕ) → (i j : ℕ) → List ℕ
  pair_places n a b ts i j =
      drawn n ts i j ∷ op (at a i) (at b j) ∷ half_sum n a b ts i j ∷ op (at a j) (at b i) ∷ other n a b ts i j ∷ []

  unfoldable pub row_places : (left j : ℕ) → (n : ℕ) → (a b tape : List ℕ) → (i : ℕ) → List ℕ
  row_places zero j n a b ts i = []
  row_places (suc k) j n a b ts i = pair_places n a b ts i j ++ row_places k (suc j) n a b ts i

  unfoldable pub all_pairs : (left i : ℕ) → (n : ℕ) → (a b tape : List ℕ) → List ℕ
  all_pairs zero i n a b ts = []
  all_pairs (suc k) i n a b ts = row_places (n - suc i) (suc i) n a b ts i ++ all_pairs k (suc i) n a b ts

  unfoldable pub all_sums : (left i : ℕ) → (n : ℕ) → (a b tape : List ℕ) → List ℕ
  all_sums zero i n a b ts = []
  all_sums (suc k) i n a b ts = sums n a b ts i ++ all_sums k (suc i) n a b ts

  unfoldable pub places : (a b tape : List ℕ) → List ℕ
  places a b ts = a ++ b ++ all_pairs (length a) 0 (length a) a b ts ++ all_sums (length a) 0 (length a) a b ts

unfoldable pub place_count : (d : ℕ) → ℕ
place_count d = 2 * suc d + 5 * d * suc d / 2 + suc d * suc d

unfoldable pub product_tape : (d : ℕ) → ℕ
product_tape d = d * suc d / 2

-- ---- the hiding rule; `size` is 256 there

unfoldable pub choice_long : (d : ℕ) → ℕ
choice_long d = 2 * d + product_tape d

unfoldable pub factor : (x : ℕ) → (masks : List ℕ) → List ℕ
factor x ms = bit_xor x (joined ms) ∷ ms

unfoldable pub shown : (op : ℕ → ℕ → ℕ) (d x y : ℕ) → (choice : List ℕ) → List ℕ
shown op d x y cs = places op (factor x (take d cs)) (factor y (take d (drop d cs))) (drop (2 * d) cs)

unfoldable pub gives : (listed reading shown_bytes : List ℕ) → Bool
gives [] rs bs = true
gives (p ∷ ps) [] bs = true
gives (p ∷ ps) (r ∷ rs) bs = eqb (at bs p) r && gives ps rs bs

unfoldable pub any_byte : (left : ℕ) → (ℕ → ℕ) → ℕ
any_byte zero f = 0
any_byte (suc v) f = f v + any_byte v f

unfoldable pub how_many : (size left : ℕ) → (so_far : List ℕ) → (List ℕ → Bool) → ℕ
how_many size zero cs f = cond (f cs) 1 0
how_many size (suc k) cs f = any_byte size (λ v. how_many size k (v ∷ cs) f)

unfoldable pub readings : (op : ℕ → ℕ → ℕ) (size d x y : ℕ) → (listed reading : List ℕ) → ℕ
readings op size d x y ps rs = how_many size (choice_long d) [] (λ cs. gives ps rs (shown op d x y cs))

unfoldable pub all_below : (most : ℕ) → List ℕ → Bool
all_below m [] = true
all_below m (x ∷ xs) = ltb x m && all_below m xs

unfoldable pub Hides : (op : ℕ → ℕ → ℕ) (size : ℕ) → Type 0
Hides op size =
    (d x y v w : ℕ) (ps rs : List ℕ) → 1 ≤ d → d ≤ 8 → x < size → y < size → v < size → w < size
    → length ps ≤ d → all_below (place_count d) ps ≡ true → length rs ≡ length ps → all_below size rs ≡ true
    → readings op size d x y ps rs ≡ readings op size d v w ps rs
