-- The parts of a product's sheet as its routines write them: the bytes of a pair and of a row of pairs; the pairs and the running sums, row by row;
-- and the table that gathers the sums.
-- Document 01, "Places in one product", decides. Assumes nothing: these are definitions.
use Rattle.std.specs.Prelude.{List, [], ◌∷◌, map, ℕ, zero, suc, ◌+◌, ◌*◌, set}
use Rattle.std.specs.Int.Bits.{bit_xor}
use Rattle.xor.specs.Lists.{at, runs, tab}
use Rattle.gf256.specs.Field.{times}
use Rattle.isw.specs.Place.{byte, pair_row, row_places, drawn}
use Rattle.sheet_parts.specs.declared.Pair.{Pair}

-- ---- the pairs of one row

-- the five bytes of a pair i < j, from the drawn byte and the shares a_i, b_j, a_j, b_i
abbrev pub pair_of : (r ai bj aj bi : ℕ) → Pair
pair_of r ai bj aj bi = record {
  drawn = r;
  upper = times ai bj;
  half = bit_xor r (times ai bj);
  lower = times aj bi;
  back = bit_xor (bit_xor r (times ai bj)) (times aj bi);
}

-- in the order of their places
abbrev pub bytes_of : Pair → List ℕ
bytes_of p = p.drawn ∷ p.upper ∷ p.half ∷ p.lower ∷ p.back ∷ []

-- five rows of w bytes, pair by pair
unfoldable pub five_rows : (drawn upper half lower back : List ℕ) (w : ℕ) → List ℕ
five_rows r c h d k w = runs (λ m. bytes_of (record { drawn = at r m; upper = at c m; half = at h m; lower = at d m; back = at k m })) w

-- all bytes of the pairs of row i, with the shares i + 1 to i + w
unfoldable pub row_bytes : (a b tape : List ℕ) (i w : ℕ) → List ℕ
row_bytes a b ts i w = runs (λ m. bytes_of (pair_of (at ts m) (at a i) (at b (i + 1 + m)) (at a (i + 1 + m)) (at b i))) w

-- ---- for n shares

module _ (n : ℕ) (a b tape : List ℕ) where
  -- the pairs of the rows before i
  abbrev pub pairs_before : (i : ℕ) → List ℕ
  pairs_before i = map (byte times (at a) (at b) (drawn n tape)) (runs (pair_row n) i)

  -- the running sums of the rows before i
  abbrev pub sums_before : (i : ℕ) → List ℕ
  sums_before i = map (byte times (at a) (at b) (drawn n tape)) (runs (row_places n) i)

-- ---- a table of nine columns: the running sum of share k after q of its terms stands at k * 9 + q

-- with the starts of the first k shares in column 0
unfoldable pub starts_put : (starts : ℕ → ℕ) (table : List ℕ) (k : ℕ) → List ℕ
starts_put f t zero = t
starts_put f t (suc k) = set (starts_put f t k) (k * 9) (f k)

-- with the sums that the first m pairs of row i leave: one of share i's own, and that of each share behind it
unfoldable pub row_put : (i : ℕ) (own sums : ℕ → ℕ) (table : List ℕ) (m : ℕ) → List ℕ
row_put i f g t zero = t
row_put i f g t (suc m) = set (set (row_put i f g t m) (i * 9 + (i + 1 + m)) (f m)) ((i + 1 + m) * 9 + (i + 1)) (g (i + 1 + m))

-- the first n columns of its first k rows, row by row
unfoldable pub table_rows : (n : ℕ) (table : List ℕ) (k : ℕ) → List ℕ
table_rows n t k = runs (λ i. tab (λ q. at t (i * 9 + q)) n) k
