-- A product's sheet as the routines write it: both factors, the pairs row by row, the running sums row by row, each part behind those before it;
-- the lengths of the parts, and what stands in each row. Assumes nothing.
use mathlib.Core.Path.{◌≡◌, refl, ap, sym, ◌∙◌}
use mathlib.Core.List.{List, [], ◌∷◌, ◌++◌, map, map-append, append-nil}
use Prim.Native.Nat.{ℕ, suc, ◌+◌, ◌*◌, ◌-◌, ◌≤◌, ◌<◌}
use native.Mathlib.Nat.{mul-le-mul, suc-mul, mul-le-mul_right}
use native.Mathlib.Numerals.{add-one}
use native.Mathlib.Omega.{arith}
use borrow.Rule.Slice.PartMut.{put_mid}
use lib.ListN.{length, take, drop, set, length-map, length-append}
use lib.Seq.{sets-eq, get_or-drop}
use Rattle.xor.specs.Lists.{at, runs, tab}
use Rattle.xor.specs.Pairs.{before_row, draw_index}
use Rattle.xor.proofs.ListsLaws.{runs_cong, tab_cong, length_runs, length-tab, map_runs, map-tab, tab-at}
use Rattle.xor.proofs.PairsLaws.{length-rows}
use Rattle.gf256.specs.Field.{times}
use Rattle.isw.specs.Place.{Place, left, right, part, half_sum, other, byte, pair_places, pair_row, row_places, places, place_count, drawn}
use Rattle.isw.specs.Place.{product_need, value, sheet}
use Rattle.isw.proofs.OrderLaws.{product_need_is, twice_need}
use Rattle.xor.specs.Writes.{front}
use Rattle.xor.proofs.WriteLaws.{part_rest, front-part, front-all, at_front}
use Rattle.masking.specs.Steps.{uppers, halves, lowers, backs}
use Rattle.sheet_parts.specs.Parts.{pair_of, bytes_of, five_rows, row_bytes, pairs_before, sums_before, table_rows}
use Rattle.masking.proofs.TermsLaws.{product_need-rows}

-- ---- counts

-- that they fit, at an order up to 8
pub count_bounds : (d : ℕ) → d ≤ 8 → (suc d * suc d ≤ 81) × (d * suc d ≤ 72)
count_bounds d h =
    let n : suc d ≤ 9 = omega arith in
    (mul-le-mul n n, mul-le-mul h n)

-- 36 bytes are drawn at the most
pub few-drawn : (d : ℕ) → d ≤ 8 → product_need d ≤ 36
few-drawn d h =
    let n : suc d ≤ 9 = omega arith in
    omega (arith, twice_need d, mul-le-mul h n)

pub place_count-parts : (d : ℕ) → place_count d ≡ 2 * suc d + 5 * product_need d + suc d * suc d
unfolding place_count
place_count-parts d = rw (product_need_is d) refl

-- i rows of n and one more are within n rows
pub rows-room : (i n : ℕ) → i < n → i * n + n ≤ n * n
rows-room i n h = rw (sym (suc-mul i n)) (mul-le-mul_right n h)

-- ---- a buffer y from k on, as a callee gets it, and y with what the callee left there

abbrev rest : (k : ℕ) (y : List ℕ) → List ℕ
rest k y = take (length y - k) (drop k y)

abbrev part-put : (k : ℕ) (y q : List ℕ) → List ℕ
part-put k y q = put_mid k (length y - k) y q

-- ---- a pair

pub front_five : (v₀ v₁ v₂ v₃ v₄ : ℕ) (o : List ℕ) → 5 ≤ length o
    → set (set (set (set (set o 0 v₀) 1 v₁) 2 v₂) 3 v₃) 4 v₄ ≡ front (v₀ ∷ v₁ ∷ v₂ ∷ v₃ ∷ v₄ ∷ []) o
unfolding front
front_five v₀ v₁ v₂ v₃ v₄ o h = sets-eq (v₀ ∷ v₁ ∷ v₂ ∷ v₃ ∷ v₄ ∷ []) o 0 h

-- ---- a row of pairs

module _ (a b ts : List ℕ) (i : ℕ) where
  length-row_bytes : (m : ℕ) → length (row_bytes a b ts i m) ≡ 5 * m
  unfolding row_bytes
  length-row_bytes m = length_runs 5 _ m (λ k l. refl)

module _ (r c h d k : List ℕ) where
  pub length-five_rows : (m : ℕ) → length (five_rows r c h d k m) ≡ 5 * m
  unfolding five_rows
  length-five_rows m = length_runs 5 _ m (λ q l. refl)

  -- one pair more
  pub five_rows-more : (m : ℕ) → five_rows r c h d k m ++ (at r m ∷ at c m ∷ at h m ∷ at d m ∷ at k m ∷ []) ≡ five_rows r c h d k (m + 1)
  unfolding five_rows runs
  five_rows-more m = rw add-one refl

  -- where the rows hold the bytes of the pairs of row i
  pub five_rows-right : (a b : List ℕ) (i w : ℕ) (c₀ h₀ d₀ k₀ : List ℕ) → c ≡ front (tab (uppers a b i) w) c₀
      → h ≡ front (tab (halves a b r i) w) h₀
      → d ≡ front (tab (lowers a b i) w) d₀ → k ≡ front (tab (backs a b r i) w) k₀ → five_rows r c h d k w ≡ row_bytes a b r i w
  unfolding five_rows row_bytes
  five_rows-right a b i w c₀ h₀ d₀ k₀ ec eh ed ek =
      runs_cong _ _ w
      (λ m l.
      let yc = at_front (uppers a b i) w m c c₀ ec l in
      let yh = at_front (halves a b r i) w m h h₀ eh l in
      let yd = at_front (lowers a b i) w m d d₀ ed l in
      let yk = at_front (backs a b r i) w m k k₀ ek l in
      rw (yc, yh, yd, yk) refl)

-- ---- the rows of n shares

module _ (n : ℕ) (a b ts : List ℕ) where
  -- what stands at a place
  abbrev byte_at : Place → ℕ
  byte_at = byte times (at a) (at b) (drawn n ts)

  length-pair_row : (i : ℕ) → length (pair_row n i) ≡ 5 * (n - suc i)
  unfolding pair_row pair_places
  length-pair_row i = length_runs 5 _ (n - suc i) (λ m l. refl)

  length-pairs_before : (i : ℕ) → length (pairs_before n a b ts i) ≡ 5 * before_row n i
  length-pairs_before i = length-map (runs (pair_row n) i) byte_at ∙ length-rows n 5 (pair_row n) length-pair_row i

  pub length-sums_before : (i : ℕ) → length (sums_before n a b ts i) ≡ i * n
  length-sums_before i =
      length-map (runs (row_places n) i) byte_at
      ∙ length_runs n (row_places n) i (λ j l. unfold row_places in length-tab (part j) n)
      ∙ omega arith

  -- the draws of row i stand on the tape from its first on
  drawn-row : (i m : ℕ) → drawn n ts i (suc i + m) ≡ at (drop (before_row n i) ts) m
  unfolding drawn draw_index at
  drawn-row i m =
      let e : suc i + m - suc i ≡ m = omega arith in
      rw e (sym (get_or-drop (before_row n i) ts m 0))

  pair_bytes : (i m : ℕ)
      → map byte_at (pair_places i (suc i + m))
      ≡ bytes_of (pair_of (at (drop (before_row n i) ts) m) (at a i) (at b (i + 1 + m)) (at a (i + 1 + m)) (at b i))
  unfolding pair_places byte half_sum other
  pair_bytes i m = rw add-one (ap (λ (r : ℕ). bytes_of (pair_of r (at a i) (at b (suc i + m)) (at a (suc i + m)) (at b i))) (drawn-row i m))

  pair_row-bytes : (i : ℕ) → map byte_at (pair_row n i) ≡ row_bytes a b (drop (before_row n i) ts) i (n - suc i)
  unfolding pair_row row_bytes
  pair_row-bytes i =
      map_runs byte_at (λ m. pair_places i (suc i + m)) (n - suc i)
      ∙ runs_cong _ _ (n - suc i) (λ m l. pair_bytes i m)

  -- one row more
  pairs-more : (i k w : ℕ) → k ≡ before_row n i → n ≡ i + 1 + w
      → pairs_before n a b ts i ++ row_bytes a b (rest k ts) i w ≡ pairs_before n a b ts (i + 1)
  unfolding runs
  pairs-more i k w e h =
      let x : w ≡ n - suc i = omega arith in
      rw (part_rest ts k, e, x, add-one, sym (pair_row-bytes i))
      (sym (map-append byte_at (runs (pair_row n) i) (pair_row n i)))

  pub pairs-written : (i k w : ℕ) (y q o : List ℕ) → k ≡ before_row n i → n ≡ i + 1 + w → 5 * (k + w) ≤ length o
      → y ≡ front (pairs_before n a b ts i) o
      → q ≡ front (row_bytes a b (rest k ts) i w) (rest (5 * k) y) → part-put (5 * k) y q ≡ front (pairs_before n a b ts (i + 1)) o
  pairs-written i k w y q o e h l f g =
      let u : length (pairs_before n a b ts i) ≡ 5 * k = length-pairs_before i ∙ rw e refl in
      let v = length-row_bytes a b (rest k ts) i w in
      front-part (5 * k) y q o (row_bytes a b (rest k ts) i w) (pairs_before n a b ts i) (pairs_before n a b ts (i + 1))
      f u (omega arith) g (pairs-more i k w e h)

-- the last share has no row of pairs
pair_row_last : (d : ℕ) → pair_row (suc d) d ≡ []
unfolding pair_row runs
pair_row_last d =
    let e : suc d - suc d ≡ 0 = omega arith in
    ap (runs (λ m. pair_places d (suc d + m))) e

pub pairs_last : (d : ℕ) (a b ts : List ℕ) → pairs_before (suc d) a b ts d ≡ pairs_before (suc d) a b ts (suc d)
unfolding runs
pairs_last d a b ts =
    ap (map (byte times (at a) (at b) (drawn (suc d) ts)))
    (sym (append-nil (runs (pair_row (suc d)) d)) ∙ ap (◌++◌ (runs (pair_row (suc d)) d)) (sym (pair_row_last d)))

-- ---- the whole

-- both factors, all pairs, all running sums
module _ (d : ℕ) (a b ts : List ℕ) where
  abbrev pair_part : List ℕ
  pair_part = pairs_before (suc d) a b ts (suc d)

  abbrev sum-part : List ℕ
  sum-part = sums_before (suc d) a b ts (suc d)

  module _ (la : length a ≡ suc d) (lb : length b ≡ suc d) where
    sheet-parts : a ++ b ++ pair_part ++ sum-part ≡ sheet times d a b ts
    unfolding sheet places value
    sheet-parts =
        let f = byte times (at a) (at b) (drawn (suc d) ts) in
        simp (map-append, shares_are f a left (suc d) la (λ i. unfold byte in refl), shares_are f b right (suc d) lb (λ i. unfold byte in refl))
      where
        shares_are : (f : Place → ℕ) (x : List ℕ) (p : ℕ → Place) (n : ℕ) → length x ≡ n → ((i : ℕ) → f (p i) ≡ at x i) → map f (tab p n) ≡ x
        shares_are f x p n l e =
            map-tab f p n ∙ tab_cong (λ i. f (p i)) (at x) n (λ i u. e i) ∙ ap (tab (at x)) (sym l) ∙ tab-at x

    -- the parts, each written behind those before it, the sums from a table
    pub sheet-written : (n k : ℕ) (t o y q₂ q₃ q₄ : List ℕ) → n ≡ suc d → length o ≡ place_count d → k ≡ product_need d
        → table_rows (suc d) t (suc d) ≡ sum-part
        → y ≡ front a o
        → q₂ ≡ front b (rest n y)
        → q₃ ≡ front pair_part (rest (2 * n) (part-put n y q₂))
        → q₄ ≡ front (table_rows n t n) (rest (2 * n + 5 * k) (part-put (2 * n) (part-put n y q₂) q₃))
        → part-put (2 * n + 5 * k) (part-put (2 * n) (part-put n y q₂) q₃) q₄ ≡ sheet times d a b ts
    sheet-written n k t o y q₂ q₃ q₄ x lo e gathered p₁ p₂ p₃ p₄ =
        let m = 2 * n + 5 * k in
        let l : length o ≡ m + n * n = lo ∙ place_count-parts d ∙ rw (e, x) refl in
        let lp : length pair_part ≡ 5 * k = length-pairs_before (suc d) a b ts (suc d) ∙ rw (e, product_need-rows d) refl in
        let ls : length sum-part ≡ n * n = length-sums_before (suc d) a b ts (suc d) ∙ rw x refl in
        let l₂ : length (a ++ b) ≡ 2 * n = length-append a b ∙ omega arith in
        let l₃ : length (a ++ b ++ pair_part) ≡ m = length-append (a ++ b) pair_part ∙ omega arith in
        let l₄ : length (a ++ b ++ pair_part ++ sum-part) ≡ length o = length-append (a ++ b ++ pair_part) sum-part ∙ omega arith in
        let s : table_rows n t n ≡ sum-part = ap (λ (z : ℕ). table_rows z t z) x ∙ gathered in
        let e₂ = front-part n y q₂ o b a (a ++ b) p₁ (la ∙ sym x) (omega arith) p₂ refl in
        let e₃ = front-part (2 * n) (part-put n y q₂) q₃ o pair_part (a ++ b) (a ++ b ++ pair_part) e₂ l₂ (omega arith) p₃ refl in
        front-part m (part-put (2 * n) (part-put n y q₂) q₃) q₄ o sum-part (a ++ b ++ pair_part) (a ++ b ++ pair_part ++ sum-part) e₃ l₃
        (omega arith) (rw s at p₄) refl
        ∙ front-all (a ++ b ++ pair_part ++ sum-part) o l₄ ∙ sheet-parts
