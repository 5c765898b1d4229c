-- The places of a refresh as the routines write them: a row of pairs from what the refresh left of it, and the rows one behind another.
-- Assumes nothing.
use mathlib.Core.Path.{◌≡◌, refl, ap, sym, ◌∙◌}
use mathlib.Core.List.{List, [], ◌∷◌, ◌++◌, append-nil}
use Prim.Native.Nat.{ℕ, suc, ◌+◌, ◌*◌, ◌-◌, ◌≤◌, ◌<◌}
use native.Mathlib.Numerals.{add-one}
use native.Mathlib.Omega.{arith}
use borrow.Rule.Slice.PartMut.{put_mid}
use lib.Bits.{bit_xor}
use lib.ListN.{length, take, drop, set}
use lib.Seq.{sets-eq}
use Rattle.xor.specs.Lists.{at, runs, tab}
use Rattle.xor.specs.Pairs.{each_pair, pairs, before_row}
use Rattle.xor.specs.Running.{running, owns, row_taken}
use Rattle.xor.specs.Writes.{front}
use Rattle.xor.proofs.ListsLaws.{runs_cong, length_runs, length-tab}
use Rattle.xor.proofs.PairsLaws.{length_before}
use Rattle.xor.proofs.RunningLaws.{row_taken-at}
use Rattle.xor.proofs.WriteLaws.{part_rest, front-part, at_front}
use Rattle.refresh.specs.Refresh.{pairs_refreshed, refresh_pairs}
use Rattle.refresh.specs.Places.{pairs_sheet, refresh_sheet}
use Rattle.refresh.proofs.RefreshLaws.{row-pairs, rows-refreshed}
use Rattle.refresh.proofs.PlacesLaws.{length-pairs_sheet, pairs_sheet-append, row-shown}
use Rattle.refresh_sheets.specs.Parts.{three_rows, row_sheet}

-- ---- one pair

pub front_three : (v₀ v₁ v₂ : ℕ) (o : List ℕ) → 3 ≤ length o → set (set (set o 0 v₀) 1 v₁) 2 v₂ ≡ front (v₀ ∷ v₁ ∷ v₂ ∷ []) o
unfolding front
front_three v₀ v₁ v₂ o h = sets-eq (v₀ ∷ v₁ ∷ v₂ ∷ []) o 0 h

-- ---- a row of pairs

module _ (i : ℕ) (ts own xs : List ℕ) where
  pub length-three_rows : (m : ℕ) → length (three_rows i ts own xs m) ≡ 3 * m
  unfolding three_rows
  length-three_rows m = length_runs 3 _ m (λ q l. refl)

  -- one pair more
  pub three_rows-more : (m : ℕ) → three_rows i ts own xs m ++ (at ts m ∷ at own m ∷ at xs (i + 1 + m) ∷ []) ≡ three_rows i ts own xs (m + 1)
  unfolding three_rows runs
  three_rows-more m = rw (add-one m) refl

-- the rows hold what the refresh left of the pairs of share i
pub three_rows-right : (i w : ℕ) (xs ts own own₀ y : List ℕ) → i + w < length xs → own ≡ front (owns ts xs i w) own₀
    → y ≡ row_taken i w (at ts) (at ts) xs → three_rows i ts own y w ≡ row_sheet i w xs ts
unfolding three_rows
three_rows-right i w xs ts own own₀ y h eo ey =
    runs_cong _ _ w (λ m l.
    let a : at own m ≡ running (at xs i) (at ts) (m + 1) = at_front (λ m. running (at xs i) (at ts) (m + 1)) w m own own₀ eo l in
    let b : at y (i + 1 + m) ≡ bit_xor (at xs (i + 1 + m)) (at ts m)
    = ap (λ (l : List ℕ). at l (i + 1 + m)) ey ∙ row_taken-at i w (at ts) (at ts) xs m l h in
    rw (a, b, add-one m, add-one i) refl)
    ∙ sym (row-shown i w xs ts h)

pub length-row_sheet : (i w : ℕ) (xs ts : List ℕ) → length (row_sheet i w xs ts) ≡ 3 * w
length-row_sheet i w xs ts = length-pairs_sheet (row-pairs i w) xs ts ∙ ap (◌*◌ 3) (length-tab (λ m. (i, suc i + m)) w)

-- ---- the rows before row i, of n shares

unfoldable pub rows-sheet : (n i : ℕ) (shares tape : List ℕ) → List ℕ
rows-sheet n i xs ts = pairs_sheet (runs (λ k. row-pairs k (n - suc k)) i) xs ts

pub rows-sheet-none : (n : ℕ) (xs ts o : List ℕ) → o ≡ front (rows-sheet n 0 xs ts) o
unfolding rows-sheet runs pairs_sheet front
rows-sheet-none n xs ts o = refl

length-rows-sheet : (n i : ℕ) (xs ts : List ℕ) → length (rows-sheet n i xs ts) ≡ 3 * before_row n i
unfolding rows-sheet
length-rows-sheet n i xs ts =
    length-pairs_sheet (runs (λ k. row-pairs k (n - suc k)) i) xs ts ∙ ap (◌*◌ 3) (length_before n (λ i j. (i, j)) i)

rows-sheet_next : (d i : ℕ) (x tape xs ts : List ℕ) → i < d → tape ≡ drop (before_row (suc d) i) ts → x ≡ rows-refreshed (suc d) i xs ts
    → rows-sheet (suc d) i xs ts ++ row_sheet i (d - i) x tape ≡ rows-sheet (suc d) (i + 1) xs ts
unfolding rows-sheet rows-refreshed runs
rows-sheet_next d i x tape xs ts h f e =
    let w : d - i ≡ suc d - suc i = omega arith in
    let ps = runs (λ k. row-pairs k (suc d - suc k)) i in
    let k : before_row (suc d) i ≡ length ps = sym (length_before (suc d) (λ i j. (i, j)) i) in
    ap (λ (y : List ℕ). pairs_sheet ps xs ts ++ pairs_sheet (row-pairs i (d - i)) y tape) e
    ∙ ap (λ (us : List ℕ). pairs_sheet ps xs ts ++ pairs_sheet (row-pairs i (d - i)) (pairs_refreshed ps xs ts) us)
    (f ∙ ap (λ (m : ℕ). drop m ts) k)
    ∙ ap (λ (m : ℕ). pairs_sheet ps xs ts ++ pairs_sheet (row-pairs i m) (pairs_refreshed ps xs ts) (drop (length ps) ts)) w
    ∙ sym (pairs_sheet-append ps (row-pairs i (suc d - suc i)) xs ts)
    ∙ ap (λ (m : ℕ). pairs_sheet (runs (λ k. row-pairs k (suc d - suc k)) m) xs ts) (sym (add-one i))

-- one row more, behind those that are written
pub rows_written : (d i k : ℕ) (x y q o xs ts : List ℕ) → i < d → k ≡ before_row (suc d) i → 3 * (k + (d - i)) ≤ length o
    → x ≡ rows-refreshed (suc d) i xs ts → y ≡ front (rows-sheet (suc d) i xs ts) o
    → q ≡ front (row_sheet i (d - i) x (take (length ts - k) (drop k ts))) (take (length y - 3 * k) (drop (3 * k) y))
    → put_mid (3 * k) (length y - 3 * k) y q ≡ front (rows-sheet (suc d) (i + 1) xs ts) o
rows_written d i k x y q o xs ts h e l f g p =
    let tape = take (length ts - k) (drop k ts) in
    let u : length (rows-sheet (suc d) i xs ts) ≡ 3 * k = length-rows-sheet (suc d) i xs ts ∙ ap (◌*◌ 3) (sym e) in
    let v : length (row_sheet i (d - i) x tape) ≡ 3 * (d - i) = length-row_sheet i (d - i) x tape in
    front-part (3 * k) y q o (row_sheet i (d - i) x tape) (rows-sheet (suc d) i xs ts) (rows-sheet (suc d) (i + 1) xs ts) g u (omega arith) p
    (rows-sheet_next d i x tape xs ts h (part_rest ts k ∙ ap (λ (m : ℕ). drop m ts) e) f)

-- the last share has no row of its own
pub rows-sheet-all : (d : ℕ) (xs ts : List ℕ) → rows-sheet (suc d) d xs ts ≡ refresh_sheet d xs ts
unfolding rows-sheet refresh_sheet refresh_pairs pairs each_pair runs
rows-sheet-all d xs ts =
    let w : suc d - suc d ≡ 0 = omega arith in
    let ps = runs (λ k. row-pairs k (suc d - suc k)) d in
    let e : row-pairs d (suc d - suc d) ≡ [] = ap (row-pairs d) w ∙ unfold tab in refl in
    ap (λ (qs : List (ℕ × ℕ)). pairs_sheet qs xs ts) (sym (ap (◌++◌ ps) e ∙ append-nil ps))
