-- The terms of a product: which of them the bytes of a row of pairs are, and what a row counts. Assumes nothing.
use mathlib.Core.Path.{◌≡◌, refl, sym, ap, ◌∙◌}
use mathlib.Core.List.{List}
use Prim.Native.Nat.{ℕ, suc, ◌+◌, ◌*◌, ◌-◌, ◌≤◌, ◌<◌}
use native.Mathlib.Omega.{arith}
use borrow.Author.Tests.{lt-ltb, le-ltb}
use lib.Bits.{bit_xor}
use lib.ListN.{length, take, drop}
use lib.Seq.{get_or-drop}
use Rattle.xor.specs.Lists.{at, tab}
use Rattle.xor.specs.Pairs.{before_row, pair_count, draw_index}
use Rattle.xor.proofs.ListsLaws.{map-tab, tab_cong}
use Rattle.xor.proofs.PairsLaws as Pairs
use Rattle.gf256.specs.Field.{times}
use Rattle.isw.specs.Place.{part, half_sum, other, term, row, byte, outputs, drawn, product_need, value, product}
use Rattle.xor.specs.Writes.{front}
use Rattle.xor.proofs.WriteLaws.{length-part_rest, at_front}
use Rattle.masking.specs.Steps.{halves, lowers, backs}
use Rattle.masking.specs.Fits.{FactorsFit, RowFits}

-- ---- a row's draws and backs are its terms

module _ (n : ℕ) (a b ts : List ℕ) where
  -- r(i, j) of the product
  abbrev pub r : (i j : ℕ) → ℕ
  r i j = term times (at a) (at b) (drawn n ts) i j

  module _ (i m : ℕ) (tape : List ℕ) (f : tape ≡ drop (before_row n i) ts) where
    row-draw : at tape m ≡ at ts (before_row n i + m)
    unfolding at
    row-draw = rw f (get_or-drop (before_row n i) ts m 0)

    pub row_draws : at tape m ≡ r i (i + 1 + m)
    unfolding term drawn draw_index
    row_draws =
        let x : i + 1 + m - suc i ≡ m = omega arith in
        rw (lt-ltb i (i + 1 + m) (omega arith), x) row-draw

    pub row-backs : backs a b tape i m ≡ r (i + 1 + m) i
    unfolding term other half_sum drawn draw_index
    row-backs =
        let x : i + 1 + m - suc i ≡ m = omega arith in
        rw (le-ltb (i + 1 + m) i (omega arith), x)
        (ap (λ (z : ℕ). bit_xor (bit_xor z (times (at a i) (at b (i + 1 + m)))) (times (at a (i + 1 + m)) (at b i))) row-draw)

-- ---- a product of order d

-- it draws a byte for each pair
pub product_need-rows : (d : ℕ) → product_need d ≡ pair_count (suc d)
unfolding product_need
product_need-rows d = refl

-- the last share has no row of its own
pub product_need_last : (d : ℕ) → product_need d ≡ before_row (suc d) d
unfolding product_need
product_need_last d = Pairs.pair_count_last d

-- row i of its pairs, whose draws stand on the tape from k on: what it counts, and that it fits
module _ (d i k : ℕ) (h : i < d) (e : k ≡ before_row (suc d) i) where
  pub row_counts : (i + 1 ≤ d) × (k + (d - i) ≡ before_row (suc d) (i + 1))
      × (before_row (suc d) (i + 1) ≤ product_need d) × (suc d ≡ i + 1 + (d - i))
  unfolding product_need
  row_counts = Pairs.row_counts d i k h e

  pub row_fits : d ≤ 8 → (a b ts s : List ℕ) → FactorsFit d a b ts → length s ≡ suc d → RowFits i (d - i) a b (take (length ts - k) (drop k ts)) s
  row_fits most a b ts s f ls =
      let r = row_counts in
      record {
        some = omega arith;
        few = omega (arith, f);
        left = omega (arith, f);
        right = omega (arith, f);
        drawn = rw (length-part_rest ts k) (omega (arith, f));
        summed = omega arith;
      }

  -- so do its pairs, in a sheet
  pub row_room : (o y : List ℕ) → 5 * product_need d ≤ length o → length y ≡ length o
      → (5 * (k + (d - i)) ≤ length o) × (5 * (d - i) ≤ length (take (length y - 5 * k) (drop (5 * k) y)))
  row_room o y l g =
      let r = row_counts in
      (omega arith, rw (length-part_rest y (5 * k)) (omega arith))

-- its shares are the last sums of the rows
pub product-rows : (d : ℕ) (a b ts : List ℕ) → tab (λ i. row times (at a) (at b) (drawn (suc d) ts) i d) (suc d) ≡ product times d a b ts
unfolding product outputs value byte
product-rows d a b ts = sym (map-tab (byte times (at a) (at b) (drawn (suc d) ts)) (λ i. part i d) (suc d))

-- the second half of the pairs of a row, on the first half's bytes
pub backs-right : (a b tape : List ℕ) (i w : ℕ) (h o q x : List ℕ) → h ≡ front (tab (halves a b tape i) w) o
    → q ≡ front (tab (λ m. bit_xor (at h m) (lowers a b i m)) w) x → q ≡ front (tab (backs a b tape i) w) x
backs-right a b tape i w h o q x e f =
    f ∙ ap (λ (l : List ℕ). front l x)
    (tab_cong _ _ w (λ m l. ap (λ (z : ℕ). bit_xor z (lowers a b i m)) (at_front (halves a b tape i) w m h o e l)))
