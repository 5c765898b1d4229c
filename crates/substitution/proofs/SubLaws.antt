-- S-boxes in place: one from the calls that make it, four as a loop, and a state's as a loop over its rows. Assumes nothing.
use mathlib.Core.Path.{◌≡◌, refl, ap, ◌∙◌}
use mathlib.Core.List.{List, ◌∷◌, ◌++◌}
use Prim.Native.Nat.{ℕ, zero, suc, ◌+◌, ◌*◌, ◌/◌, ◌≤◌, ◌<◌}
use native.Mathlib.Nat.{mul-le-mul_right, mul-div_cancel}
use native.Mathlib.Omega.{arith}
use lib.ListN.{drop}
use Rattle.xor.specs.Lists.{tab, runs}
use Rattle.gf256.specs.declared.Direction.{Direction}
use Rattle.shares.specs.Strings.{Shares, parts, laid}
use Rattle.sbox.specs.Box.{box_of, box_need}
use Rattle.cipher.specs.States.{column, put}
use Rattle.cipher.specs.Cipher.{sub_at, subs_of, subs_need, by_rows}
use Rattle.cipher.proofs.DrawingLaws.{Loop}
use Rattle.cipher.proofs.SubsLaws.{subs_of-append, subs_need-append}
use Rattle.substitution.specs.Boxes.{spaced, in_row}

-- ---- one S-box

-- one S-box in place, from the three calls that make it
pub sub_made : (w : Direction) (d l k : ℕ) (tape s s' x y : List ℕ) → x ≡ column k (parts (suc d) l s) → y ≡ box_of w d x tape
    → s' ≡ laid (put (parts (suc d) l s) k y) → s' ≡ laid (sub_at w d k (parts (suc d) l s) tape)
unfolding sub_at
sub_made w d l k tape s s' x y ex ey es =
    es ∙ ap (λ (v : List ℕ). laid (put (parts (suc d) l s) k v)) (ey ∙ ap (λ (v : List ℕ). box_of w d v tape) ex)

-- ---- four

pub spaced_next : (first stride m : ℕ) → m < 4 → drop m (spaced first stride) ≡ (first + m * stride) ∷ drop (suc m) (spaced first stride)
unfolding spaced tab runs
spaced_next first stride zero h = refl
spaced_next first stride (suc zero) h = refl
spaced_next first stride (suc (suc zero)) h = refl
spaced_next first stride (suc (suc (suc zero))) h = refl
spaced_next first stride (suc (suc (suc (suc m)))) h = absurd (omega arith)

-- each lies within the string
pub spaced_within : (first stride m l : ℕ) → m < 4 → l ≡ 4 * stride → first < stride → first + m * stride < l
spaced_within first stride m l h q g = let e : m ≤ 3 = omega arith in omega (arith, mul-le-mul_right stride e)

-- they are four
pub spaced-count : (first stride l : ℕ) → l ≡ 4 * stride → first < stride → l / stride ≡ 4
spaced-count first stride l q g = ap (λ (b : ℕ). b / stride) q ∙ mul-div_cancel 4 (omega arith)

-- they draw four times as many bytes as one: as many words
pub spaced-need : (d first stride : ℕ) → subs_need d (spaced first stride) ≡ 4 * box_need d
unfolding subs_need spaced tab runs
spaced-need d first stride = omega arith

unfoldable pub four-boxes : Direction → (d first stride : ℕ) → Loop Shares 4
unfolding subs_of subs_need spaced tab runs
four-boxes w d first stride = record {
  step = λ m ss ts. sub_at w d (first + m * stride) ss ts;
  cost = λ m. box_need d;
  left = λ m ss ts. subs_of w d (drop m (spaced first stride)) ss ts;
  need = λ m. subs_need d (drop m (spaced first stride));
  left_next = λ m h ss ts. ap (λ (js : List ℕ). subs_of w d js ss ts) (spaced_next first stride m h);
  left_end = λ ss ts. refl;
  need_next = λ m h. ap (subs_need d) (spaced_next first stride m h);
  need_end = refl;
}

-- ---- a state, row by row

-- from row r on, by_rows is row r and then the rows below
pub rows_next : (r : ℕ) → r < 4 → drop (4 * r) by_rows ≡ in_row r ++ drop (4 * suc r) by_rows
unfolding spaced tab runs
rows_next zero h = refl
rows_next (suc zero) h = refl
rows_next (suc (suc zero)) h = refl
rows_next (suc (suc (suc zero))) h = refl
rows_next (suc (suc (suc (suc r)))) h = absurd (omega arith)

unfoldable pub four-rows : Direction → (d : ℕ) → Loop Shares 4
unfolding subs_of subs_need
four-rows w d = record {
  step = λ r ss ts. subs_of w d (in_row r) ss ts;
  cost = λ r. subs_need d (in_row r);
  left = λ r ss ts. subs_of w d (drop (4 * r) by_rows) ss ts;
  need = λ r. subs_need d (drop (4 * r) by_rows);
  left_next = λ r h ss ts.
      ap (λ (js : List ℕ). subs_of w d js ss ts) (rows_next r h)
      ∙ subs_of-append w d (in_row r) (drop (4 * suc r) by_rows) ss ts;
  left_end = λ ss ts. refl;
  need_next = λ r h. ap (subs_need d) (rows_next r h) ∙ subs_need-append d (in_row r) (drop (4 * suc r) by_rows);
  need_end = refl;
}
