-- The cube's sheet as the routines write it: the squares, the refresh's places and the product's, each part behind those before it; what it draws,
-- and how long it is. Assumes nothing.
use mathlib.Core.Path.{◌≡◌, refl, ap, sym, ◌∙◌}
use mathlib.Core.List.{List, ◌++◌, map, append_assoc}
use Prim.Native.Nat.{ℕ, suc, ◌+◌, ◌*◌, ◌-◌, ◌≤◌}
use native.Mathlib.Omega.{arith}
use borrow.Rule.Slice.PartMut.{put_mid}
use lib.ListN.{length, take, drop, length-append, length-drop, length-map}
use Rattle.xor.specs.Pairs.{pair_count}
use Rattle.xor.specs.Writes.{front}
use Rattle.xor.proofs.PairsLaws.{pair_count_bound}
use Rattle.xor.proofs.WriteLaws.{part_rest, front-part, front-all}
use Rattle.isw.specs.Place.{place_count, product_need, sheet}
use Rattle.isw.proofs.SheetLaws.{length-sheet}
use Rattle.gf256.specs.Field.{times, squared}
use Rattle.refresh.specs.Refresh.{refresh_need}
use Rattle.refresh.specs.Places.{refresh_sheet, refresh_count}
use Rattle.refresh.proofs.RefreshLaws.{refresh_need_is, refresh_need-pairs}
use Rattle.refresh.proofs.PlacesLaws.{length-refresh_sheet}
use Rattle.gadgets.specs.Cube.{cube_need, cube_factor, cube_sheet, cube_count}

-- ---- counts

-- a byte for each pair of the refresh, and one for each pair of the product
pub cube_need-pairs : (d : ℕ) → 2 * pair_count (suc d) ≡ cube_need d
unfolding cube_need product_need
cube_need-pairs d = omega (arith, refresh_need-pairs d)

-- 72 bytes are drawn at the most
pub cube_need_bound : (d : ℕ) → d ≤ 8 → cube_need d ≤ 4 * 18
cube_need_bound d h = omega (arith, cube_need-pairs d, pair_count_bound d h)

pub cube_need-parts : (d : ℕ) → cube_need d ≡ refresh_need d + product_need d
unfolding cube_need
cube_need-parts d = refl

pub cube_count-parts : (d : ℕ) → cube_count d ≡ suc d + 3 * refresh_need d + place_count d
unfolding cube_count
cube_count-parts d = rw (refresh_need_is d) refl

-- ---- the parts

module _ (d : ℕ) (x ts : List ℕ) where
  -- the squares and the places of the refresh
  abbrev pub factor-part : List ℕ
  factor-part = map squared x ++ refresh_sheet d (map squared x) ts

  pub length-factor-part : length x ≡ suc d → length factor-part ≡ suc d + 3 * refresh_need d
  unfolding refresh_count
  length-factor-part l =
      length-append (map squared x) (refresh_sheet d (map squared x) ts)
      ∙ omega (arith, length-map x squared, length-refresh_sheet d (map squared x) ts)

  -- the refresh's behind the squares
  pub factor-written : (n : ℕ) (z y q o : List ℕ) → length x ≡ n → n + 3 * refresh_need d ≤ length o → z ≡ map squared x → y ≡ front z o
      → q ≡ front (refresh_sheet d z ts) (take (length y - n) (drop n y)) → put_mid n (length y - n) y q ≡ front factor-part o
  unfolding refresh_count
  factor-written n z y q o l h s p w =
      front-part n y q o (refresh_sheet d (map squared x) ts) (map squared x) factor-part (rw s at p) (length-map x squared ∙ l)
      (omega (arith, length-refresh_sheet d (map squared x) ts)) (rw s at w) refl

  -- the product's behind both
  pub cube-written : (k at : ℕ) (y q o : List ℕ) → length x ≡ suc d → length o ≡ cube_count d → k ≡ refresh_need d → at ≡ suc d + 3 * k
      → y ≡ front factor-part o → length y ≡ length o
      → q ≡ sheet times d (cube_factor times squared d x ts) x (take (length ts - k) (drop k ts))
      → put_mid at (length y - at) y q ≡ cube_sheet times squared d x ts
  unfolding cube_sheet
  cube-written k at y q o l lo e a p ly w =
      let c = sheet times d (cube_factor times squared d x ts) x (drop (refresh_need d) ts) in
      let lf : length factor-part ≡ at = length-factor-part l ∙ omega arith in
      let lc : length c ≡ place_count d = length-sheet times d (cube_factor times squared d x ts) x (drop (refresh_need d) ts) in
      let s : q ≡ c = w ∙ ap (sheet times d (cube_factor times squared d x ts) x) (part_rest ts k ∙ ap (λ (m : ℕ). drop m ts) e) in
      let r : length (take (length y - at) (drop at y)) ≡ place_count d
      = ap length (part_rest y at) ∙ length-drop at y ∙ omega (arith, cube_count-parts d) in
      let f : front c (take (length y - at) (drop at y)) ≡ c = front-all c (take (length y - at) (drop at y)) (lc ∙ sym r) in
      let n : length (factor-part ++ c) ≡ length o = length-append factor-part c ∙ omega (arith, cube_count-parts d) in
      front-part at y q o c factor-part (factor-part ++ c) p lf (omega (arith, cube_count-parts d)) (s ∙ sym f) refl
      ∙ front-all (factor-part ++ c) o n
      ∙ append_assoc (map squared x) (refresh_sheet d (map squared x) ts) c
