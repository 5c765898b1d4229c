-- The cube's need, how many places it has, that surplus tape has no effect, where its shares stand, and that it depends on its operation and its
-- map only where it uses them. Assumes nothing.
use mathlib.Core.Path.{◌≡◌, refl, ap, ap₂, ◌∙◌}
use mathlib.Core.Bool.{cond}
use mathlib.Core.List.{List, [], ◌∷◌, ◌++◌, map}
use Prim.Native.Nat.{ℕ, suc, ◌+◌, ◌*◌, ◌/◌, ◌^◌, ◌≤◌, ◌<◌}
use native.Mathlib.Omega.{arith}
use lib.Bits.{bit_xor}
use lib.Dec.{ltb}
use lib.ListN.{length, get_or, drop, length-append, length-drop, length-map}
use lib.Seq.{get_or-append-add, drop-append-le}
use Rattle.xor.specs.Lists.{at, Below}
use Rattle.xor.proofs.ListsLaws.{all_map, all_to_map, map_cong, at_below}
use Rattle.xor.proofs.RunningLaws.{running_cong}
use Rattle.isw.specs.Place.{Place, left, right, draw, cross, half, back, part, skip, half_sum, other, term, row, byte, place_count}
use Rattle.isw.specs.Place.{drawn, product_need, value, sheet}
use Rattle.isw.proofs.OrderLaws.{twice_need, product_need_is}
use Rattle.isw.proofs.OperationsLaws.{product_operations_is}
use Rattle.isw.proofs.PlaceLaws.{orders, places_within}
use Rattle.isw.proofs.SheetLaws.{length-sheet, product-shown, sheet_surplus, product-surplus}
use Rattle.refresh.specs.Refresh.{refreshed, refresh_need}
use Rattle.refresh.specs.Places.{refresh_sheet, refresh_count}
use Rattle.refresh.proofs.RefreshLaws.{refresh_need_is, refresh_below, refresh_surplus}
use Rattle.refresh.proofs.PlacesLaws.{length-refresh_sheet, refresh_sheet-surplus}
use Rattle.gadgets.specs.Cube.{cube_need, cube_operations, cube_factor, cube, cube_sheet, cube_count}
use Rattle.gadgets.proofs.CubeStrong.{cube_count_is}

-- ---- counts

-- as document 02 has it
pub cube_need_is : (d : ℕ) → cube_need d ≡ d * suc d
unfolding cube_need
cube_need_is d = omega (arith, refresh_need_is d, product_need_is d, twice_need d)

-- as document 02 has it: (d + 1)² field products
pub cube_operations_is : (d : ℕ) → cube_operations d ≡ suc d * suc d
unfolding cube_operations
cube_operations_is d = product_operations_is d

-- at orders 1 to 8
pub cube_counts : map cube_count orders ≡ 18 ∷ 42 ∷ 76 ∷ 120 ∷ 174 ∷ 238 ∷ 312 ∷ 396 ∷ []
unfolding cube_count place_count
cube_counts = refl

module _ (op : ℕ → ℕ → ℕ) (f : ℕ → ℕ) (d : ℕ) (x : List ℕ) where
  pub length-cube_sheet : (ts : List ℕ) → length x ≡ suc d → length (cube_sheet op f d x ts) ≡ cube_count d
  unfolding cube_sheet
  length-cube_sheet ts h =
      let a = map f x in
      let b = refresh_sheet d (map f x) ts in
      let c = sheet op d (cube_factor op f d x ts) x (drop (refresh_need d) ts) in
      length-append a (b ++ c)
      ∙ ap₂ ◌+◌ (length-map x f ∙ h)
      (length-append b c ∙ ap₂ ◌+◌ (length-refresh_sheet d (map f x) ts) (length-sheet op d (cube_factor op f d x ts) x (drop (refresh_need d) ts)))
      ∙ cube_count_is d

  -- ---- the cube's shares among its places: share i is the last of row i of the product

  pub cube-shown : (ts : List ℕ) (i : ℕ) → i ≤ d → length x ≡ suc d
      → at (cube_sheet op f d x ts) (suc d + 3 * (d * suc d / 2) + (2 * suc d + 5 * (d * suc d / 2) + i * suc d + d)) ≡ at (cube op f d x ts) i
  unfolding cube_sheet cube at refresh_count
  cube-shown ts i le h =
      let a = map f x in
      let b = refresh_sheet d (map f x) ts in
      let c = sheet op d (cube_factor op f d x ts) x (drop (refresh_need d) ts) in
      let q = 2 * suc d + 5 * (d * suc d / 2) + i * suc d + d in
      let e : suc d + 3 * (d * suc d / 2) + q ≡ length a + (length b + q) =
      omega (arith, length-map x f, length-refresh_sheet d (map f x) ts, refresh_need_is d) in
      ap (λ (k : ℕ). get_or (a ++ (b ++ c)) k 0) e
      ∙ get_or-append-add a (b ++ c) (length b + q) 0
      ∙ get_or-append-add b c q 0
      ∙ product-shown op d (cube_factor op f d x ts) x (drop (refresh_need d) ts) i le

  -- ---- a tape that is longer than need be

  module _ (ts us : List ℕ) (enough : cube_need d ≤ length ts) where
    first_enough : refresh_need d ≤ length ts
    unfolding cube_need
    first_enough = omega arith

    rest_enough : product_need d ≤ length (drop (refresh_need d) ts)
    unfolding cube_need
    rest_enough = omega (arith, length-drop (refresh_need d) ts)

    factor-surplus : cube_factor op f d x (ts ++ us) ≡ cube_factor op f d x ts
    unfolding cube_factor
    factor-surplus = refresh_surplus d (map f x) ts us first_enough

    pub cube-surplus : cube op f d x (ts ++ us) ≡ cube op f d x ts
    unfolding cube
    cube-surplus =
        rw (factor-surplus, drop-append-le (refresh_need d) ts us first_enough)
        (product-surplus op d (cube_factor op f d x ts) x (drop (refresh_need d) ts) us rest_enough)

    pub cube_sheet-surplus : cube_sheet op f d x (ts ++ us) ≡ cube_sheet op f d x ts
    unfolding cube_sheet
    cube_sheet-surplus =
        rw (factor-surplus, refresh_sheet-surplus d (map f x) ts us first_enough, drop-append-le (refresh_need d) ts us first_enough)
        (ap (λ (l : List ℕ). map f x ++ (refresh_sheet d (map f x) ts ++ l))
        (sheet_surplus op d (cube_factor op f d x ts) x (drop (refresh_need d) ts) us rest_enough))

-- ---- another operation and another map, which agree with these on numbers of w bits

module _ (op op' : ℕ → ℕ → ℕ) (a b : ℕ → ℕ) (r : ℕ → ℕ → ℕ) (agree : (i j : ℕ) → op (a i) (b j) ≡ op' (a i) (b j)) where
  half_cong : (i j : ℕ) → half_sum op a b r i j ≡ half_sum op' a b r i j
  unfolding half_sum
  half_cong i j = ap (bit_xor (r i j)) (agree i j)

  other_cong : (i j : ℕ) → other op a b r i j ≡ other op' a b r i j
  unfolding other
  other_cong i j = ap₂ bit_xor (half_cong i j) (agree j i)

  term_cong : (i j : ℕ) → term op a b r i j ≡ term op' a b r i j
  unfolding term
  term_cong i j = ap (cond (ltb i j) (r i j)) (other_cong j i)

  byte_cong : (p : Place) → byte op a b r p ≡ byte op' a b r p
  unfolding byte row
  byte_cong (left i) = refl
  byte_cong (right i) = refl
  byte_cong (draw i j) = refl
  byte_cong (cross i j) = agree i j
  byte_cong (half i j) = half_cong i j
  byte_cong (back i j) = other_cong i j
  byte_cong (part i k) = running_cong _ _ k (agree i i) (λ m l. term_cong i (skip i m))

module _ (w : ℕ) (op op' : ℕ → ℕ → ℕ) (op_agree : (x y : ℕ) → x < 2 ^ w → y < 2 ^ w → op x y ≡ op' x y) where
  sheet_cong : (d : ℕ) {a b : List ℕ} (ts : List ℕ) → Below (2 ^ w) a → Below (2 ^ w) b → sheet op d a b ts ≡ sheet op' d a b ts
  unfolding sheet value
  sheet_cong d {a} {b} ts ha hb =
      map_cong _ _ (all_map (λ p h.
      byte_cong op op' (at a) (at b) (drawn (suc d) ts) (λ i j. op_agree (at a i) (at b j) (at_below w ha i) (at_below w hb j)) p)
      (places_within (suc d)))

  module _ (f f' : ℕ → ℕ) (f_agree : (x : ℕ) → x < 2 ^ w → f x ≡ f' x) (f_in : (x : ℕ) → x < 2 ^ w → f x < 2 ^ w) where
    pub cube_sheet_cong : (d : ℕ) {x ts : List ℕ} → Below (2 ^ w) x → Below (2 ^ w) ts → cube_sheet op f d x ts ≡ cube_sheet op' f' d x ts
    unfolding cube_sheet cube_factor
    cube_sheet_cong d {x} {ts} hx ht =
        let e : map f x ≡ map f' x = map_cong f f' (all_map f_agree hx) in
        let us = drop (refresh_need d) ts in
        ap (λ (l : List ℕ). map f x ++ (refresh_sheet d (map f x) ts ++ l))
        (sheet_cong d us (refresh_below w d (all_to_map f (all_map f_in hx)) ht) hx)
        ∙ ap (λ (y : List ℕ). y ++ (refresh_sheet d y ts ++ sheet op' d (refreshed d y ts) x us)) e
