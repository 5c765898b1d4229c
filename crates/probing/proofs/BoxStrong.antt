-- THE S-BOX IS STRONGLY NON-INTERFERING, either way: any listed places of its sheet and any listed shares of its output, at most d together, are
-- decided by as many shares of its input as there are listed places. Assumes nothing.
use mathlib.Core.Path.{◌≡◌, refl, sym, ap, subst, ◌∙◌}
use mathlib.Core.List.{List, [], ◌∷◌, ◌++◌, map, append_assoc}
use Prim.Native.Nat.{ℕ, zero, suc, ◌+◌, ◌*◌, ◌%◌, ◌<◌}
use native.Mathlib.Omega.{arith}
use lib.ListN.{length, drop, length-map}
use Rattle.xor.specs.Lists.{at}
use Rattle.xor.proofs.ListsLaws.{at_map}
use Rattle.gf256.specs.declared.Direction.{Direction}
use Rattle.gf256.specs.declared.Direction.TheVariants.{Forward, Inverse}
use Rattle.gf256.specs.Field.{times, squared, fourth, sixteenth}
use Rattle.gf256.specs.Directions.{affine_of, constant_of}
use Rattle.gf256.proofs.ProductLaws.{squared_lt, fourth_lt}
use Rattle.isw.specs.Place.{product_need, sheet}
use Rattle.refresh.specs.Refresh.{into, refresh_need}
use Rattle.refresh.specs.Places.{refresh_sheet, refresh_count}
use Rattle.refresh.proofs.RefreshLaws.{length-into}
use Rattle.power254.specs.Power254.{masked_product, stage_z, stage_y, stage_w, stage_v, stage_last, stage_need, power_254, power_need}
use Rattle.gadgets.specs.Steps.{Hidden}
use Rattle.gadgets.specs.Gadgets.{Strong}
use Rattle.gadgets.specs.Cube.{cube_factor, cube_sheet}
use Rattle.gadgets.proofs.StepsLaws.{recount, then, show_then}
use Rattle.gadgets.proofs.GadgetsLaws.{strong_recount}
use Rattle.gadgets.proofs.RefreshStrong.{refresh_gadget, at_each}
use Rattle.gadgets.proofs.ChainLaws.{run, write, gadget_step, plain_step, look_step, start, lone, strong_before, strong-after}
use Rattle.gadgets.proofs.CubeStrong.{map_step, cube_count_is}
use Rattle.sbox.specs.Box.{corrected, affine_shares, box, inverse_box, box_of, box_need}
use Rattle.probing.specs.BoxPlaces.{factors_sheet, times_sheet, times_count, to_fourth, to_sixteenth, first_sheet, first_count}
use Rattle.probing.specs.BoxPlaces.{second_sheet, second_count, last_sheet, last_count, power_sheet, power_count}
use Rattle.probing.specs.BoxPlaces.{share_corrected, affine_bytes, affine_sheet, box_sheet, box_count}
use Rattle.probing.proofs.FactorsStrong.{times_gadget}

map_own : (x : List ℕ) → map (λ a. a) x ≡ x
map_own [] = refl
map_own (a ∷ x) = ap (◌∷◌ a) (map_own x)

module _ (d : ℕ) where
  -- ---- the chain: 0 is x, 1 is z, 2 is y, 3 is w, 4 is v, 5 is v¹⁶ · w, 6 is the power

  -- the parts of the first stage, as its gadgets show them
  first_parts : (x ts : List ℕ)
      → map (λ a. a) x ++ (map squared x ++ (refresh_sheet d (map squared x) ts ++ times_sheet d (stage_z d x ts) x (drop (refresh_need d) ts)))
      ≡ first_sheet d x ts
  unfolding first_sheet cube_sheet cube_factor stage_z times_sheet
  first_parts x ts =
      let r = refresh_sheet d (map squared x) ts in
      let s = sheet times d (stage_z d x ts) x (drop (refresh_need d) ts) in
      let f = factors_sheet d (stage_z d x ts) x in
      ap (λ (l : List ℕ). l ++ (map squared x ++ (r ++ (s ++ f)))) (map_own x)
      ∙ ap (◌++◌ x) (ap (◌++◌ (map squared x)) (sym (append_assoc r s f)) ∙ sym (append_assoc (map squared x) (r ++ s) f))

  first_count_is : suc d + (suc d + (refresh_count d + times_count d)) ≡ first_count d
  unfolding first_count times_count
  first_count_is = omega (arith, cube_count_is d)

  first_step : Hidden 8 d (run d) (run d) (stage_need d) (first_count d)
      (λ e ts. first_sheet d (e 0) ts) (λ e ts. write (write e 1 (stage_z d (e 0) ts)) 2 (stage_y d (e 0) ts))
  first_step =
      subst (λ (sheet : (ℕ → List ℕ) → List ℕ → List ℕ).
      Hidden 8 d (run d) (run d) (stage_need d) (first_count d) sheet (λ e ts. write (write e 1 (stage_z d (e 0) ts)) 2 (stage_y d (e 0) ts)))
      (λ i e ts. first_parts (e 0) ts i) (recount refl first_count_is parts)
    where
      parts : Hidden 8 d (run d) (run d) (stage_need d) (suc d + (suc d + (refresh_count d + times_count d)))
          (λ e ts. map (λ a. a) (e 0) ++ (map squared (e 0) ++ (refresh_sheet d (map squared (e 0)) ts
          ++ times_sheet d (stage_z d (e 0) ts) (e 0) (drop (refresh_need d) ts))))
          (λ e ts. write (write e 1 (stage_z d (e 0) ts)) 2 (stage_y d (e 0) ts))
      parts =
          unfold stage_z stage_y stage_need write in
          show_then (map_step d 0 (λ a. a)) (show_then (map_step d 0 squared)
          (then (plain_step (refresh_gadget 8 squared squared_lt d) 0 1 1 (omega arith)) (plain_step (times_gadget d) 1 0 2 (omega arith))))

  second_step : Hidden 8 d (run d) (run d) (stage_need d) (second_count d)
      (λ e ts. second_sheet d (e 2) ts) (λ e ts. write (write e 3 (stage_w d (e 2) ts)) 4 (stage_v d (e 2) ts))
  unfolding second_sheet second_count stage_w stage_v stage_need write
  second_step =
      show_then (look_step d 2 3 (λ i a. to_fourth a) (λ i a. refl))
      (then (plain_step (refresh_gadget 8 fourth fourth_lt d) 2 3 3 (omega arith)) (plain_step (times_gadget d) 2 3 4 (omega arith)))

  last_step : Hidden 8 d (run d) (run d) (product_need d + product_need d) (last_count d)
      (λ e ts. last_sheet d (e 4) (e 3) (e 1) ts)
      (λ e ts. write (write e 5 (masked_product d (map sixteenth (e 4)) (e 3) ts)) 6 (stage_last d (e 4) (e 3) (e 1) ts))
  unfolding last_sheet last_count stage_last write
  last_step =
      show_then (look_step d 4 5 (λ i a. to_sixteenth a) (λ i a. refl))
      (then (gadget_step (times_gadget d) 4 3 5 (omega arith) (map sixteenth) (λ x. length-map x sixteenth)
      (λ x x' l l' i h e. at_each sixteenth (suc d) x x' l l' i h e))
      (plain_step (times_gadget d) 5 1 6 (omega arith)))

  need_is : stage_need d + (stage_need d + (product_need d + product_need d)) ≡ box_need d
  unfolding power_need
  need_is = omega arith

  pub power-strong : Strong 8 d (box_need d) (power_count d) (power_sheet d) (power_254 d)
  unfolding power_count power_sheet power_254 write start
  power-strong = lone (recount need_is refl (then first_step (then second_step last_step))) 6 (omega arith)

  -- ---- the affine maps

  at-corrected : (c k : ℕ) (ys : List ℕ) (i : ℕ) → 0 < length ys → at (corrected c k ys) i ≡ share_corrected c k i (at ys i)
  unfolding at into corrected share_corrected
  at-corrected c zero ys i h = refl
  at-corrected c (suc k) [] i h = absurd (omega arith)
  at-corrected c (suc k) (y ∷ ys) zero h = refl
  at-corrected c (suc k) (y ∷ ys) (suc i) h = refl

  length-corrected : (c k : ℕ) (ys : List ℕ) → length (corrected c k ys) ≡ length ys
  unfolding corrected
  length-corrected c zero ys = refl
  length-corrected c (suc k) ys = length-into ys 0 c

  length-affine : (w : Direction) (x : List ℕ) → length (affine_shares w d x) ≡ length x
  unfolding affine_shares
  length-affine w x = length-corrected (constant_of w) (d % 2) (map (affine_of w) x) ∙ length-map x (affine_of w)

  -- share i of an affine map, by share i alone
  pub at-affine : (w : Direction) (x : List ℕ) (i : ℕ) → i < length x
      → at (affine_shares w d x) i ≡ share_corrected (constant_of w) (d % 2) i (affine_of w (at x i))
  unfolding affine_shares at
  at-affine w x i h =
      at-corrected (constant_of w) (d % 2) (map (affine_of w) x) i (omega (arith, length-map x (affine_of w)))
      ∙ ap (share_corrected (constant_of w) (d % 2) i) (at_map (affine_of w) x 0 i h)

  affine_apart : (w : Direction) (x x' : List ℕ) → length x ≡ suc d → length x' ≡ suc d → (i : ℕ) → i < suc d → at x i ≡ at x' i
      → at (affine_shares w d x) i ≡ at (affine_shares w d x') i
  affine_apart w x x' l l' i h e =
      at-affine w x i (omega arith)
      ∙ ap (λ (a : ℕ). share_corrected (constant_of w) (d % 2) i (affine_of w a)) e
      ∙ sym (at-affine w x' i (omega arith))

  pub four-places : (w : Direction) (i a : ℕ) → length (affine_bytes w d i a) ≡ 4
  unfolding affine_bytes
  four-places w i a = refl

  -- ---- the S-boxes

  pub box-strong : (w : Direction) → Strong 8 d (box_need d) (box_count d) (box_sheet w d) (box_of w d)
  unfolding box_sheet box_count affine_sheet box inverse_box
  box-strong Forward =
      strong-after power-strong (affine_shares Forward d) (length-affine Forward) (affine_apart Forward) 4 (affine_bytes Forward d)
      (four-places Forward)
  box-strong Inverse =
      let e : suc d * 4 + power_count d ≡ power_count d + suc d * 4 = omega arith in
      strong_recount e
      (strong_before power-strong (affine_shares Inverse d) (length-affine Inverse) (affine_apart Inverse) 4 (affine_bytes Inverse d)
      (four-places Inverse))
