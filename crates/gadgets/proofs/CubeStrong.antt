-- THE CUBE IS STRONGLY NON-INTERFERING. Both factors of its product come from one secret; the refresh between them is what makes this hold.
-- Assumes nothing.
use mathlib.Core.Path.{◌≡◌, refl, ap, subst}
use mathlib.Core.List.{List, [], ◌∷◌, map}
use Prim.Native.Nat.{ℕ, suc, ◌+◌, ◌*◌, ◌^◌, ◌<◌}
use native.Mathlib.Omega.{arith}
use lib.ListN.{length}
use Rattle.xor.specs.Lists.{All}
use Rattle.isw.specs.Place.{place_count}
use Rattle.refresh.specs.Refresh.{pairs_refreshed, refreshed, refresh_need}
use Rattle.refresh.specs.Places.{pairs_sheet, refresh_sheet, refresh_count}
use Rattle.refresh.proofs.RefreshLaws.{refresh_need_is}
use Rattle.gadgets.specs.Steps.{each_share, Hidden}
use Rattle.gadgets.specs.Gadgets.{Gadget, Strong}
use Rattle.gadgets.specs.EachOnce.{Pair, EachOnce}
use Rattle.gadgets.specs.Cube.{cube_need, cube_factor, cube, cube_sheet, cube_count}
use Rattle.gadgets.proofs.StepsLaws.{recount, then, show_then}
use Rattle.gadgets.proofs.ProductStrong.{product_gadget}
use Rattle.gadgets.proofs.EachOnceLaws.{pairs_among, refresh_pairs_once}
use Rattle.gadgets.proofs.RefreshStrong.{refresh_gadget_by}
use Rattle.gadgets.proofs.ChainLaws.{run, write, plain_step, look_step, start, lone}
use Rattle.gadgets.proofs.GadgetsLaws.{strong_recount}

-- f of each share is a step on each share by itself
each_map : (f : ℕ → ℕ) (i : ℕ) (x : List ℕ) → each_share (λ i a. f a ∷ []) i x ≡ map f x
unfolding each_share
each_map f i [] = refl
each_map f i (a ∷ x) = ap (◌∷◌ (f a)) (each_map f (suc i) x)

-- the values of f at each share of a variable are looked at
pub map_step : {width : ℕ} (d v : ℕ) (f : ℕ → ℕ) → Hidden width d (run d) (run d) 0 (suc d) (λ e ts. map f (e v)) (λ e ts. e)
map_step {width} d v f =
    let n : suc d * 1 ≡ suc d = omega arith in
    subst (λ (sheet : (ℕ → List ℕ) → List ℕ → List ℕ). Hidden width d (run d) (run d) 0 (suc d) sheet (λ e ts. e))
    (λ i e ts. each_map f 0 (e v) i) (recount refl n (look_step d v 1 (λ i a. f a ∷ []) (λ i a. refl)))

-- the places of the three parts
pub cube_count_is : (d : ℕ) → suc d + (refresh_count d + place_count d) ≡ cube_count d
unfolding cube_count refresh_count
cube_count_is d = omega (arith, refresh_need_is d)

module _ (width : ℕ) (op : ℕ → ℕ → ℕ) (op_lt : (x y : ℕ) → op x y < 2 ^ width) (f : ℕ → ℕ) (f_lt : (x : ℕ) → f x < 2 ^ width) (d : ℕ) where
  -- a refresh by whatever pairs make `out` of f of each share: the equation tells which they are, and then each must stand there once
  refresh_of : {ps : List (ℕ × ℕ)} (out : (x tape : List ℕ) → List ℕ) → ((x ts : List ℕ) → out x ts ≡ pairs_refreshed ps (map f x) ts)
      → EachOnce d ps → All (Pair (suc d)) ps
      → Gadget width d (length ps) (3 * length ps) (λ a b ts. pairs_sheet ps (map f a) ts) (λ a b ts. pairs_refreshed ps (map f a) ts)
  refresh_of {ps} out made once among = refresh_gadget_by width f f_lt d ps once among

  -- variable 0 is x, 1 the refreshed factor, 2 the product
  cube_step : Hidden width d (run d) (run d) (cube_need d) (suc d + (refresh_count d + place_count d))
      (λ e ts. cube_sheet op f d (e 0) ts) (λ e ts. write (write e 1 (cube_factor op f d (e 0) ts)) 2 (cube op f d (e 0) ts))
  unfolding cube_sheet cube_factor cube cube_need write refreshed refresh_sheet refresh_need refresh_count
  cube_step =
      show_then (map_step d 0 f)
      (then (plain_step (refresh_of (cube_factor op f d) (λ x ts. refl) (refresh_pairs_once d) (pairs_among d)) 0 1 1 (omega arith))
      (plain_step (product_gadget width op op_lt d) 1 0 2 (omega arith)))

  pub cube-strong : Strong width d (cube_need d) (cube_count d) (cube_sheet op f d) (cube op f d)
  unfolding write start
  cube-strong = strong_recount (cube_count_is d) (lone cube_step 2 (omega arith))
