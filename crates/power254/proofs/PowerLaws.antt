-- Power 254 over shares joins to the inverse; its length, its need; surplus tape has no effect. Assumes nothing.
use mathlib.Core.Path.{◌≡◌, ap, ap₂, ◌∙◌}
use mathlib.Core.List.{List, ◌++◌, map}
use Prim.Native.Nat.{ℕ, suc, ◌+◌, ◌-◌, ◌*◌, ◌≤◌}
use native.Mathlib.Omega.{arith}
use lib.ListN.{length, drop, length-map, length-drop}
use lib.Seq.{drop-append-le}
use Rattle.xor.specs.Additive.{Additive}
use Rattle.xor.specs.Pairs.{pair_count}
use Rattle.xor.specs.Sums.{joined}
use Rattle.xor.proofs.PairsLaws.{pair_count_twice, pair_count_bound}
use Rattle.xor.proofs.SumsLaws.{joined-map}
use Rattle.gf256.specs.Field.{times, squared, fourth, sixteenth, inverse}
use Rattle.gf256.proofs.ProductLaws.{times-left, times-right, squared-xor, fourth-xor, sixteenth-xor}
use Rattle.isw.specs.Place.{product_need}
use Rattle.isw.proofs.OperationsLaws.{product_operations_is}
use Rattle.isw.proofs.JoinLaws.{product_joins_all}
use Rattle.isw.proofs.SheetLaws.{length-product, product-surplus}
use Rattle.refresh.specs.Refresh.{refreshed, refresh_need}
use Rattle.refresh.proofs.RefreshLaws.{length-refreshed, refresh_joins, refresh_need-pairs, refresh_surplus}
use Rattle.power254.specs.Power254.{masked_product, stage_z, stage_y, stage_w, stage_v, stage_last, stage_need, power_254}
use Rattle.power254.specs.Power254.{power_need, power_most, stage_products, power_products}

pub length-power_254 : (d : ℕ) (x ts : List ℕ) → length (power_254 d x ts) ≡ suc d
unfolding power_254 stage_last
length-power_254 d x ts = length-product times d _ _ _

-- ---- joins

-- a refresh of an additive map of each share
refreshed_joins : (d : ℕ) (f : ℕ → ℕ) → Additive f → (x ts : List ℕ) → length x ≡ suc d → joined (refreshed d (map f x) ts) ≡ f (joined x)
refreshed_joins d f h x ts l = refresh_joins d (map f x) ts (length-map x f ∙ l) ∙ joined-map f h x

length-refreshed-map : (d : ℕ) (f : ℕ → ℕ) (x ts : List ℕ) → length x ≡ suc d → length (refreshed d (map f x) ts) ≡ suc d
length-refreshed-map d f x ts l = length-refreshed d (map f x) ts ∙ length-map x f ∙ l

product_joins : (d : ℕ) (a b ts : List ℕ) → length a ≡ suc d → length b ≡ suc d → joined (masked_product d a b ts) ≡ times (joined a) (joined b)
product_joins = product_joins_all times times-left times-right

pub power_254_joins : (d : ℕ) (x ts : List ℕ) → length x ≡ suc d → joined (power_254 d x ts) ≡ inverse (joined x)
unfolding power_254 stage_z stage_y stage_w stage_v stage_last inverse
power_254_joins d x ts l =
    let z = stage_z d x ts in
    let y = stage_y d x ts in
    let us = drop (stage_need d) ts in
    let w = stage_w d y us in
    let v = stage_v d y us in
    let vs = drop (stage_need d) us in
    let lz : length z ≡ suc d = length-refreshed-map d squared x ts l in
    let ly : length y ≡ suc d = length-product times d z x (drop (refresh_need d) ts) in
    let lw : length w ≡ suc d = length-refreshed-map d fourth y us ly in
    let lv : length v ≡ suc d = length-product times d y w (drop (refresh_need d) us) in
    let lu : length (masked_product d (map sixteenth v) w vs) ≡ suc d = length-product times d (map sixteenth v) w vs in
    let jz : joined z ≡ squared (joined x) = refreshed_joins d squared squared-xor x ts l in
    let jy : joined y ≡ times (squared (joined x)) (joined x) =
    product_joins d z x (drop (refresh_need d) ts) lz l ∙ ap (λ (a : ℕ). times a (joined x)) jz in
    let jw : joined w ≡ fourth (times (squared (joined x)) (joined x)) = refreshed_joins d fourth fourth-xor y us ly ∙ ap fourth jy in
    let jv = product_joins d y w (drop (refresh_need d) us) ly lw ∙ ap₂ times jy jw in
    let ju = product_joins d (map sixteenth v) w vs (length-map v sixteenth ∙ lv) lw
    ∙ ap₂ times (joined-map sixteenth sixteenth-xor v ∙ ap sixteenth jv) jw in
    product_joins d (masked_product d (map sixteenth v) w vs) z (drop (product_need d) vs) lu lz ∙ ap₂ times ju jz

-- ---- the need

-- two refreshes and four products, and each draws a byte for each pair
pub power_need-pairs : (d : ℕ) → power_need d ≡ 6 * pair_count (suc d)
unfolding power_need stage_need product_need
power_need-pairs d = omega (arith, refresh_need-pairs d)

-- as document 02 has it
pub power_need_is : (d : ℕ) → power_need d ≡ 3 * (d * suc d)
power_need_is d = omega (arith, power_need-pairs d, pair_count_twice d)

pub power_need_bound : (d : ℕ) → d ≤ 8 → power_need d ≤ power_most
power_need_bound d h = omega (arith, power_need-pairs d, pair_count_bound d h)

-- as document 02 has it: four times (d + 1)² field products
pub power_products_is : (d : ℕ) → power_products d ≡ 4 * (suc d * suc d)
unfolding power_products stage_products
power_products_is d = omega (arith, product_operations_is d)

-- ---- a tape that is longer than need be

module _ (d : ℕ) where
  -- a product that draws from the k-th byte on
  product_rest_surplus : (k : ℕ) (a b ts us : List ℕ) → k + product_need d ≤ length ts
      → masked_product d a b (drop k (ts ++ us)) ≡ masked_product d a b (drop k ts)
  product_rest_surplus k a b ts us h =
      rw (drop-append-le k ts us (omega arith)) (product-surplus times d a b (drop k ts) us (omega (arith, length-drop k ts)))

  module _ (x ts us : List ℕ) (enough : stage_need d ≤ length ts) where
    stage_z-surplus : stage_z d x (ts ++ us) ≡ stage_z d x ts
    unfolding stage_z stage_need
    stage_z-surplus = refresh_surplus d (map squared x) ts us (omega arith)

    stage_y-surplus : stage_y d x (ts ++ us) ≡ stage_y d x ts
    unfolding stage_y stage_need
    stage_y-surplus = rw stage_z-surplus (product_rest_surplus (refresh_need d) (stage_z d x ts) x ts us enough)

    stage_w-surplus : stage_w d x (ts ++ us) ≡ stage_w d x ts
    unfolding stage_w stage_need
    stage_w-surplus = refresh_surplus d (map fourth x) ts us (omega arith)

    stage_v-surplus : stage_v d x (ts ++ us) ≡ stage_v d x ts
    unfolding stage_v stage_need
    stage_v-surplus = rw stage_w-surplus (product_rest_surplus (refresh_need d) x (stage_w d x ts) ts us enough)

  stage_last-surplus : (v w z ts us : List ℕ) → product_need d + product_need d ≤ length ts → stage_last d v w z (ts ++ us) ≡ stage_last d v w z ts
  unfolding stage_last
  stage_last-surplus v w z ts us h =
      rw (product-surplus times d (map sixteenth v) w ts us (omega arith))
      (product_rest_surplus (product_need d) (masked_product d (map sixteenth v) w ts) z ts us h)

  pub power_254-surplus : (x ts us : List ℕ) → power_need d ≤ length ts → power_254 d x (ts ++ us) ≡ power_254 d x ts
  unfolding power_254 power_need
  power_254-surplus x ts us h =
      let n = stage_need d in
      let y = stage_y d x ts in
      let rs = drop n ts in
      let l : length rs ≡ length ts - n = length-drop n ts in
      let g : n ≤ length ts = omega arith in
      let k : n ≤ length rs = omega arith in
      let m : product_need d + product_need d ≤ length (drop n rs) = omega (arith, length-drop n rs) in
      rw (
        stage_z-surplus x ts us g,
        stage_y-surplus x ts us g,
        drop-append-le n ts us g,
        stage_w-surplus y rs us k,
        stage_v-surplus y rs us k,
        drop-append-le n rs us k,
      )
      (stage_last-surplus (stage_v d y rs) (stage_w d y rs) (stage_z d x ts) (drop n rs) us m)
