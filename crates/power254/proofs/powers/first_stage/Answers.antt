-- `power254::powers::first_stage` meets its contract. Assumes nothing.
use mathlib.Core.Path.{refl, ap₂}
use Prim.Native.Nat.{◌+◌}
use Rattle.power254.specs.Power254.{stage_z, stage_y, stage_need}
use Rattle.power254.proofs.StageLaws.{product-after}
use borrow.Author.Rules.{rules}
use Rattle.power254.proofs.powers.first_stage.Goals as goal

pub raise_refreshed-drawn-requires : goal.raise_refreshed-drawn-requires
unfolding stage_need
raise_refreshed-drawn-requires c = search rules

pub slice_bounds-product_core-count : goal.slice_bounds-product_core-count
unfolding stage_need
slice_bounds-product_core-count c = search rules

pub slice_bounds-product_core-start : goal.slice_bounds-product_core-start
unfolding stage_need
slice_bounds-product_core-start c = search rules

pub product_core-requires : goal.product_core-requires
unfolding stage_need
product_core-requires c =
    (record { left = search rules; right = search rules; drawn = search rules }, search rules)

pub overflow_add-result : goal.overflow_add-result
unfolding stage_need
overflow_add-result c = search rules

pub returns : goal.returns
unfolding stage_need stage_z stage_y
returns c =
    let m = c.raise_refreshed-drawn.ensures in
    let p = c.product_core.ensures in
    (ap₂ ◌+◌ m.0 p.0, m.1, product-after _ _ _ _ _ _ _ _ _ m.0 m.1 refl p.1)
