-- `power254::powers::power_core` meets its contract. Assumes nothing.
use native.Mathlib.Omega.{arith}
use Rattle.power254.specs.Power254.{stage_need, power_need}
use Rattle.power254.proofs.StageLaws.{power-after}
use borrow.Author.Rules.{rules}
use Rattle.power254.proofs.powers.power_core.Goals as goal

pub first_stage-drawn-requires : goal.first_stage-drawn-requires
unfolding power_need stage_need
first_stage-drawn-requires c =
    record { input = search rules; power = search rules; output = search rules; drawn = search rules }

pub slice_bounds-later_stages-count : goal.slice_bounds-later_stages-count
unfolding power_need stage_need
slice_bounds-later_stages-count c = search rules

pub slice_bounds-later_stages-start : goal.slice_bounds-later_stages-start
unfolding power_need stage_need
slice_bounds-later_stages-start c = search rules

pub later_stages-requires : goal.later_stages-requires
unfolding power_need stage_need
later_stages-requires c =
    record { long_z = search rules; long_y = search rules; output = search rules; drawn = search rules }

pub overflow_add-result : goal.overflow_add-result
unfolding power_need stage_need
overflow_add-result c = search rules

pub returns : goal.returns
unfolding power_need stage_need
returns c =
    let p = c.first_stage-drawn.ensures in
    let q = c.later_stages.ensures in
    (omega (arith, p.0, q.0), power-after _ _ _ _ _ _ _ p.0 p.1 p.2 q.1)
