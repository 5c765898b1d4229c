-- `cubes::cube::cube_size` meets its contract. Assumes nothing.
use mathlib.Core.Path.{ap, sym, ◌∙◌}
use native.Mathlib.Omega.{arith}
use Rattle.gadgets.specs.Cube.{cube_count}
use Rattle.xor.proofs.Tests.{true_false}
use Rattle.outcomes.proofs.OutcomeLaws.{order_served-ok, order_served-err}
use Rattle.cubes.proofs.cube.cube_size.Goals as goal

pub returns-in-Ok : goal.returns-in-Ok
returns-in-Ok c =
    let n = order_served-ok _ _ (sym c.served.ensures ∙ c.in-Ok.is) in
    (λ e. c.cube_count.ensures.0 ∙ ap cube_count (sym n.0), c.cube_count.ensures.1)

pub returns-in-Err : goal.returns-in-Err
returns-in-Err c =
    let n = order_served-err _ _ (sym c.served.ensures ∙ c.in-Err.is) in
    (λ e. absurd (true_false (sym e ∙ n.0)), omega arith)
