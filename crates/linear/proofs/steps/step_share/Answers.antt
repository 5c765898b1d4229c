-- `linear::steps::step_share` meets its contract. Assumes nothing.
use native.Mathlib.Omega.{arith}
use Rattle.linear.specs.Steps.{stepped}
use Rattle.buffers.proofs.ShareLaws.{copied_made}
use Rattle.linear.proofs.steps.step_share.Goals as goal

pub returns : goal.returns
returns c =
    let a = c.args in
    copied_made (stepped a.step a.which) _ _ _ _ c.put.ensures (omega arith) c.make_step.ensures
