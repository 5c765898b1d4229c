-- `shares::joining::join_answer` meets its contract. Assumes nothing.
use mathlib.Core.Path.{sym, ◌∙◌}
use Rattle.outcomes.specs.Outcome.{took}
use Rattle.outcomes.proofs.OutcomeLaws.{answered-unserved, answered-served}
use Rattle.shares.specs.Calls.{join_served}
use Rattle.shares.proofs.joining.join_answer.Goals as goal

pub returns-in_err-d : goal.returns-in_err-d
returns-in_err-d c = answered-unserved _ _ _ _ (sym c.served.ensures ∙ c.in_err-d.was) _ c.from_residual.ensures.1

pub returns : goal.returns
returns c =
    let a = c.args in
    answered-served _ _ (λ d. join_served d a.input a.output) (λ d. took 0) _ (sym c.served.ensures ∙ c.in_ok-d.was) c.join_tested.ensures
