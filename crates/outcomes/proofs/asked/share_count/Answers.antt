-- `outcomes::asked::share_count` meets its contract. Assumes nothing.
use mathlib.Core.Path.{sym, ap, ◌∙◌}
use Prim.Native.Nat.{suc}
use native.Mathlib.Omega.{arith}
use Rattle.xor.proofs.Tests.{true_false}
use Rattle.outcomes.proofs.OutcomeLaws.{order_served-ok, order_served-err}
use Rattle.outcomes.proofs.asked.share_count.Goals as goal

pub returns-in-Ok : goal.returns-in-Ok
returns-in-Ok c =
    let n = order_served-ok _ _ (sym c.served.ensures ∙ c.in-Ok.is) in
    (λ e. c.shares.ensures.0 ∙ ap suc (sym n.0), c.shares.ensures.1)

pub returns-in-Err : goal.returns-in-Err
returns-in-Err c =
    let n = order_served-err _ _ (sym c.served.ensures ∙ c.in-Err.is) in
    (λ e. absurd (true_false (sym e ∙ n.0)), omega arith)
