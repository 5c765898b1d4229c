-- `outcomes::order::Order::served` meets its contract. Assumes nothing.
use mathlib.Core.Path.{sym, ◌∙◌}
use Rattle.outcomes.specs.Outcome as Outcome
use Rattle.outcomes.proofs.OutcomeLaws.{served_bounds}
use Rattle.outcomes.proofs.order.Order.served.Goals as goal

pub returns-then-not-served : goal.returns-then-not-served
unfolding Outcome.order_served
returns-then-not-served c = simp (sym c.served.ensures ∙ c.if-not-served.true)

pub new-requires : goal.new-requires
new-requires c = (served_bounds _ (sym c.served.ensures ∙ c.if-not-served.false)).1

pub returns : goal.returns
unfolding Outcome.order_served
returns c = rw c.new.ensures (simp (sym c.served.ensures ∙ c.if-not-served.false))
