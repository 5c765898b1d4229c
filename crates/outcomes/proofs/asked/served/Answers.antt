-- `outcomes::asked::served` meets its contract. Assumes nothing.
use borrow.Author.Tests.{lt-ltb, le-ltb}
use Rattle.outcomes.specs.Outcome as Outcome
use Rattle.outcomes.proofs.asked.served.Goals as goal

pub returns-then-order-gt0 : goal.returns-then-order-gt0
unfolding Outcome.served
returns-then-order-gt0 c = simp (lt-ltb _ _ c.if-order-gt0.true)

pub returns : goal.returns
unfolding Outcome.served
returns c = simp (le-ltb _ _ c.if-order-gt0.false)
