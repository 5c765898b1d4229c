-- `masking::product::two_fit` meets its contract. Assumes nothing.
use mathlib.Core.Path.{sym, ◌∙◌}
use borrow.Author.Tests.{eq-eqb, ne_eqb}
use Rattle.masking.specs.Calls.{two_fit}
use Rattle.masking.proofs.product.two_fit.Goals as goal

pub returns-then-left-n : goal.returns-then-left-n
unfolding two_fit
returns-then-left-n c = simp (eq-eqb _ _ (c.if-left-n.true ∙ c.shares-n.ensures.0), c.shares-n.ensures.0)

pub returns : goal.returns
unfolding two_fit
returns c = simp (ne_eqb _ _ (λ e. c.if-left-n.false (e ∙ sym c.shares-n.ensures.0)))
