-- `place_lists::listed::listed_answer` meets its contract. Assumes nothing.
use borrow.Author.Tests.{eq-eqb, ne_eqb}
use Rattle.outcomes.proofs.OutcomeLaws.{answered_here, answered_next, answered-none, lt_reaches, le_reaches}
use Rattle.place_lists.proofs.listed.listed_answer.Goals as goal

pub returns-then-output-list : goal.returns-then-output-list
returns-then-output-list c = answered_here _ _ _ _ (ne_eqb _ _ c.if-output-list.true)

pub returns-then-order-list : goal.returns-then-order-list
returns-then-order-list c = answered_next _ _ _ _ (eq-eqb _ _ c.if-output-list.false) (answered_here _ _ _ _ (lt_reaches _ _ c.if-order-list.true))

pub returns-then-not-below : goal.returns-then-not-below
returns-then-not-below c =
    answered_next _ _ _ _ (eq-eqb _ _ c.if-output-list.false)
    (answered_next _ _ _ _ (le_reaches _ _ c.if-order-list.false) (answered_here _ _ _ _ (c.if-not-below.true)))

pub returns : goal.returns
returns c =
    answered_next _ _ _ _ (eq-eqb _ _ c.if-output-list.false)
    (answered_next _ _ _ _ (le_reaches _ _ c.if-order-list.false) (answered_next _ _ _ _ (c.if-not-below.false) (answered-none _)))
