-- `lengths::needs::key_boxes` meets its contract. Assumes nothing.
use borrow.Author.Tests.{eq-eqb, ne_eqb}
use Rattle.lengths.specs.Lengths.{boxes_of}
use Rattle.lengths.proofs.needs.key_boxes.Goals as goal

pub returns-then-nk-eq4 : goal.returns-then-nk-eq4
unfolding boxes_of
returns-then-nk-eq4 c = simp (eq-eqb _ _ c.if-nk-eq4.true)

pub returns-then-nk-eq6 : goal.returns-then-nk-eq6
unfolding boxes_of
returns-then-nk-eq6 c = simp (ne_eqb _ _ c.if-nk-eq4.false, eq-eqb _ _ c.if-nk-eq6.true)

pub returns : goal.returns
unfolding boxes_of
returns c = simp (ne_eqb _ _ c.if-nk-eq4.false, ne_eqb _ _ c.if-nk-eq6.false)
