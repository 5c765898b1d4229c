-- `lengths::answers::block_answer` meets its contract. Assumes nothing.
use mathlib.Core.Path.{◌≡◌, sym, ap, ◌∙◌}
use Prim.Native.Nat.{ℕ, suc, ◌+◌, ◌*◌}
use borrow.Author.Tests.{eq-eqb, ne_eqb}
use Rattle.outcomes.proofs.OutcomeLaws.{answered_here, answered_next, answered-none, lt_reaches, le_reaches}
use Rattle.lengths.proofs.answers.block_answer.Goals as goal

-- n shares of a block, as the code counts them
size : {n d : ℕ} → n ≡ suc d → n * 16 ≡ suc d * 16
size e = ap (λ (n : ℕ). n * 16) e

pub returns-then-input-size : goal.returns-then-input-size
returns-then-input-size c = answered_here _ _ _ _ (ne_eqb _ _ (λ e. c.if-input-size.true (e ∙ sym (size c.shares-size.ensures.0))))

pub returns-then-output-size : goal.returns-then-output-size
returns-then-output-size c =
    let e = c.shares-size.ensures.0 in
    answered_next _ _ _ _ (eq-eqb _ _ (c.if-input-size.false
    ∙ size e)) (answered_here _ _ _ _ (ne_eqb _ _ (λ q. c.if-output-size.true (q ∙ sym (size e)))))

pub returns-then-tape-need : goal.returns-then-tape-need
returns-then-tape-need c =
    let e = c.shares-size.ensures.0 in
    answered_next _ _ _ _ (eq-eqb _ _ (c.if-input-size.false ∙ size e))
    (answered_next _ _ _ _ (eq-eqb _ _ (c.if-output-size.false ∙ size e)) (answered_here _ _ _ _ (lt_reaches _ _ c.if-tape-need.true)))

pub returns : goal.returns
returns c =
    let e = c.shares-size.ensures.0 in
    answered_next _ _ _ _ (eq-eqb _ _ (c.if-input-size.false ∙ size e))
    (answered_next _ _ _ _ (eq-eqb _ _ (c.if-output-size.false ∙ size e))
    (answered_next _ _ _ _ (le_reaches _ _ c.if-tape-need.false) (answered-none _)))
