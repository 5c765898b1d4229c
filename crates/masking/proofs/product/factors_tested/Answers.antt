-- `masking::product::factors_tested` meets its contract. Assumes nothing.
use mathlib.Core.Path.{ap, sym, ◌∙◌}
use Prim.Native.Nat.{ℕ}
use borrow.Author.Tests.{eq-eqb, ne_eqb}
use Rattle.outcomes.specs.Outcome.{reaches, took}
use Rattle.std.specs.Prelude.{Ok}
use Rattle.outcomes.proofs.OutcomeLaws.{answered_here, answered_next, answered-none, lt_reaches, le_reaches}
use Rattle.tape_words.specs.Words.{words_for}
use Rattle.masking.proofs.product.factors_tested.Goals as goal

pub returns-then-not-two_fit : goal.returns-then-not-two_fit
returns-then-not-two_fit c = answered_here _ _ _ _ (sym c.two_fit.ensures ∙ c.if-not-two_fit.true)

pub returns-then-output-room : goal.returns-then-output-room
returns-then-output-room c =
    answered_next _ _ _ _ (sym c.two_fit.ensures ∙ c.if-not-two_fit.false) (answered_here _ _ _ _ (ne_eqb _ _ c.if-output-room.true))

pub returns-then-tape-need : goal.returns-then-tape-need
returns-then-tape-need c =
    let need = c.words_for-need.ensures ∙ ap words_for c.product_need.ensures.0 in
    let a = c.args in
    answered_next _ _ _ _ (sym c.two_fit.ensures ∙ c.if-not-two_fit.false)
    (answered_next _ _ _ _ (eq-eqb _ _ c.if-output-room.false)
    (answered_here _ _ _ _ (ap (λ (k : ℕ). reaches a.tape k) (sym need) ∙ lt_reaches _ _ c.if-tape-need.true)))

pub returns : goal.returns
returns c =
    let need = c.words_for-need.ensures ∙ ap words_for c.product_need.ensures.0 in
    let a = c.args in
    answered_next _ _ _ _ (sym c.two_fit.ensures ∙ c.if-not-two_fit.false)
    (answered_next _ _ _ _ (eq-eqb _ _ c.if-output-room.false)
    (answered_next _ _ _ _ (ap (λ (k : ℕ). reaches a.tape k) (sym need) ∙ le_reaches _ _ c.if-tape-need.false)
    (ap (λ (k : ℕ). Ok (took k)) need ∙ answered-none _)))
