-- `masking::product::factors_answer` meets its contract. Assumes nothing.
use Rattle.std.proofs.Common.{sym, ◌∙◌}
use Rattle.tape_words.specs.Words.{words_for}
use Rattle.outcomes.specs.Outcome.{took}
use Rattle.isw.specs.Place.{product_need}
use Rattle.masking.specs.Calls.{factor_served}
use Rattle.outcomes.proofs.OutcomeLaws.{answered-unserved, answered-served}
use Rattle.masking.proofs.product.factors_answer.Goals as goal

pub returns-in_err-d : goal.returns-in_err-d
returns-in_err-d c = answered-unserved _ _ _ _ (sym c.served.ensures ∙ c.in_err-d.was) _ c.from_residual.ensures.1

pub returns : goal.returns
returns c =
    let a = c.args in
    answered-served _ _ (λ d. factor_served a.room d a.left a.right a.tape a.output)
    (λ d. took (words_for (product_need d))) _ (sym c.served.ensures ∙ c.in_ok-d.was) c.factors_tested.ensures
