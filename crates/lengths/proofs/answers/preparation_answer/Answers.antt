-- `lengths::answers::preparation_answer` meets its contract. Assumes nothing.
use Rattle.std.proofs.Common.{sym, ◌∙◌}
use Rattle.tape_words.specs.Words.{words_for}
use Rattle.outcomes.specs.Outcome.{took}
use Rattle.cipher.specs.Cipher.{schedule_need}
use Rattle.lengths.specs.Lengths.{key_words}
use Rattle.lengths.specs.Previews.{preparation_served}
use Rattle.outcomes.proofs.OutcomeLaws.{answered-unserved, answered-served}
use Rattle.lengths.proofs.answers.preparation_answer.Goals as goal

pub returns-in_err-d : goal.returns-in_err-d
returns-in_err-d c = answered-unserved _ _ _ _ (sym c.served.ensures ∙ c.in_err-d.was) _ c.from_residual.ensures.1

pub returns : goal.returns
returns c =
    let a = c.args in
    answered-served _ _ (λ d. preparation_served d a.key a.tape a.output)
    (λ d. took (words_for (schedule_need (key_words d a.key) d))) _ (sym c.served.ensures ∙ c.in_ok-d.was) c.preparation_tested.ensures
