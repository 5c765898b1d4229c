-- `lengths::answers::prepared_answer` meets its contract. Assumes nothing.
use Rattle.std.proofs.Common.{sym, ◌∙◌}
use Rattle.tape_words.specs.Words.{words_for}
use Rattle.outcomes.specs.Outcome.{took}
use Rattle.cipher.specs.Cipher.{encrypted_with_need}
use Rattle.lengths.specs.Lengths.{prepared_words}
use Rattle.lengths.specs.Previews.{prepared_served}
use Rattle.outcomes.proofs.OutcomeLaws.{answered-unserved, answered-served}
use Rattle.lengths.proofs.answers.prepared_answer.Goals as goal

pub returns-in_err-d : goal.returns-in_err-d
returns-in_err-d c = answered-unserved _ _ _ _ (sym c.served.ensures ∙ c.in_err-d.was) _ c.from_residual.ensures.1

pub returns : goal.returns
returns c =
    let a = c.args in
    answered-served _ _ (λ d. prepared_served d a.prepared a.input a.tape a.output)
    (λ d. took (words_for (encrypted_with_need (prepared_words d a.prepared) d))) _ (sym c.served.ensures ∙ c.in_ok-d.was) c.prepared_tested.ensures
