-- `shares::splitting::split_answer` meets its contract. Assumes nothing.
use mathlib.Core.Path.{sym, ◌∙◌}
use Rattle.outcomes.specs.Outcome.{took, share_length}
use Rattle.outcomes.proofs.OutcomeLaws.{answered-unserved, answered-served}
use Rattle.tape_words.specs.Words.{words_for}
use Rattle.shares.specs.Strings.{split_need}
use Rattle.shares.specs.Calls.{split_served}
use Rattle.shares.proofs.splitting.split_answer.Goals as goal

pub returns-in_err-d : goal.returns-in_err-d
returns-in_err-d c = answered-unserved _ _ _ _ (sym c.served.ensures ∙ c.in_err-d.was) _ c.from_residual.ensures.1

pub returns : goal.returns
returns c =
    let a = c.args in
    answered-served _ _ (λ d. split_served d a.input a.tape a.output)
    (λ d. took (words_for (split_need d (share_length 1 a.input)))) _ (sym c.served.ensures ∙ c.in_ok-d.was) c.split_tested.ensures
