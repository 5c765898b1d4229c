-- `shares::answers::byte_answer` meets its contract. Assumes nothing.
use Rattle.std.proofs.Common.{sym, ◌∙◌}
use Rattle.std.proofs.Common.{suc, ◌*◌}
use Rattle.xor.specs.Pairs.{pair_count}
use Rattle.tape_words.specs.Words.{words_for}
use Rattle.outcomes.specs.Outcome.{took}
use Rattle.shares.specs.Calls.{input_served}
use Rattle.outcomes.proofs.OutcomeLaws.{answered-unserved, answered-served}
use Rattle.shares.proofs.answers.byte_answer.Goals as goal

pub returns-in_err-d : goal.returns-in_err-d
returns-in_err-d c = answered-unserved _ _ _ _ (sym c.served.ensures ∙ c.in_err-d.was) _ c.from_residual.ensures.1

pub returns : goal.returns
returns c =
    let a = c.args in
    answered-served _ _ (λ d. input_served (suc d) (words_for (a.each * pair_count (suc d))) d a.input a.tape a.output)
    (λ d. took (words_for (a.each * pair_count (suc d)))) _ (sym c.served.ensures ∙ c.in_ok-d.was) c.byte_tested.ensures
