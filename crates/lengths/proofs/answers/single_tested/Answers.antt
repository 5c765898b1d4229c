-- `lengths::answers::single_tested` meets its contract. Assumes nothing.
use mathlib.Core.Path.{ap, sym, ◌∙◌, subst}
use Rattle.std.specs.Prelude.{Err}
use Rattle.outcomes.proofs.OutcomeLaws.{handed_up, answered_here}
use Rattle.cipher.specs.Cipher.{cipher_need}
use Rattle.lengths.specs.Lengths.{KeySize}
use Rattle.lengths.proofs.LengthsLaws.{key_sized}
use Rattle.lengths.proofs.PreviewsLaws.{keyed-none, keyed-some, size-found, size-missing, block_answered}
use Rattle.lengths.proofs.answers.single_tested.Goals as goal

pub returns-in_err-size : goal.returns-in_err-size
returns-in_err-size c =
    let m = size-missing _ _ _ _ _ c.ok_or.ensures.value c.key_words.ensures.none c.in_err-size.was in
    handed_up _ _ c.from_residual.ensures.1 ∙ ap Err m.1 ∙ keyed-none _ _ _ m.0

pub returns : goal.returns
returns c =
    let a = c.args in
    let e = size-found _ _ _ _ _ c.ok_or.ensures.value c.key_words.ensures.some c.in_ok-size.was in
    keyed-some _ _ _ _ _ e c.in_ok-size.size.sized.0
    (block_answered _ _ a.d a.input a.tape a.output _ _ (λ m. cipher_need m a.d) _ e
    c.cipher_need.ensures c.words_for-need.ensures c.block_answer.ensures)
