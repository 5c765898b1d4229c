-- `lengths::answers::preparation_tested` meets its contract. Assumes nothing.
use mathlib.Core.Path.{sym, ap, ◌∙◌, subst}
use Prim.Native.Nat.{ℕ}
use borrow.Author.Tests.{eq-eqb, ne_eqb}
use Rattle.std.specs.Prelude.{Ok, Err}
use Rattle.outcomes.specs.Outcome.{took, reaches}
use Rattle.outcomes.proofs.OutcomeLaws.{handed_up, answered_here, answered_next, answered-none, lt_reaches, le_reaches}
use Rattle.tape_words.specs.Words.{words_for}
use Rattle.cipher.specs.Cipher.{schedule_need}
use Rattle.lengths.specs.Lengths.{KeySize, prepared_length}
use Rattle.lengths.proofs.LengthsLaws.{key_sized}
use Rattle.lengths.proofs.PreviewsLaws.{keyed-none, keyed-some, size-found, size-missing}
use Rattle.lengths.proofs.answers.preparation_tested.Goals as goal

pub returns-in_err-size : goal.returns-in_err-size
returns-in_err-size c =
    let m = size-missing _ _ _ _ _ c.ok_or.ensures.value c.key_words.ensures.none c.in_err-size.was in
    handed_up _ _ c.from_residual.ensures.1 ∙ ap Err m.1 ∙ keyed-none _ _ _ m.0

pub prepared_length-requires : goal.prepared_length-requires
prepared_length-requires c =
    c.in_ok-size.size.sized.1

pub returns-then-output-prepared_length : goal.returns-then-output-prepared_length
returns-then-output-prepared_length c =
    let a = c.args in
    let e = size-found _ _ _ _ _ c.ok_or.ensures.value c.key_words.ensures.some c.in_ok-size.was in
    let size = c.prepared_length.ensures.0 ∙ ap (λ (n : ℕ). prepared_length n a.d) e in
    keyed-some _ _ _ _ _ e c.in_ok-size.size.sized.0
    (answered_here _ _ _ _ (ne_eqb _ _ (λ q. c.if-output-prepared_length.true (q ∙ sym size))))

pub returns-then-tape-words : goal.returns-then-tape-words
returns-then-tape-words c =
    let a = c.args in
    let e = size-found _ _ _ _ _ c.ok_or.ensures.value c.key_words.ensures.some c.in_ok-size.was in
    let size = c.prepared_length.ensures.0 ∙ ap (λ (n : ℕ). prepared_length n a.d) e in
    let need = c.words_for-words.ensures ∙ ap words_for (c.schedule_need.ensures.0 ∙ ap (λ (n : ℕ). schedule_need n a.d) e) in
    keyed-some _ _ _ _ _ e c.in_ok-size.size.sized.0
    (answered_next _ _ _ _ (eq-eqb _ _ (c.if-output-prepared_length.false ∙ size))
    (answered_here _ _ _ _ (ap (reaches a.tape) (sym need) ∙ lt_reaches _ _ c.if-tape-words.true)))

pub returns : goal.returns
returns c =
    let a = c.args in
    let e = size-found _ _ _ _ _ c.ok_or.ensures.value c.key_words.ensures.some c.in_ok-size.was in
    let size = c.prepared_length.ensures.0 ∙ ap (λ (n : ℕ). prepared_length n a.d) e in
    let need = c.words_for-words.ensures ∙ ap words_for (c.schedule_need.ensures.0 ∙ ap (λ (n : ℕ). schedule_need n a.d) e) in
    keyed-some _ _ _ _ _ e c.in_ok-size.size.sized.0
    (answered_next _ _ _ _ (eq-eqb _ _ (c.if-output-prepared_length.false ∙ size))
    (answered_next _ _ _ _ (ap (reaches a.tape) (sym need) ∙ le_reaches _ _ c.if-tape-words.false)
    (ap (λ (n : ℕ). Ok (took n)) need ∙ answered-none _)))
