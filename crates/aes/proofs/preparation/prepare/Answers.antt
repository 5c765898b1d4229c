-- `aes::preparation::prepare` meets its contract. Assumes nothing.
use mathlib.Core.Path.{ap, sym, ◌∙◌}
use Prim.Native.Nat.{ℕ}
use lib.ListN.{length}
use Rattle.outcomes.specs.Outcome.{took}
use Rattle.outcomes.proofs.OutcomeLaws.{settled-handed, settled-done}
use Rattle.tape_words.specs.Words.{bytes_of, words_for}
use Rattle.tape_words.proofs.WordsLaws.{words_reach, whole_words}
use Rattle.cipher.specs.Cipher.{schedule_need, prepared_laid}
use Rattle.lengths.proofs.LengthsLaws.{key_length}
use Rattle.lengths.proofs.PreviewsLaws.{size-known, size-there, preparation_through}
use Rattle.aes.specs.Calls.{prepare_outcome}
use Rattle.aes.proofs.CallsLaws.{prepared_keys_length, prepared_made}
use Rattle.aes.proofs.preparation.prepare.Goals as goal

pub returns-in_err-preparation_answer : goal.returns-in_err-preparation_answer
unfolding prepare_outcome
returns-in_err-preparation_answer c =
    settled-handed _ _ _ _ _ c.preparation_answer.ensures _ c.in_err-preparation_answer.was _ c.from_residual.ensures.1

pub new-d-requires : goal.new-d-requires
new-d-requires c =
    let a = c.args in
    (preparation_through a.order (length a.key.now) (length a.tape.now) (length a.output.now) _ _ _
    c.preparation_answer.ensures c.in_ok-preparation_answer.was).order

pub unwrap-size-requires : goal.unwrap-size-requires
unwrap-size-requires c =
    let a = c.args in
    size-there _ _ (rw c.new-d.ensures at c.key_words.ensures.none)
    (preparation_through a.order (length a.key.now) (length a.tape.now) (length a.output.now) _ _ _
    c.preparation_answer.ensures c.in_ok-preparation_answer.was).some

pub expand_core-requires : goal.expand_core-requires
expand_core-requires c =
    let a = c.args in
    let t = preparation_through a.order (length a.key.now) (length a.tape.now) (length a.output.now) _ _ _
    c.preparation_answer.ensures c.in_ok-preparation_answer.was
    in
    let w = size-known _ _ _ (rw c.new-d.ensures at c.key_words.ensures.some) c.unwrap-size.ensures in
    rw c.new-d.ensures (record {
      some = rw w t.some;
      small = c.unwrap-size.result.sized.1;
      long = rw w (key_length a.order (length a.key.now) t.some);
      keyed = rw w (prepared_keys_length _ a.order _ t.output);
      drawn = rw w (words_reach _ a.tape.now t.drawn);
    })

pub returns : goal.returns
unfolding prepare_outcome
returns c =
    let a = c.args in
    let w = size-known _ _ _ (rw c.new-d.ensures at c.key_words.ensures.some) c.unwrap-size.ensures in
    let made = rw c.new-d.ensures at c.expand_core.ensures in
    settled-done _ _ _ _ _ c.preparation_answer.ensures _ _ _ c.in_ok-preparation_answer.was
    (ap took (whole_words _ _ made.0 ∙ ap (λ (n : ℕ). words_for (schedule_need n a.order)) w))
    (prepared_made _ a.order a.key.now (bytes_of a.tape.now) _ made.1
    ∙ ap (λ (n : ℕ). prepared_laid n a.order a.key.now (bytes_of a.tape.now)) w)
