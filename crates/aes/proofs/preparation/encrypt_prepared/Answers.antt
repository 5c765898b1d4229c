-- `aes::preparation::encrypt_prepared` meets its contract. Assumes nothing.
use mathlib.Core.Path.{ap, sym, ◌∙◌}
use Prim.Native.Nat.{ℕ}
use lib.ListN.{length}
use Rattle.outcomes.specs.Outcome.{took}
use Rattle.outcomes.proofs.OutcomeLaws.{settled-handed, settled-done}
use Rattle.tape_words.specs.Words.{bytes_of, words_for}
use Rattle.tape_words.proofs.WordsLaws.{words_reach, whole_words}
use Rattle.cipher.specs.Cipher.{encrypted_with_need, encrypted_with_laid}
use Rattle.lengths.specs.Lengths.{prepared_words}
use Rattle.lengths.proofs.LengthsLaws.{prepared_long}
use Rattle.lengths.proofs.PreviewsLaws.{size-known, size-there, block_through}
use Rattle.aes.specs.Calls.{encrypt_prepared_outcome}
use Rattle.aes.proofs.CallsLaws.{prepared_keys_length, encrypted_with-made}
use Rattle.aes.proofs.preparation.encrypt_prepared.Goals as goal

pub returns-in_err-prepared_answer : goal.returns-in_err-prepared_answer
unfolding encrypt_prepared_outcome
returns-in_err-prepared_answer c =
    settled-handed _ _ _ _ _ c.prepared_answer.ensures _ c.in_err-prepared_answer.was _ c.from_residual.ensures.1

pub new-d-requires : goal.new-d-requires
new-d-requires c =
    let a = c.args in
    let nk = prepared_words a.order (length a.prepared.now) in
    (block_through nk (words_for (encrypted_with_need nk a.order)) a.order (length a.input.now) (length a.tape.now)
    (length a.output.now) _ _ _
    c.prepared_answer.ensures c.in_ok-prepared_answer.was).order

pub unwrap-size-requires : goal.unwrap-size-requires
unwrap-size-requires c =
    let a = c.args in
    let nk = prepared_words a.order (length a.prepared.now) in
    size-there _ _ (rw c.new-d.ensures at c.prepared_words.ensures.none)
    (block_through nk (words_for (encrypted_with_need nk a.order)) a.order (length a.input.now) (length a.tape.now)
    (length a.output.now) _ _ _
    c.prepared_answer.ensures c.in_ok-prepared_answer.was).some

pub rounds_core-taken-requires : goal.rounds_core-taken-requires
rounds_core-taken-requires c =
    let a = c.args in
    let nk = prepared_words a.order (length a.prepared.now) in
    let t = block_through nk (words_for (encrypted_with_need nk a.order)) a.order (length a.input.now) (length a.tape.now)
    (length a.output.now) _ _ _
    c.prepared_answer.ensures c.in_ok-prepared_answer.was
    in
    let w = size-known _ _ _ (rw c.new-d.ensures at c.prepared_words.ensures.some) c.unwrap-size.ensures in
    rw c.new-d.ensures (record {
      small = c.unwrap-size.result.sized.1;
      keyed = rw w (prepared_keys_length _ a.order _ (prepared_long a.order (length a.prepared.now) t.some));
      input = t.input;
      output = t.output;
      drawn = rw w (words_reach _ a.tape.now t.drawn);
    })

pub returns : goal.returns
unfolding encrypt_prepared_outcome
returns c =
    let a = c.args in
    let w = size-known _ _ _ (rw c.new-d.ensures at c.prepared_words.ensures.some) c.unwrap-size.ensures in
    let made = rw c.new-d.ensures at c.rounds_core-taken.ensures in
    settled-done _ _ _ _ _ c.prepared_answer.ensures _ _ _ c.in_ok-prepared_answer.was
    (ap took (whole_words _ _ made.0 ∙ ap (λ (n : ℕ). words_for (encrypted_with_need n a.order)) w))
    (encrypted_with-made _ a.order a.prepared.now a.input.now (bytes_of a.tape.now) _ made.1
    ∙ ap (λ (n : ℕ). encrypted_with_laid n a.order a.prepared.now a.input.now (bytes_of a.tape.now)) w)
