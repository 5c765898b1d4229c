-- `aes::single::call` meets its contract. Assumes nothing.
use mathlib.Core.Path.{ap, sym, ◌∙◌}
use Prim.Native.Nat.{ℕ}
use lib.ListN.{length}
use Rattle.outcomes.specs.Outcome.{took}
use Rattle.outcomes.proofs.OutcomeLaws.{settled-handed, settled-done}
use Rattle.tape_words.specs.Words.{bytes_of, words_for}
use Rattle.tape_words.proofs.WordsLaws.{words_reach, whole_words}
use Rattle.cipher.specs.Cipher.{cipher_need}
use Rattle.lengths.specs.Lengths.{key_words}
use Rattle.lengths.proofs.LengthsLaws.{key_length}
use Rattle.lengths.proofs.PreviewsLaws.{size-known, size-there, block_through}
use Rattle.aes.specs.Directions.{laid_of}
use Rattle.aes.proofs.CallsLaws.{single_is}
use Rattle.aes.proofs.single.call.Goals as goal

pub returns-in_err-single_answer : goal.returns-in_err-single_answer
returns-in_err-single_answer c =
    let a = c.args in
    settled-handed _ _ _ _ _ c.single_answer.ensures _ c.in_err-single_answer.was _ c.from_residual.ensures.1
    ∙ single_is a.which a.order a.key.now a.input.now a.tape.now a.output.now

pub new-d-requires : goal.new-d-requires
new-d-requires c =
    let a = c.args in
    let nk = key_words a.order (length a.key.now) in
    (block_through nk (words_for (cipher_need nk a.order)) a.order (length a.input.now) (length a.tape.now)
    (length a.output.now) _ _ _
    c.single_answer.ensures c.in_ok-single_answer.was).order

pub unwrap-size-requires : goal.unwrap-size-requires
unwrap-size-requires c =
    let a = c.args in
    let nk = key_words a.order (length a.key.now) in
    size-there _ _ (rw c.new-d.ensures at c.key_words.ensures.none)
    (block_through nk (words_for (cipher_need nk a.order)) a.order (length a.input.now) (length a.tape.now)
    (length a.output.now) _ _ _
    c.single_answer.ensures c.in_ok-single_answer.was).some

pub block_core-requires : goal.block_core-requires
block_core-requires c =
    let a = c.args in
    let nk = key_words a.order (length a.key.now) in
    let t = block_through nk (words_for (cipher_need nk a.order)) a.order (length a.input.now) (length a.tape.now)
    (length a.output.now) _ _ _
    c.single_answer.ensures c.in_ok-single_answer.was
    in
    let w = size-known _ _ _ (rw c.new-d.ensures at c.key_words.ensures.some) c.unwrap-size.ensures in
    rw c.new-d.ensures (record {
      some = rw w t.some;
      small = c.unwrap-size.result.sized.1;
      long = rw w (key_length a.order (length a.key.now) t.some);
      input = t.input;
      output = t.output;
      drawn = rw w (words_reach _ a.tape.now t.drawn);
    })

pub returns : goal.returns
returns c =
    let a = c.args in
    let w = size-known _ _ _ (rw c.new-d.ensures at c.key_words.ensures.some) c.unwrap-size.ensures in
    let made = rw c.new-d.ensures at c.block_core.ensures in
    settled-done _ _ _ _ _ c.single_answer.ensures _ _ _ c.in_ok-single_answer.was
    (ap took (whole_words _ _ made.0 ∙ ap (λ (n : ℕ). words_for (cipher_need n a.order)) w))
    (made.1 ∙ ap (λ (n : ℕ). laid_of a.which n a.order a.key.now a.input.now (bytes_of a.tape.now)) w)
    ∙ single_is a.which a.order a.key.now a.input.now a.tape.now a.output.now
