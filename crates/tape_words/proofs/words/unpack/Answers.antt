-- `tape_words::words::unpack` meets its contract. Assumes nothing.
use Rattle.std.proofs.Common.{◌≡◌, ℕ, ◌*◌, List, take, refl, ap, ◌∙◌, take_all, arith}
use Rattle.std.proofs.Math.Seq.{length-take-le}
use Rattle.xor.specs.Writes.{front}
use Rattle.tape_words.specs.Words.{bytes_of}
use Rattle.tape_words.proofs.WordsLaws.{word_put, bytes_take}
use Rattle.tape_words.proofs.words.unpack.Goals as goal

pub loop-k-init : goal.loop-k-init
unfolding bytes_of front
loop-k-init c = refl

pub loop-k-preserved : goal.loop-k-preserved
loop-k-preserved c =
    let n = length-take-le c.words_for.result c.args.tape.now (omega arith) in
    word_put _ _ _ _ c.loop-k.k c.loop-k.invariant c.loop-k-test.true (omega arith) (c.copy_from_slice.ensures.after ∙ c.to_le_bytes.ensures)

pub returns : goal.returns
returns c =
    let ws : List ℕ = take c.words_for.result c.args.tape.now in
    let all : take c.loop-k.k ws ≡ ws = take_all c.loop-k.k ws (omega arith) in
    c.loop-k.invariant
    ∙ ap (λ (vs : List ℕ). front vs c.args.room.now)
    (ap bytes_of all ∙ bytes_take c.words_for.result c.args.tape.now ∙ ap (λ (n : ℕ). take (4 * n) (bytes_of c.args.tape.now)) c.words_for.ensures)
