-- `rounds::rounds::rounds_core` meets its contract. Assumes nothing.
use mathlib.Core.Path.{sym, ◌∙◌}
use native.Mathlib.Omega.{arith}
use Rattle.tape_words.specs.Words.{bytes_of}
use Rattle.xor.proofs.WriteLaws.{front-all}
use Rattle.rounds.proofs.BlockLaws.{keys_length, rounds_need-of, with_made}
use borrow.Author.Rules.{rules}
use Rattle.rounds.proofs.rounds.rounds_core.Goals as goal

pub add_key-requires : goal.add_key-requires
add_key-requires c =
    let a = c.args in
    let fit = c.requires in
    (omega (arith, c.key_number-first.ensures.1), keys_length a.nk a.d _ fit.keyed, omega arith)

pub run_rounds-requires : goal.run_rounds-requires
run_rounds-requires c =
    let a = c.args in
    let fit = c.requires in
    record {
      small = omega arith;
      round = omega arith;
      keyed = keys_length a.nk a.d _ fit.keyed;
      drawn = omega (arith, fit.drawn, rounds_need-of a.nk a.d);
      long = omega (arith, fit.output);
    }

pub returns : goal.returns
returns c =
    let a = c.args in
    let fit = c.requires in
    let k = c.key_number-first in
    let run = c.run_rounds.ensures in
    let copied = c.put.ensures ∙ front-all a.input.now a.output.now (fit.input ∙ sym fit.output) in
    let ts = bytes_of a.tape.now in
    let made = with_made a.which a.nk a.d k.result a.keys.now a.input.now ts _ _ _ fit.keyed fit.input in
    (run.0 ∙ rounds_need-of a.nk a.d, made k.ensures.0 k.ensures.1 copied c.add_key.ensures run.1)
