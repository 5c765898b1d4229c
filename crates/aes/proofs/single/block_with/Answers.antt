-- `aes::single::block_with` meets its contract. Assumes nothing.
use native.Mathlib.Omega.{arith}
use Rattle.tape_words.proofs.WordsLaws.{length-bytes, length-bytes_rest}
use Rattle.cipher.specs.Cipher.{cipher_need}
use Rattle.aes.proofs.CallsLaws.{block_made}
use borrow.Author.Rules.{rules}
use Rattle.aes.proofs.single.block_with.Goals as goal

pub expand_core-drawn-requires : goal.expand_core-drawn-requires
unfolding cipher_need
expand_core-drawn-requires c =
    search rules

pub offset_bounds-tape-drawn : goal.offset_bounds-tape-drawn
unfolding cipher_need
offset_bounds-tape-drawn c =
    omega (arith, c.expand_core-drawn.ensures.0, c.well_formed, c.requires.0.drawn, length-bytes c.args.tape.now)

pub slice_bounds-rounds_core-count : goal.slice_bounds-rounds_core-count
unfolding cipher_need
slice_bounds-rounds_core-count c =
    omega (arith, c.expand_core-drawn.ensures.0, c.well_formed, c.requires.0.drawn, length-bytes c.args.tape.now)

pub slice_bounds-rounds_core-start : goal.slice_bounds-rounds_core-start
unfolding cipher_need
slice_bounds-rounds_core-start c =
    omega (arith, c.expand_core-drawn.ensures.0, c.well_formed, c.requires.0.drawn, length-bytes c.args.tape.now)

pub rounds_core-requires : goal.rounds_core-requires
unfolding cipher_need
rounds_core-requires c =
    let a = c.args in
    let fit = c.requires.0 in
    let drawn = c.expand_core-drawn.ensures.0 in
    record {
      small = fit.small;
      keyed = search rules;
      input = fit.input;
      output = fit.output;
      drawn = omega (arith, drawn, fit.drawn, length-bytes a.tape.now, length-bytes_rest c.expand_core-drawn.result a.tape.now);
    }

pub overflow_add-result : goal.overflow_add-result
unfolding cipher_need
overflow_add-result c =
    let whole = length-bytes c.args.tape.now in
    omega (arith, c.rounds_core.ensures.0, c.expand_core-drawn.ensures.0, c.well_formed, c.requires.0.drawn, whole)

pub returns : goal.returns
unfolding cipher_need
returns c =
    let a = c.args in
    let fit = c.requires.0 in
    let e = c.expand_core-drawn.ensures in
    let r = c.rounds_core.ensures in
    (omega (arith, e.0, r.0), block_made a.which _ _ _ _ a.input.now a.tape.now _ _ fit.some fit.long e.1 e.0 r.1)
