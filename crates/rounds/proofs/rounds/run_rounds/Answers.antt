-- `rounds::rounds::run_rounds` meets its contract. Assumes nothing.
use mathlib.Core.Path.{◌≡◌, refl, ap, ◌∙◌}
use Prim.Native.Nat.{suc, ◌<◌}
use native.Mathlib.Omega.{arith}
use Rattle.shares.specs.Strings.{parts, laid}
use Rattle.tape_words.specs.Words.{bytes_of}
use Rattle.tape_words.proofs.WordsLaws.{length-bytes, length-bytes_rest}
use Rattle.cipher.proofs.DrawingLoops.{round_loop, rounds-whole, rounds-whole-need}
use Rattle.buffers.proofs.BufferLaws.{buffered_start, buffered_room, buffered_words, buffered_taken, buffered_done}
use Rattle.rounds.proofs.BlockLaws.{round_keeps, round-made}
use borrow.Author.Rules.{rules}
use Rattle.rounds.proofs.rounds.run_rounds.Goals as goal

pub loop-i-init : goal.loop-i-init
loop-i-init c = (omega arith, omega arith, refl, buffered_start _ 1 _ _ _ _ c.requires.long)

pub offset_bounds-tape-at : goal.offset_bounds-tape-at
offset_bounds-tape-at c =
    let a = c.args in
    let whole = rounds-whole-need a.which a.d a.nr (parts (suc a.d) a.m a.keys.now) in
    omega (arith, whole, c.well_formed, c.requires.drawn, length-bytes a.tape.now)

pub slice_bounds-make_round-count : goal.slice_bounds-make_round-count
slice_bounds-make_round-count c =
    let a = c.args in
    let whole = rounds-whole-need a.which a.d a.nr (parts (suc a.d) a.m a.keys.now) in
    omega (arith, whole, c.requires.drawn, length-bytes a.tape.now)

pub slice_bounds-make_round-start : goal.slice_bounds-make_round-start
slice_bounds-make_round-start c =
    let a = c.args in
    let whole = rounds-whole-need a.which a.d a.nr (parts (suc a.d) a.m a.keys.now) in
    omega (arith, whole, c.requires.drawn, length-bytes a.tape.now)

pub make_round-at-requires : goal.make_round-at-requires
unfolding round_loop
make_round-at-requires c =
    let a = c.args in
    let fit = c.requires in
    let l = c.loop-i in
    let whole = rounds-whole-need a.which a.d a.nr (parts (suc a.d) a.m a.keys.now) in
    let room = buffered_room l.invariant.3 (omega arith) in
    record {
      round = omega (arith, fit.round, c.key_number-r.ensures.1);
      keyed = fit.keyed;
      drawn = omega (arith, room, whole, fit.drawn, length-bytes a.tape.now, length-bytes_rest l.at a.tape.now);
      long = l.invariant.3.long;
    }

pub overflow_add-at : goal.overflow_add-at
unfolding round_loop
overflow_add-at c =
    let a = c.args in
    let fit = c.requires in
    let whole = rounds-whole-need a.which a.d a.nr (parts (suc a.d) a.m a.keys.now) in
    let room = buffered_room c.loop-i.invariant.3 (omega arith) in
    omega (arith, c.make_round-at.ensures.0, room, whole, c.well_formed, fit.drawn, length-bytes a.tape.now)

pub loop-i-preserved : goal.loop-i-preserved
unfolding round_loop
loop-i-preserved c =
    let a = c.args in
    let fit = c.requires in
    let l = c.loop-i in
    let q = c.make_round-at in
    let k = c.key_number-r in
    let below : l.i < suc a.nr = omega arith in
    let keeps = round_keeps a.which a.d a.m a.nr l.i a.keys.now fit.round fit.keyed below in
    let made = round-made a.which a.d a.m a.nr l.i k.result a.keys.now _ l.s _ k.ensures.0 q.ensures.1 in
    let drawn = buffered_words a.tape.now l.at l.invariant.3 q.result _ below keeps q.ensures.0 made in
    (omega arith, omega arith, l.invariant.2, drawn)

pub returns : goal.returns
unfolding round_loop
returns c =
    let a = c.args in
    let l = c.loop-i in
    let ks = parts (suc a.d) a.m a.keys.now in
    let e : l.i ≡ suc a.nr = omega arith in (
      buffered_taken l.invariant.3 e ∙ rounds-whole-need a.which a.d a.nr ks,
      buffered_done l.invariant.3 e
          ∙ ap laid (rounds-whole a.which a.d a.nr ks (parts (suc a.d) 16 a.s.now) (bytes_of a.tape.now)),
    )
