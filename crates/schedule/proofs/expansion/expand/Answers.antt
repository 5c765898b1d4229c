-- `schedule::expansion::expand` meets its contract. Assumes nothing.
use mathlib.Core.Path.{◌≡◌, refl, sym, ap, ◌∙◌}
use Prim.Native.Nat.{ℕ, ◌<◌}
use native.Mathlib.Omega.{arith}
use Rattle.tape_words.proofs.WordsLaws.{length-bytes, length-bytes_rest}
use Rattle.cipher.proofs.DrawingLaws.{drawing_start, drawing_room, drawing_words, drawing_taken, drawing_done}
use Rattle.cipher.proofs.DrawingLoops.{word_loop}
use Rattle.schedule.specs.Stored.{written}
use Rattle.schedule.proofs.WrittenLaws.{word_stored-long, word_stored_next}
use borrow.Author.Rules.{rules}
use Rattle.schedule.proofs.expansion.expand.Goals as goal

pub loop-i-init : goal.loop-i-init
loop-i-init c = (omega arith, omega arith, refl, c.requires.keyed, drawing_start _ _ _ _)

pub offset_bounds-tape-at : goal.offset_bounds-tape-at
unfolding word_loop
offset_bounds-tape-at c =
    let room = drawing_room c.loop-i.invariant.4 (omega arith) in
    omega (arith, room, c.well_formed, c.requires.drawn, length-bytes c.args.tape.now)

pub slice_bounds-next_word-count : goal.slice_bounds-next_word-count
unfolding word_loop
slice_bounds-next_word-count c =
    let room = drawing_room c.loop-i.invariant.4 (omega arith) in
    omega (arith, room, c.requires.drawn, length-bytes c.args.tape.now)

pub slice_bounds-next_word-start : goal.slice_bounds-next_word-start
unfolding word_loop
slice_bounds-next_word-start c =
    let room = drawing_room c.loop-i.invariant.4 (omega arith) in
    omega (arith, room, c.requires.drawn, length-bytes c.args.tape.now)

pub next_word-at-requires : goal.next_word-at-requires
unfolding word_loop
next_word-at-requires c =
    let fit = c.requires in
    let l = c.loop-i in
    let room = drawing_room l.invariant.4 (omega arith) in
    record {
      some = fit.some;
      past = l.invariant.0;
      room = omega arith;
      keyed = l.invariant.3;
      drawn = omega (arith, room, fit.drawn, length-bytes c.args.tape.now, length-bytes_rest l.at c.args.tape.now);
    }

pub overflow_add-at : goal.overflow_add-at
unfolding word_loop
overflow_add-at c =
    let room = drawing_room c.loop-i.invariant.4 (omega arith) in
    omega (arith, c.next_word-at.ensures.0, room, c.well_formed, c.requires.drawn, length-bytes c.args.tape.now)

pub loop-i-preserved : goal.loop-i-preserved
unfolding word_loop
loop-i-preserved c =
    let v = c.args in
    let some = c.requires.some in
    let l = c.loop-i in
    let q = c.next_word-at in
    let below : l.i < v.total = omega arith in
    let long = word_stored-long v.nk v.d v.total l.i l.keys _ some l.invariant.0 below l.invariant.3 q.ensures.1 in
    let next = word_stored_next v.nk v.d v.total l.i l.keys _ some l.invariant.0 below l.invariant.3 q.ensures.1 in
    (omega arith, omega arith, refl, long, drawing_words v.tape.now l.at l.invariant.4 q.result _ below q.ensures.0 next)

pub returns : goal.returns
unfolding word_loop
returns c =
    let v = c.args in
    let l = c.loop-i in
    let e : l.i ≡ v.total = omega arith in
    (drawing_taken l.invariant.4 e, ap (λ (x : ℕ). written v.d v.total x l.keys) (sym e) ∙ drawing_done l.invariant.4 e)
