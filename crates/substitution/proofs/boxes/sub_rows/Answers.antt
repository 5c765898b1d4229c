-- `substitution::boxes::sub_rows` meets its contract. Assumes nothing.
use mathlib.Core.Path.{◌≡◌}
use native.Mathlib.Omega.{arith}
use Rattle.tape_words.proofs.WordsLaws.{length-bytes, length-bytes_rest}
use Rattle.cipher.proofs.CipherLaws.{subs_of-shared}
use Rattle.substitution.specs.Boxes.{in_row}
use Rattle.buffers.proofs.BufferLaws.{buffered_start, buffered_room, buffered_words, buffered_taken, buffered_done}
use Rattle.substitution.proofs.SubLaws.{four-rows}
use borrow.Author.Rules.{rules}
use Rattle.substitution.proofs.boxes.sub_rows.Goals as goal

pub loop-r-init : goal.loop-r-init
loop-r-init c = (omega arith, buffered_start _ 0 _ _ _ _ c.requires.0)

pub offset_bounds-tape-at : goal.offset_bounds-tape-at
unfolding four-rows
offset_bounds-tape-at c =
    let room = buffered_room c.loop-r.invariant.1 (omega arith) in
    omega (arith, room, c.well_formed, c.requires.1, length-bytes c.args.tape.now)

pub slice_bounds-sub_four-count : goal.slice_bounds-sub_four-count
unfolding four-rows
slice_bounds-sub_four-count c =
    let room = buffered_room c.loop-r.invariant.1 (omega arith) in
    omega (arith, room, c.requires.1, length-bytes c.args.tape.now)

pub slice_bounds-sub_four-start : goal.slice_bounds-sub_four-start
unfolding four-rows
slice_bounds-sub_four-start c =
    let room = buffered_room c.loop-r.invariant.1 (omega arith) in
    omega (arith, room, c.requires.1, length-bytes c.args.tape.now)

pub sub_four-at-requires : goal.sub_four-at-requires
unfolding four-rows
sub_four-at-requires c =
    let l = c.loop-r in
    let room = buffered_room l.invariant.1 (omega arith) in
    record {
      quarter = omega arith;
      place = omega arith;
      small = omega arith;
      long = l.invariant.1.long;
      drawn = omega (arith, room, c.requires.1, length-bytes c.args.tape.now, length-bytes_rest l.at c.args.tape.now);
    }

pub overflow_add-at : goal.overflow_add-at
unfolding four-rows
overflow_add-at c =
    let room = buffered_room c.loop-r.invariant.1 (omega arith) in
    omega (arith, c.sub_four-at.ensures.0, room, c.well_formed, c.requires.1, length-bytes c.args.tape.now)

pub loop-r-preserved : goal.loop-r-preserved
unfolding four-rows
loop-r-preserved c =
    let a = c.args in
    let l = c.loop-r in
    let p = c.sub_four-at in (
      omega arith,
      buffered_words a.tape.now l.at l.invariant.1 p.result _ (omega arith) (λ ss ts. subs_of-shared a.which (in_row l.r) ts)
          p.ensures.0 p.ensures.1,
    )

pub returns : goal.returns
unfolding four-rows
returns c =
    let l = c.loop-r in
    let e : l.r ≡ 4 = omega arith in
    (buffered_taken l.invariant.1 e, buffered_done l.invariant.1 e)
