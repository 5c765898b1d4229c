-- `substitution::boxes::sub_spaced` meets its contract. Assumes nothing.
use mathlib.Core.Path.{◌≡◌}
use Prim.Native.Nat.{◌+◌, ◌*◌}
use native.Mathlib.Omega.{arith}
use Rattle.xor.proofs.WriteLaws.{length-part_rest}
use Rattle.cipher.proofs.CipherLaws.{sub_at-shared}
use Rattle.buffers.proofs.BufferLaws.{buffered_start, buffered_room, buffered_more, buffered_taken, buffered_done}
use Rattle.substitution.proofs.SubLaws.{spaced_within, spaced-count, four-boxes}
use borrow.Author.Rules.{rules}
use Rattle.substitution.proofs.boxes.sub_spaced.Goals as goal

pub loop-m-init : goal.loop-m-init
loop-m-init c =
    let fits = c.requires in
    let n = spaced-count c.args.first c.args.stride c.args.l fits.quarter fits.place in
    (n, omega arith, buffered_start _ 0 _ _ _ _ fits.long)

pub overflow_mul-k : goal.overflow_mul-k
overflow_mul-k c =
    let a = c.args in
    omega (arith, spaced_within a.first a.stride c.loop-m.m a.l (omega arith) (omega arith) (omega arith))

pub overflow_add-k : goal.overflow_add-k
overflow_add-k c =
    let a = c.args in
    omega (arith, spaced_within a.first a.stride c.loop-m.m a.l (omega arith) (omega arith) (omega arith))

pub slice_bounds-sub_place-count : goal.slice_bounds-sub_place-count
unfolding four-boxes
slice_bounds-sub_place-count c = search rules

pub slice_bounds-sub_place-start : goal.slice_bounds-sub_place-start
unfolding four-boxes
slice_bounds-sub_place-start c = search rules

pub sub_place-at-requires : goal.sub_place-at-requires
unfolding four-boxes
sub_place-at-requires c =
    let a = c.args in
    let l = c.loop-m in
    let room = buffered_room l.invariant.2 (omega arith) in
    record {
      place = spaced_within a.first a.stride l.m a.l (omega arith) (omega arith) (omega arith);
      long = l.invariant.2.long;
      drawn = omega (arith, room, length-part_rest a.tape.now l.at);
    }

pub overflow_add-at : goal.overflow_add-at
unfolding four-boxes
overflow_add-at c =
    let room = buffered_room c.loop-m.invariant.2 (omega arith) in
    omega (arith, c.sub_place-at.ensures.0, room, c.well_formed, c.requires.drawn)

pub loop-m-preserved : goal.loop-m-preserved
unfolding four-boxes
loop-m-preserved c =
    let a = c.args in
    let l = c.loop-m in
    let p = c.sub_place-at in
    let k = a.first + l.m * a.stride in (
      l.invariant.0,
      omega arith,
      buffered_more l.invariant.2 p.result _ (omega arith) (λ ss ts. sub_at-shared a.which k ts) p.ensures.0 p.ensures.1,
    )

pub returns : goal.returns
unfolding four-boxes
returns c =
    let l = c.loop-m in
    let e : l.m ≡ 4 = omega arith in
    (buffered_taken l.invariant.2 e, buffered_done l.invariant.2 e)
