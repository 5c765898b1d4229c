-- `refresh_sheets::rows::put_threes` meets its contract. Assumes nothing.
use Rattle.std.proofs.Common.{◌≡◌, refl, arith}
use Rattle.xor.specs.Lists.{at, runs}
use Rattle.xor.specs.Writes.{front}
use Rattle.xor.proofs.WriteLaws.{front-part}
use Rattle.refresh_sheets.specs.Parts.{three_rows}
use Rattle.refresh_sheets.proofs.RowsLaws.{length-three_rows, three_rows-more}
use Rattle.refresh_sheets.proofs.rows.put_threes.Goals as goal

pub loop-m-init : goal.loop-m-init
unfolding three_rows front runs
loop-m-init c = refl

pub loop-m-preserved : goal.loop-m-preserved
unfolding at
loop-m-preserved c =
    let l = c.loop-m in
    let v = c.args in
    let e = length-three_rows v.i v.tape.now v.own.now v.x.now l.m in
    front-part _ _ _ _ _ _ _ l.invariant e (omega (arith, e, c.requires.room)) c.put_three.ensures
    (three_rows-more v.i v.tape.now v.own.now v.x.now l.m)

pub returns : goal.returns
returns c = let e : c.loop-m.m ≡ c.args.w = omega arith in cc
