-- `sheet_parts::parts::put_row` meets its contract. Assumes nothing.
use Rattle.std.proofs.Common.{◌≡◌, refl, arith}
use Rattle.xor.specs.Lists.{at, runs}
use Rattle.xor.specs.Writes.{front}
use Rattle.xor.proofs.WriteLaws.{front-part}
use Rattle.sheet_parts.specs.Parts.{five_rows}
use Rattle.sheet_parts.proofs.SheetParts.{length-five_rows, five_rows-more}
use Rattle.sheet_parts.proofs.parts.put_row.Goals as goal

pub loop-m-init : goal.loop-m-init
unfolding five_rows front runs
loop-m-init c = refl

pub loop-m-preserved : goal.loop-m-preserved
unfolding at
loop-m-preserved c =
    let l = c.loop-m in
    let s = c.args in
    let e = length-five_rows s.tape.now s.rows.now.upper s.rows.now.half s.rows.now.lower s.rows.now.back l.m in
    front-part _ _ _ _ _ _ _ l.invariant e (omega (arith, e)) c.put_pair.ensures
    (five_rows-more s.tape.now s.rows.now.upper s.rows.now.half s.rows.now.lower s.rows.now.back l.m)

pub returns : goal.returns
returns c = let e : c.loop-m.m ≡ c.args.w = omega arith in cc
