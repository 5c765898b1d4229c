-- `sheet_parts::parts::put_table` meets its contract. Assumes nothing.
use mathlib.Core.Path.{◌≡◌, refl, ap, ◌∙◌}
use mathlib.Core.List.{◌++◌}
use native.Mathlib.Omega.{arith}
use Rattle.xor.specs.Lists.{runs}
use Rattle.xor.specs.Writes.{front}
use Rattle.xor.proofs.WriteLaws.{front-part}
use Rattle.sheet_parts.specs.Parts.{table_rows}
use Rattle.sheet_parts.proofs.PartsLaws.{table_part, length_table_part, length-table_rows, table_rows-more}
use Rattle.sheet_parts.proofs.SheetParts.{rows-room}
use Rattle.sheet_parts.proofs.parts.put_table.Goals as goal

pub loop-k-init : goal.loop-k-init
unfolding table_rows front runs
loop-k-init c = refl

pub loop-k-preserved : goal.loop-k-preserved
loop-k-preserved c =
    let l = c.loop-k in
    let v = c.args in
    let t = v.table.now in
    let room = rows-room l.k v.n (omega arith) in
    let p = table_part v.n l.k t (omega arith) in
    let x = length_table_part v.n l.k t (omega arith) in
    front-part _ _ _ _ _ _ _ l.invariant (length-table_rows v.n t l.k ∙ omega arith) (omega (arith, room, x)) c.put.ensures
    (ap (◌++◌ (table_rows v.n t l.k)) p ∙ table_rows-more v.n t l.k)

pub returns : goal.returns
returns c =
    let e : c.loop-k.k ≡ c.args.n = omega arith in
    rw e at c.loop-k.invariant
