-- `refresh_sheets::rows::put_three` meets its contract. Assumes nothing.
use native.Mathlib.Omega.{arith}
use lib.ListN.{length-set}
use Rattle.refresh_sheets.proofs.RowsLaws.{front_three}
use Rattle.refresh_sheets.proofs.rows.put_three.Goals as goal

pub bounds-out-1 : goal.bounds-out-1
bounds-out-1 c = simp length-set (omega arith)

pub bounds-out-2 : goal.bounds-out-2
bounds-out-2 c = simp length-set (omega arith)

pub shape_of-out : goal.shape_of-out
shape_of-out c = simp length-set

pub returns : goal.returns
returns c = front_three _ _ _ _ (omega arith)
