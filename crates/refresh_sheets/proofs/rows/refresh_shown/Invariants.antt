-- `refresh_sheets::rows::refresh_shown` meets its contract. Assumes nothing.
use Rattle.std.proofs.Common.{◌≡◌, suc, ◌≤◌}
use Rattle.xor.specs.Pairs.{before_row}
use Rattle.xor.specs.Writes.{front}
use Rattle.refresh.specs.Refresh.{refresh_need}
use Rattle.refresh.proofs.RefreshLaws.{rows-refreshed}
use Rattle.refresh_sheets.proofs.RowsLaws.{rows-sheet}
use Rattle.refresh_sheets.proofs.rows.refresh_shown.Given as goal

abbrev pub invariant-loop-i : goal.invariant-loop-i
invariant-loop-i l = record {
  drawn : l.drawn ≡ before_row (suc l.fn.d) l.i;
  needed : before_row (suc l.fn.d) l.i ≤ refresh_need l.fn.d;
  rows : l.x ≡ rows-refreshed (suc l.fn.d) l.i l.initial.x l.tape;
  shown : l.out ≡ front (rows-sheet (suc l.fn.d) l.i l.initial.x l.tape) l.initial.out;
}
