-- `refresh_sheets::rows::put_threes` meets its contract. Assumes nothing.
use Rattle.std.proofs.Common.{◌≡◌}
use Rattle.xor.specs.Writes.{front}
use Rattle.refresh_sheets.specs.Parts.{three_rows}
use Rattle.refresh_sheets.proofs.rows.put_threes.Given as goal

abbrev pub invariant-loop-m : goal.invariant-loop-m
invariant-loop-m l = l.out ≡ front (three_rows l.i l.tape l.own l.x l.m) l.initial.out
