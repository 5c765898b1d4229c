-- `sheet_parts::parts::put_row` meets its contract. Assumes nothing.
use Rattle.std.proofs.Common.{◌≡◌}
use Rattle.xor.specs.Writes.{front}
use Rattle.sheet_parts.specs.Parts.{five_rows}
use Rattle.sheet_parts.proofs.parts.put_row.Given as goal

abbrev pub invariant-loop-m : goal.invariant-loop-m
invariant-loop-m l = l.out ≡ front (five_rows l.tape l.rows.upper l.rows.half l.rows.lower l.rows.back l.m) l.initial.out
