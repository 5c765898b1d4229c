-- `sheet_parts::parts::put_table` meets its contract. Assumes nothing.
use Rattle.std.proofs.Common.{◌≡◌}
use Rattle.xor.specs.Writes.{front}
use Rattle.sheet_parts.specs.Parts.{table_rows}
use Rattle.sheet_parts.proofs.parts.put_table.Given as goal

abbrev pub invariant-loop-k : goal.invariant-loop-k
invariant-loop-k l = l.out ≡ front (table_rows l.n l.table l.k) l.initial.out
