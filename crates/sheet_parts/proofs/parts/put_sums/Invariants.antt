-- `sheet_parts::parts::put_sums` meets its contract. Assumes nothing.
use Rattle.std.proofs.Common.{◌≡◌}
use Rattle.xor.specs.Lists.{at}
use Rattle.sheet_parts.specs.Parts.{row_put}
use Rattle.sheet_parts.proofs.parts.put_sums.Given as goal

abbrev pub invariant-loop-m : goal.invariant-loop-m
invariant-loop-m l = l.table ≡ row_put l.i (at l.own) (at l.sums) l.initial.table l.m
