-- `sheet_parts::parts::put_starts` meets its contract. Assumes nothing.
use Rattle.std.proofs.Common.{◌≡◌}
use Rattle.xor.specs.Lists.{at}
use Rattle.sheet_parts.specs.Parts.{starts_put}
use Rattle.sheet_parts.proofs.parts.put_starts.Given as goal

abbrev pub invariant-loop-k : goal.invariant-loop-k
invariant-loop-k l = l.table ≡ starts_put (at l.sums) l.initial.table l.k
