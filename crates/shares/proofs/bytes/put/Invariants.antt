-- `shares::bytes::put` meets its contract. Assumes nothing.
use mathlib.Core.Path.{◌≡◌}
use Rattle.xor.specs.Lists.{at}
use Rattle.xor.proofs.WriteLaws.{over}
use Rattle.shares.proofs.bytes.put.Given as goal

abbrev pub invariant-loop-k : goal.invariant-loop-k
invariant-loop-k l = l.out ≡ over (at l.x) l.k l.initial.out
