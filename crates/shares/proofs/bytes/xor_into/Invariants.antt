-- `shares::bytes::xor_into` meets its contract. Assumes nothing.
use Rattle.std.proofs.Common.{◌≡◌}
use Rattle.std.specs.Int.Bits.{bit_xor}
use Rattle.xor.specs.Lists.{at}
use Rattle.xor.proofs.WriteLaws.{over}
use Rattle.shares.proofs.bytes.xor_into.Given as goal

abbrev pub invariant-loop-k : goal.invariant-loop-k
invariant-loop-k l = l.x ≡ over (λ q. bit_xor (at l.initial.x q) (at l.y q)) l.k l.initial.x
