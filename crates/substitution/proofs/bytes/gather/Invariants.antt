-- `substitution::bytes::gather` meets its contract. Assumes nothing.
use mathlib.Core.Path.{◌≡◌}
use Prim.Native.Nat.{◌+◌, ◌*◌}
use Rattle.xor.specs.Lists.{at}
use Rattle.xor.proofs.WriteLaws.{over}
use Rattle.substitution.proofs.bytes.gather.Given as goal

abbrev pub invariant-loop-i : goal.invariant-loop-i
invariant-loop-i l = l.x ≡ over (λ j. at l.s (j * l.l + l.k)) l.i l.initial.x
