-- `text::packing::pack` meets its contract. Assumes nothing.
use mathlib.Core.Path.{◌≡◌}
use Prim.Native.Nat.{◌*◌}
use Rattle.xor.proofs.WriteLaws.{over}
use Rattle.text.specs.Packing.{word_at}
use Rattle.text.proofs.packing.pack.Given as goal

abbrev pub invariant-loop-k : goal.invariant-loop-k
invariant-loop-k l = l.out ≡ over (λ m. word_at l.bytes (m * 4)) l.k l.initial.out
