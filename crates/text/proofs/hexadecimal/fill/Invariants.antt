-- `text::hexadecimal::fill` meets its contract. Assumes nothing.
use mathlib.Core.Path.{◌≡◌}
use Prim.Native.Nat.{◌*◌}
use Rattle.xor.proofs.WriteLaws.{over}
use Rattle.text.specs.Hexadecimal.{byte_at}
use Rattle.text.proofs.hexadecimal.fill.Given as goal

abbrev pub invariant-loop-k : goal.invariant-loop-k
invariant-loop-k l = l.out ≡ over (λ m. byte_at l.text (m * 2)) l.k l.initial.out
