-- `text::hexadecimal::fill_words` meets its contract. Assumes nothing.
use mathlib.Core.Path.{◌≡◌}
use Prim.Native.Nat.{◌*◌}
use Rattle.xor.proofs.WriteLaws.{over}
use Rattle.text.specs.Hexadecimal.{word_at}
use Rattle.text.proofs.hexadecimal.fill_words.Given as goal

abbrev pub invariant-loop-k : goal.invariant-loop-k
invariant-loop-k l = l.out ≡ over (λ m. word_at l.text (m * 8)) l.k l.initial.out
