-- `linear::steps::shift_rows` meets its contract. Assumes nothing.
use mathlib.Core.List.{List}
use mathlib.Core.Path.{◌≡◌}
use Prim.Native.Nat.{ℕ, ◌+◌, ◌/◌, ◌%◌}
use Rattle.xor.proofs.WriteLaws.{over}
use Rattle.gf256.specs.declared.Direction.{Direction}
use Rattle.cipher.specs.Fips197.{cell}
use Rattle.linear.specs.Steps.{turn_of}
use Rattle.linear.proofs.steps.shift_rows.Given as goal

-- byte k of the new state
abbrev pub shifted_byte : Direction → List ℕ → ℕ → ℕ
shifted_byte w t k = cell t (k % 4) (k / 4 + turn_of w (k % 4))

abbrev pub invariant-loop-k : goal.invariant-loop-k
invariant-loop-k l = l.s ≡ over (shifted_byte l.which l.t) l.k l.initial.s
