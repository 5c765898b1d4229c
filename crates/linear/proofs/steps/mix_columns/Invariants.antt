-- `linear::steps::mix_columns` meets its contract. Assumes nothing.
use mathlib.Core.List.{List}
use mathlib.Core.Path.{◌≡◌}
use Prim.Native.Nat.{ℕ, ◌+◌, ◌/◌, ◌%◌}
use Rattle.gf256.specs.declared.Direction.{Direction}
use Rattle.gf256.specs.Directions.{mixed_of}
use Rattle.xor.proofs.WriteLaws.{over}
use Rattle.cipher.specs.Fips197.{cell}
use Rattle.linear.proofs.steps.mix_columns.Given as goal

-- byte k of the new state
abbrev pub mixed_byte : Direction → List ℕ → ℕ → ℕ
mixed_byte w t k = mixed_of w (cell t (k % 4) (k / 4)) (cell t (k % 4 + 1) (k / 4)) (cell t (k % 4 + 2) (k / 4)) (cell t (k % 4 + 3) (k / 4))

abbrev pub invariant-loop-k : goal.invariant-loop-k
invariant-loop-k l = l.s ≡ over (mixed_byte l.which l.t) l.k l.initial.s
