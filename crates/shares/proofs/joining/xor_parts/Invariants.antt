-- `shares::joining::xor_parts` meets its contract. Assumes nothing.
use mathlib.Core.Path.{◌≡◌}
use Prim.Native.Nat.{◌≤◌, ◌-◌, ◌*◌}
use lib.ListN.{length}
use Rattle.xor.specs.Sums.{xors}
use Rattle.shares.specs.Strings.{joined_string, parts}
use Rattle.shares.proofs.joining.xor_parts.Given as goal

abbrev pub invariant-loop-i : goal.invariant-loop-i
invariant-loop-i l =
    (l.i ≤ l.d) × (l.l ≡ length l.initial.x) × (l.at ≡ l.i * l.l) × (l.x ≡ xors l.initial.x (joined_string (parts l.i l.l l.bytes)))
    × (length l.x ≡ length l.initial.x)

abbrev pub decreases-loop-i : goal.decreases-loop-i
decreases-loop-i l = l.d - l.i
