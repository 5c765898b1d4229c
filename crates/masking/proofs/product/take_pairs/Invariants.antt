-- `masking::product::take_pairs` meets its contract. Assumes nothing.
use mathlib.Core.Path.{◌≡◌}
use Prim.Native.Nat.{suc, ◌≤◌, ◌-◌}
use lib.ListN.{length}
use Rattle.xor.specs.Pairs.{before_row}
use Rattle.isw.specs.Place.{product_need}
use Rattle.masking.proofs.SumsLaws.{Sums}
use Rattle.masking.proofs.product.take_pairs.Given as goal

abbrev pub invariant-loop-i : goal.invariant-loop-i
invariant-loop-i l =
    (l.i ≤ l.last) × (l.drawn ≡ before_row (suc l.fn.d) l.i) × (before_row (suc l.fn.d) l.i ≤ product_need l.fn.d) × (length l.sums ≡ suc l.fn.d)
    × Sums (suc l.fn.d) l.a l.b l.tape l.i l.sums

abbrev pub decreases-loop-i : goal.decreases-loop-i
decreases-loop-i l = l.last - l.i
