-- `sheets::sheet::sheet_rows` meets its contract. Assumes nothing.
use mathlib.Core.Path.{◌≡◌}
use Prim.Native.Nat.{suc, ◌≤◌, ◌-◌}
use lib.ListN.{length}
use Rattle.xor.specs.Pairs.{before_row}
use Rattle.isw.specs.Place.{product_need}
use Rattle.xor.specs.Writes.{front}
use Rattle.sheet_parts.specs.Parts.{pairs_before}
use Rattle.sheet_parts.proofs.PartsLaws.{Gathered}
use Rattle.sheets.proofs.sheet.sheet_rows.Given as goal

abbrev pub invariant-loop-i : goal.invariant-loop-i
invariant-loop-i l =
    (l.i ≤ l.last) × (l.drawn ≡ before_row (suc l.fn.d) l.i) × (before_row (suc l.fn.d) l.i ≤ product_need l.fn.d)
    × (l.out ≡ front (pairs_before (suc l.fn.d) l.a l.b l.tape l.i) l.initial.out) × (length l.out ≡ length l.initial.out)
    × (length l.sums ≡ suc l.fn.d) × (length l.table ≡ 81)
    × Gathered l.fn.d l.a l.b l.tape l.i l.sums l.table

abbrev pub decreases-loop-i : goal.decreases-loop-i
decreases-loop-i l = l.last - l.i
