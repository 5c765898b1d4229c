-- `sheet_parts::parts::sheet_row` meets its contract. Assumes nothing.
use mathlib.Core.Path.{ap, ◌∙◌}
use mathlib.Core.List.{List}
use Prim.Native.Nat.{ℕ}
use native.Mathlib.Omega.{arith}
use Rattle.xor.specs.Writes.{front}
use Rattle.sheet_parts.proofs.PartsLaws.{row_put-owns}
use Rattle.sheet_parts.proofs.SheetParts.{five_rows-right}
use Rattle.sheet_parts.proofs.parts.sheet_row.Goals as goal

pub returns : goal.returns
returns c =
    let v = c.args in
    let t = c.take-drawn.ensures in
    let f = five_rows-right _ _ _ _ _ v.a.now v.b.now v.i v.w _ _ _ _ t.1 t.2 t.3 t.4 in (
      t.0,
      c.put_row.ensures ∙ ap (λ (l : List ℕ). front l v.out.now) f,
      t.6,
      row_put-owns v.tape.now v.sums.now v.i v.w _ v.table.now _ _ _ t.5 c.put_sums.ensures,
    )
