-- `refresh_sheets::rows::sheet_row` meets its contract. Assumes nothing.
use mathlib.Core.List.{List}
use mathlib.Core.Path.{ap, ◌∙◌}
use Prim.Native.Nat.{ℕ}
use native.Mathlib.Omega.{arith}
use Rattle.xor.specs.Writes.{front}
use Rattle.refresh_sheets.proofs.RowsLaws.{three_rows-right}
use Rattle.refresh_sheets.proofs.rows.sheet_row.Goals as goal

pub returns : goal.returns
returns c =
    let v = c.args in
    let t = c.refresh_row-drawn.ensures in
    let e = three_rows-right v.i v.w v.x.now v.tape.now _ _ _ (omega (arith, c.requires.behind)) t.1 t.2 in
    (t.0, t.2, c.put_threes.ensures ∙ ap (λ (l : List ℕ). front l v.out.now) e)
