-- `sheets::sheet::sheet_with` meets its contract. Assumes nothing.
use mathlib.Core.Path.{ap}
use Prim.Native.Nat.{ℕ, ◌*◌}
use native.Mathlib.Omega.{arith}
use Rattle.sheet_parts.proofs.SheetParts.{few-drawn, place_count-parts, sheet-written}
use Rattle.sheets.proofs.sheet.sheet_with.Goals as goal

pub put-requires : goal.put-requires
put-requires c =
    omega (arith, c.requires, c.shares-n.ensures, place_count-parts c.args.d)

pub slice_bounds-put-count : goal.slice_bounds-put-count
slice_bounds-put-count c =
    omega (arith, c.requires, c.shares-n.ensures, place_count-parts c.args.d)

pub slice_bounds-put-start : goal.slice_bounds-put-start
slice_bounds-put-start c =
    omega (arith, c.requires, c.shares-n.ensures, place_count-parts c.args.d)

pub put-requires-2 : goal.put-requires-2
put-requires-2 c =
    omega (arith, c.requires, c.shares-n.ensures, place_count-parts c.args.d)

pub slice_bounds-sheet_rows-count : goal.slice_bounds-sheet_rows-count
slice_bounds-sheet_rows-count c =
    omega (arith, c.requires, c.shares-n.ensures, place_count-parts c.args.d)

pub slice_bounds-sheet_rows-start : goal.slice_bounds-sheet_rows-start
slice_bounds-sheet_rows-start c =
    omega (arith, c.requires, c.shares-n.ensures, place_count-parts c.args.d)

pub sheet_rows-drawn-requires : goal.sheet_rows-drawn-requires
sheet_rows-drawn-requires c =
    let p = c.requires in
    (p.0, p.1, omega (arith, p, c.shares-n.ensures, place_count-parts c.args.d))

pub overflow_mul-behind : goal.overflow_mul-behind
overflow_mul-behind c =
    omega (arith, few-drawn c.args.d (omega (arith, c.shares-n.ensures)), c.sheet_rows-drawn.ensures.0, c.shares-n.ensures)

pub overflow_add-behind : goal.overflow_add-behind
overflow_add-behind c =
    omega (arith, few-drawn c.args.d (omega (arith, c.shares-n.ensures)), c.sheet_rows-drawn.ensures.0, c.shares-n.ensures)

pub slice_bounds-put_table-count : goal.slice_bounds-put_table-count
slice_bounds-put_table-count c =
    let e = place_count-parts c.args.d in
    omega (arith, c.requires, c.shares-n.ensures, c.sheet_rows-drawn.ensures.0)

pub slice_bounds-put_table-start : goal.slice_bounds-put_table-start
slice_bounds-put_table-start c =
    let e = place_count-parts c.args.d in
    omega (arith, c.requires, c.shares-n.ensures, c.sheet_rows-drawn.ensures.0)

pub put_table-requires : goal.put_table-requires
put_table-requires c =
    let p = c.requires in
    let e = place_count-parts c.args.d in (
      c.shares-n.ensures.1,
      omega (arith, p.1.tabled),
      omega (arith, p, c.shares-n.ensures, ap (λ (n : ℕ). n * n) c.shares-n.ensures.0, c.sheet_rows-drawn.ensures.0, e),
    )

pub returns : goal.returns
returns c =
    let v = c.args in
    let f = c.sheet_rows-drawn in (
      f.ensures.0,
      sheet-written v.d _ _ v.tape.now c.requires.0.left c.requires.0.right _ f.result _ _ _ _ _ _
          c.shares-n.ensures.0 c.requires.2 f.ensures.0 f.ensures.2 c.put.ensures c.put-2.ensures f.ensures.1
          c.put_table.ensures,
    )
