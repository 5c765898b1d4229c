-- `sheets::sheet::place_count` meets its contract. Assumes nothing.
use native.Mathlib.Nat.{mul-le-mul}
use native.Mathlib.Omega.{arith}
use Rattle.sheet_parts.proofs.SheetParts.{place_count-parts}
use Rattle.sheets.proofs.sheet.place_count.Goals as goal

pub overflow_mul-result-3 : goal.overflow_mul-result-3
overflow_mul-result-3 c = omega (arith, mul-le-mul c.shares-n.ensures.1 c.shares-n.ensures.1)

pub overflow_add-result-2 : goal.overflow_add-result-2
overflow_add-result-2 c = omega (arith, mul-le-mul c.shares-n.ensures.1 c.shares-n.ensures.1)

pub returns : goal.returns
returns c =
    let m = mul-le-mul c.shares-n.ensures.1 c.shares-n.ensures.1 in
    (rw (c.shares-n.ensures.0, c.product_need.ensures.0) (omega (arith, place_count-parts c.args.d)), omega arith)
