-- `sheets::sheet::sheet_core` meets its contract. Assumes nothing.
use mathlib.Core.Path.{refl, ◌∙◌}
use native.Mathlib.Omega.{arith}
use Rattle.xor.proofs.WriteLaws.{length-part_first}
use Rattle.sheets.proofs.sheet.sheet_core.Goals as goal

pub sheet_with-requires : goal.sheet_with-requires
sheet_with-requires c =
    let p = c.requires in
    let s = c.shares-n.ensures in
    (p.0, record { summed = length-part_first _ _ (omega (arith, s.1)) ∙ s.0; tabled = refl }, p.1)
