-- `readings::reading::read_with` meets its contract. Assumes nothing.
use mathlib.Core.Path.{◌∙◌}
use Rattle.readings.proofs.ReadingLaws.{product_handed, product_read}
use Rattle.readings.proofs.reading.read_with.Goals as goal

pub returns-in_default : goal.returns-in_default
returns-in_default c =
    let a = c.args in
    product_handed a.order a.left.now a.right.now a.tape.now a.list.now a.output.now a.sheet.now _ _
    c.product_sheet-made.ensures c.requires _ c.in_default.is

pub returns : goal.returns
returns c =
    let a = c.args in
    c.read_listed.ensures
    ∙ product_read a.order a.left.now a.right.now a.tape.now a.list.now a.output.now a.sheet.now _ _
    c.product_sheet-made.ensures _ c.in-Ok.is
