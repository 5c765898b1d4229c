-- `cube_readings::reading::read_with` meets its contract. Assumes nothing.
use mathlib.Core.Path.{◌∙◌}
use Rattle.cube_readings.proofs.ReadingLaws.{cube_handed, cube_read}
use Rattle.cube_readings.proofs.reading.read_with.Goals as goal

pub returns-in_default : goal.returns-in_default
returns-in_default c =
    let a = c.args in
    cube_handed a.order a.input.now a.tape.now a.list.now a.output.now a.sheet.now _ _
    c.cube_sheet-made.ensures c.requires _ c.in_default.is

pub returns : goal.returns
returns c =
    let a = c.args in
    c.read_listed.ensures
    ∙ cube_read a.order a.input.now a.tape.now a.list.now a.output.now a.sheet.now _ _
    c.cube_sheet-made.ensures _ c.in-Ok.is
