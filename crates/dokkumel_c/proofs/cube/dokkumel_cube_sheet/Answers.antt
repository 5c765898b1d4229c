-- `dokkumel_c::cube::dokkumel_cube_sheet` meets its contract. Assumes nothing.
use Rattle.dokkumel_c.proofs.ReturnedLaws.{handed_on}
use Rattle.dokkumel_c.proofs.cube.dokkumel_cube_sheet.Goals as goal

pub returns : goal.returns
returns c = handed_on _ c.cube_sheet-answer.ensures (c.returned.ensures _)
