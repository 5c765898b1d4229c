-- `dokkumel_c::cube::dokkumel_read_cube_places` meets its contract. Assumes nothing.
use Rattle.dokkumel_c.proofs.ReturnedLaws.{handed_on}
use Rattle.dokkumel_c.proofs.cube.dokkumel_read_cube_places.Goals as goal

pub returns : goal.returns
returns c = handed_on _ c.read_cube_places-answer.ensures (c.returned.ensures _)
