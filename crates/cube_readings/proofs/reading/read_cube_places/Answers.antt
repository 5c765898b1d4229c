-- `cube_readings::reading::read_cube_places` meets its contract. Assumes nothing.
use mathlib.Core.Path.{◌∙◌}
use Rattle.xor.proofs.WriteLaws.{length-part_first}
use Rattle.cube_readings.proofs.reading.read_cube_places.Goals as goal

pub read_with-requires : goal.read_with-requires
read_with-requires c =
    λ e. length-part_first _ _ c.cube_size-size.ensures.1 ∙ c.cube_size-size.ensures.0 e
