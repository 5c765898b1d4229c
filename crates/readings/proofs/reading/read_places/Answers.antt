-- `readings::reading::read_places` meets its contract. Assumes nothing.
use mathlib.Core.Path.{◌∙◌}
use Rattle.xor.proofs.WriteLaws.{length-part_first}
use Rattle.readings.proofs.reading.read_places.Goals as goal

pub read_with-requires : goal.read_with-requires
read_with-requires c =
    λ e. length-part_first _ _ c.sheet_size-size.ensures.1 ∙ c.sheet_size-size.ensures.0 e
