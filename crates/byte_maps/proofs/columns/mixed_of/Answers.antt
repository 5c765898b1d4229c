-- `byte_maps::columns::mixed_of` meets its contract. Assumes nothing.
use mathlib.Core.Path.{sym, ap, ◌∙◌}
use Rattle.gf256.specs.Directions.{mixed_of}
use Rattle.gf256.specs.declared.Direction.{Direction}
use Rattle.byte_maps.proofs.columns.mixed_of.Goals as goal

pub returns-in-Forward : goal.returns-in-Forward
returns-in-Forward c =
    let v = c.args in
    c.mix.ensures ∙ sym (ap (λ (w : Direction). mixed_of w v.a v.b v.c v.d) c.in-Forward.is)

pub returns-in-Inverse : goal.returns-in-Inverse
returns-in-Inverse c =
    let v = c.args in
    c.unmix.ensures ∙ sym (ap (λ (w : Direction). mixed_of w v.a v.b v.c v.d) c.in-Inverse.is)
