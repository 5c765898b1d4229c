-- `sbox::boxes::box_core` meets its contract. Assumes nothing.
use mathlib.Core.Path.{ap, ◌∙◌}
use Rattle.gf256.specs.declared.Direction.TheVariants.{Forward}
use Rattle.sbox.specs.Box.{affine_shares, box}
use Rattle.sbox.proofs.boxes.box_core.Goals as goal

pub returns : goal.returns
unfolding box
returns c =
    let p = c.power_core-drawn.ensures in
    (p.0, c.affine_shares.ensures ∙ ap (affine_shares Forward _) p.1)
