-- `sbox::boxes::affine_shares` meets its contract. Assumes nothing.
use mathlib.Core.Path.{ap, ◌∙◌}
use Rattle.sbox.specs.Box.{corrected, affine_shares}
use Rattle.sbox.proofs.boxes.affine_shares.Goals as goal

pub returns : goal.returns
unfolding affine_shares
returns c =
    c.correct.ensures ∙ ap (corrected _ _) c.affine_all.ensures
