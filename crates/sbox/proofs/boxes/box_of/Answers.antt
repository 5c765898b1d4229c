-- `sbox::boxes::box_of` meets its contract. Assumes nothing.
use mathlib.Core.Path.{sym, ap, ◌∙◌}
use Rattle.gf256.specs.declared.Direction.{Direction}
use Rattle.sbox.specs.Box.{box_of}
use Rattle.sbox.proofs.boxes.box_of.Goals as goal

pub returns-in-Forward : goal.returns-in-Forward
returns-in-Forward c =
    let a = c.args in
    let q = c.box_core.ensures in
    (q.0, q.1 ∙ sym (ap (λ (w : Direction). box_of w a.d a.x.now a.tape.now) c.in-Forward.is))

pub returns-in-Inverse : goal.returns-in-Inverse
returns-in-Inverse c =
    let a = c.args in
    let q = c.inverse_box_core.ensures in
    (q.0, q.1 ∙ sym (ap (λ (w : Direction). box_of w a.d a.x.now a.tape.now) c.in-Inverse.is))
