-- `sbox::boxes::inverse_box_core` meets its contract. Assumes nothing.
use mathlib.Core.List.{List}
use mathlib.Core.Path.{ap, ◌∙◌}
use Prim.Native.Nat.{ℕ}
use Rattle.power254.specs.Power254.{power_254}
use Rattle.sbox.specs.Box.{inverse_box}
use borrow.Author.Rules.{rules}
use Rattle.sbox.proofs.boxes.inverse_box_core.Goals as goal

pub power_core-requires : goal.power_core-requires
power_core-requires c =
    record { long = search rules; drawn = search rules }

pub returns : goal.returns
unfolding inverse_box
returns c =
    let a = c.args in
    let p = c.power_core.ensures in
    (p.0, p.1 ∙ ap (λ (x : List ℕ). power_254 a.d x a.tape.now) c.affine_shares.ensures)
