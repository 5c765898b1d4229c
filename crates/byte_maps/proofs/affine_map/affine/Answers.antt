-- `byte_maps::affine_map::affine` meets its contract. Assumes nothing.
use mathlib.Core.Path.{sym, ap, ◌∙◌}
use Prim.Native.Nat.{ℕ}
use Rattle.gf256.specs.Field.{affine_by, affine, rows, inverse_affine, inverse_rows}
use Rattle.gf256.specs.Directions.{constant_of, affine_of}
use Rattle.gf256.specs.declared.Direction.{Direction}
use Rattle.byte_maps.proofs.affine_map.affine.Goals as goal

pub returns-in-Forward : goal.returns-in-Forward
unfolding affine rows
returns-in-Forward c =
    let a = c.args.a in
    let told = c.in-Forward.is in
    c.by_rows.ensures ∙ ap (λ (k : ℕ). affine_by rows k a) (c.constant-c.ensures ∙ ap constant_of told)
    ∙ sym (ap (λ (w : Direction). affine_of w a) told)

pub returns-in-Inverse : goal.returns-in-Inverse
unfolding inverse_affine inverse_rows
returns-in-Inverse c =
    let a = c.args.a in
    let told = c.in-Inverse.is in
    c.by_rows-in-Inverse.ensures ∙ ap (λ (k : ℕ). affine_by inverse_rows k a) (c.constant-c.ensures ∙ ap constant_of told)
    ∙ sym (ap (λ (w : Direction). affine_of w a) told)
