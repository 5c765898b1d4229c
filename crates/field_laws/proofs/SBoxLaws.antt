-- The S-box and the inverse S-box undo each other on bytes. Assumes nothing.
use mathlib.Core.Path.{◌≡◌, ap, ◌∙◌}
use Prim.Native.Nat.{ℕ, ◌<◌}
use Rattle.gf256.specs.Field.{inverse, affine, inverse_affine, s_box, inverse_s_box}
use Rattle.gf256.specs.Directions.{s_box_of}
use Rattle.gf256.specs.declared.Direction.{Direction}
use Rattle.gf256.specs.declared.Direction.TheVariants.{Forward, Inverse}
use Rattle.field_laws.proofs.InverseLaws.{inverse_lt, inverse-inverse}
use Rattle.byte_maps.proofs.AffineLaws.{affine_lt, affine_of_lt, inverse_affine-affine, affine-inverse_affine}

pub inverse_s_box-s_box : (x : ℕ) → x < 256 → inverse_s_box (s_box x) ≡ x
unfolding inverse_s_box s_box
inverse_s_box-s_box x h = ap inverse (inverse_affine-affine (inverse x) (inverse_lt x)) ∙ inverse-inverse x h

pub s_box-inverse_s_box : (x : ℕ) → x < 256 → s_box (inverse_s_box x) ≡ x
unfolding inverse_s_box s_box
s_box-inverse_s_box x h = ap affine (inverse-inverse (inverse_affine x) (affine_of_lt Inverse x)) ∙ affine-inverse_affine x h

pub s_box_of_lt : (w : Direction) (x : ℕ) → s_box_of w x < 256
unfolding s_box inverse_s_box
s_box_of_lt Forward x = affine_lt (inverse x)
s_box_of_lt Inverse x = inverse_lt (inverse_affine x)
