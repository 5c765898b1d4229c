-- `sbox::boxes::affine_all` meets its contract. Assumes nothing.
use mathlib.Core.Path.{◌≡◌}
use Rattle.gf256.specs.Directions.{affine_of}
use Rattle.power254.proofs.EachLaws.{each}
use Rattle.sbox.proofs.boxes.affine_all.Given as goal

abbrev pub invariant-loop-number : goal.invariant-loop-number
invariant-loop-number l = l.x ≡ each (affine_of l.which) l.number-index l.initial.x
