-- `cubes::cube::cube_count` meets its contract. Assumes nothing.
use native.Mathlib.Omega.{arith}
use Rattle.xor.proofs.PairsLaws.{pair_count_twice}
use Rattle.gadgets.specs.Cube.{cube_count}
use Rattle.cubes.proofs.cube.cube_count.Goals as goal

pub returns : goal.returns
unfolding cube_count
returns c = omega (arith, pair_count_twice c.args.d, c.shares-n.ensures, c.pair_count.ensures, c.place_count.ensures)
