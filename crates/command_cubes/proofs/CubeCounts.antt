-- How many places the listing of the cube has. Assumes nothing.
use Rattle.std.proofs.Common.{◌≡◌, ℕ, ◌+◌, ◌*◌, ◌≤◌, add-one, arith}
use Rattle.xor.specs.Pairs.{pair_count}
use Rattle.xor.proofs.PairsLaws.{pair_count_is, pair_count_bound}
use Rattle.isw.specs.Place.{place_count}
use Rattle.listing.proofs.CountLaws.{place_count_bound}
use Rattle.gadgets.specs.Cube.{cube_count}

-- its parts: the squares, the refresh's places, the product's
pub cube_count_parts : (d : ℕ) → cube_count d ≡ (d + 1) + 3 * pair_count (d + 1) + place_count d
unfolding cube_count
cube_count_parts d = rw (add-one d) (omega (arith, pair_count_is d))

pub cube_count_bound : (d : ℕ) → d ≤ 8 → cube_count d ≤ 396
unfolding cube_count
cube_count_bound d h = omega (arith, place_count_bound d h, pair_count_is d, pair_count_bound d h)
