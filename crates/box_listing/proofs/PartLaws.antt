-- The parts of an S-box's listing, as the code adds them up. Assumes nothing.
use Rattle.std.proofs.Common.{◌≡◌, ℕ, suc, ◌+◌, ◌*◌, refl, arith}
use Rattle.xor.specs.Pairs.{pair_count}
use Rattle.isw.specs.Place.{place_count}
use Rattle.refresh.specs.Places.{refresh_count}
use Rattle.refresh.proofs.RefreshLaws.{refresh_need-pairs}
use Rattle.gadgets.specs.Cube.{cube_count}
use Rattle.probing.specs.BoxPlaces.{times_count, first_count, second_count, last_count, power_count, box_count}

pub times_count_parts : (d : ℕ) → times_count d ≡ place_count d + suc d * suc d
unfolding times_count
times_count_parts d = omega arith

pub first_count_parts : (d : ℕ) → first_count d ≡ suc d + (cube_count d + suc d * suc d)
unfolding first_count
first_count_parts d = omega arith

pub second_count_parts : (d : ℕ) → second_count d ≡ suc d * 3 + (3 * pair_count (suc d) + times_count d)
unfolding second_count refresh_count
second_count_parts d = omega (arith, refresh_need-pairs d)

pub last_count_parts : (d : ℕ) → last_count d ≡ suc d * 5 + (times_count d + times_count d)
unfolding last_count
last_count_parts d = omega arith

pub power_count_parts : (d : ℕ) → power_count d ≡ first_count d + (second_count d + last_count d)
unfolding power_count
power_count_parts d = refl

pub box_count_parts : (d : ℕ) → box_count d ≡ power_count d + suc d * 4
unfolding box_count
box_count_parts d = omega arith
