-- Every number of a place of a call fits. Assumes nothing.
use Rattle.std.proofs.Common.{ℕ, ◌≤◌, arith}
use Rattle.gf256.specs.declared.Direction.{Direction}
use Rattle.gf256.specs.declared.Direction.TheVariants.{Forward, Inverse}
use Rattle.lengths.specs.Lengths.{KeySize, four, six, eight}
use Rattle.place_counts.proofs.CountLaws.{box_count_bound}
use Rattle.probing.specs.CallPlaces.{call_count}
use Rattle.probing.proofs.PlaceCounts.{counted_places}
use Rattle.call_listing.specs.Walk.{most}

pub call_count_bound : (w : Direction) {nk : ℕ} → KeySize nk → (d : ℕ) → d ≤ 8 → call_count w nk d ≤ most
call_count_bound Forward four d h = omega (arith, (counted_places d).encryption_16, box_count_bound d h)
call_count_bound Forward six d h = omega (arith, (counted_places d).encryption_24, box_count_bound d h)
call_count_bound Forward eight d h = omega (arith, (counted_places d).encryption_32, box_count_bound d h)
call_count_bound Inverse four d h = omega (arith, (counted_places d).decryption_16, box_count_bound d h)
call_count_bound Inverse six d h = omega (arith, (counted_places d).decryption_24, box_count_bound d h)
call_count_bound Inverse eight d h = omega (arith, (counted_places d).decryption_32, box_count_bound d h)
