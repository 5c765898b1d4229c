-- The counts of `probing`'s definitions by the direction of the cipher, as the walk of a call meets them. Assumes nothing: these are definitions.
use Rattle.std.specs.Prelude.{ℕ, suc, ◌*◌}
use Rattle.gf256.specs.declared.Direction.{Direction}
use Rattle.gf256.specs.declared.Direction.TheVariants.{Forward, Inverse}
use Rattle.probing.specs.RoundPlaces.{round_count, rounds_count, inv_round_count, inv_rounds_count}
use Rattle.probing.specs.CallPlaces.{encrypted_with_count, decrypted_with_count}

-- no call has as many places, so a number of a place always fits
abbrev pub most : ℕ
most = 1000000

-- the places of MixColumns or InvMixColumns
unfoldable pub mix_of : Direction → (d : ℕ) → ℕ
mix_of Forward d = suc d * 81
mix_of Inverse d = suc d * 113

-- of a round that is not the last
unfoldable pub round_of : Direction → (d : ℕ) → ℕ
round_of Forward d = round_count d
round_of Inverse d = inv_round_count d

-- of the rounds left, and then the last
unfoldable pub rounds_of : Direction → (left d : ℕ) → ℕ
rounds_of Forward l d = rounds_count l d
rounds_of Inverse l d = inv_rounds_count l d

-- of all that follows the key expansion
unfoldable pub with_of : Direction → (nk d : ℕ) → ℕ
with_of Forward nk d = encrypted_with_count nk d
with_of Inverse nk d = decrypted_with_count nk d
