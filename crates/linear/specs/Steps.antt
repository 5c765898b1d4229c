-- What each linear step does to a state. Assumes nothing: these are definitions.
-- Inner contracts: FIPS 197 decides the steps themselves.
use Rattle.std.specs.Prelude.{List, ℕ, ◌-◌}
use Rattle.gf256.specs.declared.Direction.{Direction}
use Rattle.gf256.specs.declared.Direction.TheVariants.{Forward, Inverse}
use Rattle.cipher.specs.Fips197.{shift_rows, mix_columns, inv_shift_rows, inv_mix_columns}
use Rattle.linear.specs.declared.Step.{Step}
use Rattle.linear.specs.declared.Step.TheVariants.{ShiftRows, MixColumns}

-- how far row r goes, to the left: r columns in ShiftRows, 4 - r in InvShiftRows
abbrev pub turn_of : Direction → (r : ℕ) → ℕ
turn_of Forward r = r
turn_of Inverse r = 4 - r

-- a linear step of a round, or its inverse, on the state of one share
abbrev pub stepped : Step → Direction → List ℕ → List ℕ
stepped ShiftRows Forward s = shift_rows s
stepped ShiftRows Inverse s = inv_shift_rows s
stepped MixColumns Forward s = mix_columns s
stepped MixColumns Inverse s = inv_mix_columns s
