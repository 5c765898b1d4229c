-- The places of a masked S-box: every value that its defined steps compute on the way, in their order (its probes).
-- No document asks for it; documents 01 and 02 decide the steps. Assumes nothing: these are definitions. The steps are those of isw's `Place`, of
-- `Refresh`, `Cube`, `Power254` and `Box`, and read the same bytes of the tape.
-- Besides bytes there are wide places, so that it does not matter how a routine computes a field product: a place shows both factors as one number,
-- and whatever the routine computes inside is a function of it.
use Rattle.std.specs.Prelude.{List, [], ◌∷◌, ◌++◌, map, ℕ, zero, suc, ◌+◌, ◌*◌, ◌%◌, drop}
use Rattle.std.specs.Int.Bits.{bit_xor}
use Rattle.xor.specs.Lists.{at, tab}
use Rattle.gf256.specs.declared.Direction.{Direction}
use Rattle.gf256.specs.declared.Direction.TheVariants.{Forward, Inverse}
use Rattle.gf256.specs.Field.{times, squared, fourth, sixteenth, linear_by, rows, inverse_rows}
use Rattle.gf256.specs.Directions.{affine_of, constant_of}
use Rattle.isw.specs.Place.{place_count, product_need, sheet}
use Rattle.refresh.specs.Refresh.{refresh_need}
use Rattle.refresh.specs.Places.{refresh_sheet, refresh_count}
use Rattle.power254.specs.Power254.{masked_product, stage_z, stage_y, stage_w, stage_v, stage_need, power_254}
use Rattle.gadgets.specs.Steps.{each_share}
use Rattle.gadgets.specs.Cube.{cube_sheet, cube_count}
use Rattle.sbox.specs.Box.{affine_shares}

-- bytes as one number, the first the lowest
unfoldable pub number : List ℕ → ℕ
number [] = 0
number (b ∷ bs) = b + 256 * number bs

-- ---- the product

-- wide places: both factors of the field product of each a_i and b_j, as one number; j runs faster
unfoldable pub factors_sheet : (d : ℕ) (a b : List ℕ) → List ℕ
factors_sheet d a b = each_share (λ i x. tab (λ j. number (x ∷ at b j ∷ [])) (suc d)) 0 a

-- the places of a masked product as document 01 numbers them, and the factors of its field products
unfoldable pub times_sheet : (d : ℕ) (a b tape : List ℕ) → List ℕ
times_sheet d a b ts = sheet times d a b ts ++ factors_sheet d a b

-- how many they are
unfoldable pub times_count : (d : ℕ) → ℕ
times_count d = place_count d + suc d * suc d

-- ---- power 254, in the three stages of `Power254`

-- a share and the squares that its power 4 takes
abbrev pub to_fourth : ℕ → List ℕ
to_fourth a = a ∷ squared a ∷ fourth a ∷ []

-- for its power 16
abbrev pub to_sixteenth : ℕ → List ℕ
to_sixteenth a = a ∷ squared a ∷ fourth a ∷ squared (fourth a) ∷ sixteenth a ∷ []

-- z = x², refreshed; y = z · x: the shares of x, the places of the cube as document 02, wish 8, numbers them, and the factors
unfoldable pub first_sheet : (d : ℕ) (x tape : List ℕ) → List ℕ
first_sheet d x ts = x ++ (cube_sheet times squared d x ts ++ factors_sheet d (stage_z d x ts) x)

-- how many they are
unfoldable pub first_count : (d : ℕ) → ℕ
first_count d = suc d + (cube_count d + suc d * suc d)

-- w = y⁴, refreshed; v = y · w
unfoldable pub second_sheet : (d : ℕ) (y tape : List ℕ) → List ℕ
second_sheet d y ts =
    each_share (λ i a. to_fourth a) 0 y
    ++ (refresh_sheet d (map fourth y) ts ++ times_sheet d y (stage_w d y ts) (drop (refresh_need d) ts))

-- how many they are
unfoldable pub second_count : (d : ℕ) → ℕ
second_count d = suc d * 3 + (refresh_count d + times_count d)

-- v¹⁶ · w, and that times z
unfoldable pub last_sheet : (d : ℕ) (v w z tape : List ℕ) → List ℕ
last_sheet d v w z ts =
    each_share (λ i a. to_sixteenth a) 0 v
    ++ (times_sheet d (map sixteenth v) w ts ++ times_sheet d (masked_product d (map sixteenth v) w ts) z (drop (product_need d) ts))

-- how many they are
unfoldable pub last_count : (d : ℕ) → ℕ
last_count d = suc d * 5 + (times_count d + times_count d)

-- the places of power 254
unfoldable pub power_sheet : (d : ℕ) (x tape : List ℕ) → List ℕ
power_sheet d x ts =
    let y = stage_y d x ts in
    let us = drop (stage_need d) ts in
    first_sheet d x ts ++ (second_sheet d y us ++ last_sheet d (stage_v d y us) (stage_w d y us) (stage_z d x ts) (drop (stage_need d) us))

-- how many they are
unfoldable pub power_count : (d : ℕ) → ℕ
power_count d = first_count d + (second_count d + last_count d)

-- ---- the affine maps

-- the linear part of an affine map
abbrev pub linear_of : Direction → ℕ → ℕ
linear_of Forward a = linear_by rows a
linear_of Inverse a = linear_by inverse_rows a

-- share i after the correction: the constant once more into share 0, if the digit is 1
unfoldable pub share_corrected : (constant digit i a : ℕ) → ℕ
share_corrected c zero i a = a
share_corrected c (suc k) zero a = bit_xor a c
share_corrected c (suc k) (suc i) a = a

-- of each share: itself, the linear part, the whole map, and the share of the result
unfoldable pub affine_bytes : Direction → (d i a : ℕ) → List ℕ
affine_bytes w d i a = a ∷ linear_of w a ∷ affine_of w a ∷ share_corrected (constant_of w) (d % 2) i (affine_of w a) ∷ []

-- the places of an affine map of a byte in shares
unfoldable pub affine_sheet : Direction → (d : ℕ) → List ℕ → List ℕ
affine_sheet w d x = each_share (affine_bytes w d) 0 x

-- ---- THE PLACES OF AN S-BOX

-- the values at all places of the S-box of the direction (a transcript)
unfoldable pub box_sheet : Direction → (d : ℕ) (x tape : List ℕ) → List ℕ
box_sheet Forward d x ts = power_sheet d x ts ++ affine_sheet Forward d (power_254 d x ts)
box_sheet Inverse d x ts = affine_sheet Inverse d x ++ power_sheet d (affine_shares Inverse d x) ts

-- how many they are, of either
unfoldable pub box_count : (d : ℕ) → ℕ
box_count d = power_count d + suc d * 4
