-- The places of the rounds over shares, of the cipher and of the inverse cipher: every value that the defined steps compute on the way, in their
-- order (their probes). No document asks for it; document 01 decides the steps, and those of the inverse cipher document 02, wish 2.
-- Assumes nothing: these are definitions. The steps are those of `Cipher`, and read the same bytes of the tape. ShiftRows and InvShiftRows only move
-- bytes, and have no places of their own.
use Rattle.std.specs.Prelude.{List, ◌∷◌, [], ◌++◌, map, ℕ, zero, suc, ◌+◌, ◌*◌, ◌/◌, ◌%◌, drop}
use Rattle.std.specs.Int.Bits.{bit_xor}
use Rattle.xor.specs.Lists.{runs}
use Rattle.gf256.specs.declared.Direction.TheVariants.{Forward, Inverse}
use Rattle.gf256.specs.Field.{times, mixed, inverse_mixed}
use Rattle.shares.specs.Strings.{Shares}
use Rattle.gadgets.specs.Steps.{each_share}
use Rattle.cipher.specs.Fips197.{cell, shift_rows, inv_shift_rows}
use Rattle.cipher.specs.States.{adds}
use Rattle.cipher.specs.Cipher.{subs, inv_subs, by_rows, round_keys, masked_round, masked_last_round, round_need}
use Rattle.cipher.specs.Cipher.{masked_inv_round, masked_inv_last_round}
use Rattle.probing.specs.BoxPlaces.{number}
use Rattle.probing.specs.StringPlaces.{string_sheet, string_count, subs_sheet, subs_count}

-- ---- MIXCOLUMNS AND INVMIXCOLUMNS

-- a mixed byte and its partial sums
unfoldable pub mixed_places : (a b c d : ℕ) → List ℕ
mixed_places a b c d =
    times 2 a ∷ times 3 b ∷ bit_xor (times 2 a) (times 3 b) ∷ bit_xor (bit_xor (times 2 a) (times 3 b)) c ∷ mixed a b c d ∷ []

-- a byte mixed back and its partial sums
unfoldable pub inverse_mixed_places : (a b c d : ℕ) → List ℕ
inverse_mixed_places a b c d =
    times 0x0e a ∷ times 0x0b b ∷ bit_xor (times 0x0e a) (times 0x0b b)
    ∷ times 0x0d c ∷ bit_xor (bit_xor (times 0x0e a) (times 0x0b b)) (times 0x0d c)
    ∷ times 0x09 d ∷ inverse_mixed a b c d ∷ []

-- what `of` shows of the four bytes that byte k of a state is mixed from: it stands in row k % 4 and column k / 4
abbrev pub of_column : (of : (a b c d : ℕ) → List ℕ) (s : List ℕ) (k : ℕ) → List ℕ
of_column of s k = of (cell s (k % 4) (k / 4)) (cell s (k % 4 + 1) (k / 4)) (cell s (k % 4 + 2) (k / 4)) (cell s (k % 4 + 3) (k / 4))

-- a whole state as one number (a wide place), and its mixed bytes
unfoldable pub mix_bytes : (s : List ℕ) → List ℕ
mix_bytes s = number s ∷ runs (of_column mixed_places s) 16

-- a whole state, and its bytes mixed back
unfoldable pub inv_mix_bytes : (s : List ℕ) → List ℕ
inv_mix_bytes s = number s ∷ runs (of_column inverse_mixed_places s) 16

-- of each share
unfoldable pub mix_sheet : Shares → List ℕ
mix_sheet ss = each_share (λ i s. mix_bytes s) 0 ss

-- of each share, mixed back
unfoldable pub inv_mix_sheet : Shares → List ℕ
inv_mix_sheet ss = each_share (λ i s. inv_mix_bytes s) 0 ss

-- ---- THE ROUNDS OF THE CIPHER

-- a round that is not the last: the S-boxes, MixColumns, AddRoundKey
unfoldable pub round_sheet : (d r : ℕ) → (keys s : Shares) → (tape : List ℕ) → List ℕ
round_sheet d r ks s ts =
    subs_sheet Forward d by_rows s ts ++ (mix_sheet (map shift_rows (subs d by_rows s ts)) ++ string_sheet 16 (masked_round d r ks s ts))

-- how many places it has
unfoldable pub round_count : (d : ℕ) → ℕ
round_count d = subs_count d by_rows + (suc d * 81 + string_count 16 d)

-- the last round: the S-boxes, AddRoundKey
unfoldable pub last_round_sheet : (d r : ℕ) → (keys s : Shares) → (tape : List ℕ) → List ℕ
last_round_sheet d r ks s ts = subs_sheet Forward d by_rows s ts ++ string_sheet 16 (masked_last_round d r ks s ts)

-- how many places it has, either way
unfoldable pub last_round_count : (d : ℕ) → ℕ
last_round_count d = subs_count d by_rows + string_count 16 d

-- rounds r, r + 1 and so on: those left, and then the last
unfoldable pub rounds_sheet : (left r : ℕ) → (d : ℕ) → (keys s : Shares) → (tape : List ℕ) → List ℕ
rounds_sheet zero r d ks s ts = last_round_sheet d r ks s ts
rounds_sheet (suc l) r d ks s ts = round_sheet d r ks s ts ++ rounds_sheet l (suc r) d ks (masked_round d r ks s ts) (drop (round_need d) ts)

-- how many places they have
unfoldable pub rounds_count : (left d : ℕ) → ℕ
rounds_count zero d = last_round_count d
rounds_count (suc l) d = round_count d + rounds_count l d

-- ---- THE ROUNDS OF THE INVERSE CIPHER

-- a round that is not the last: the S-boxes, AddRoundKey, InvMixColumns
unfoldable pub inv_round_sheet : (d r : ℕ) → (keys s : Shares) → (tape : List ℕ) → List ℕ
inv_round_sheet d r ks s ts =
    let added = adds (inv_subs d by_rows (map inv_shift_rows s) ts) (round_keys ks r) in
    subs_sheet Inverse d by_rows (map inv_shift_rows s) ts ++ (string_sheet 16 added ++ inv_mix_sheet added)

-- how many places it has
unfoldable pub inv_round_count : (d : ℕ) → ℕ
inv_round_count d = subs_count d by_rows + (string_count 16 d + suc d * 113)

-- the last round: the S-boxes, AddRoundKey
unfoldable pub inv_last_round_sheet : (d r : ℕ) → (keys s : Shares) → (tape : List ℕ) → List ℕ
inv_last_round_sheet d r ks s ts =
    subs_sheet Inverse d by_rows (map inv_shift_rows s) ts ++ string_sheet 16 (masked_inv_last_round d r ks s ts)

-- rounds r, r - 1 and so on, down to 1, and then the last, with round key 0
unfoldable pub inv_rounds_sheet : (r : ℕ) → (d : ℕ) → (keys s : Shares) → (tape : List ℕ) → List ℕ
inv_rounds_sheet zero d ks s ts = inv_last_round_sheet d 0 ks s ts
inv_rounds_sheet (suc r) d ks s ts =
    inv_round_sheet d (suc r) ks s ts ++ inv_rounds_sheet r d ks (masked_inv_round d (suc r) ks s ts) (drop (round_need d) ts)

-- how many places they have
unfoldable pub inv_rounds_count : (r d : ℕ) → ℕ
inv_rounds_count zero d = last_round_count d
inv_rounds_count (suc r) d = inv_round_count d + inv_rounds_count r d
