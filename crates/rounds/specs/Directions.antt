-- Halves of a round and a whole block by the direction of the cipher: one name for encryption and decryption, of which the code has one routine.
-- Assumes nothing: these are definitions. Inner contracts: what each name stands for is decided where it is defined; cipher's `Rounds` has the
-- rounds themselves.
use Rattle.std.specs.Prelude.{List, map, ℕ}
use Rattle.gf256.specs.declared.Direction.{Direction}
use Rattle.gf256.specs.declared.Direction.TheVariants.{Forward, Inverse}
use Rattle.shares.specs.Strings.{Shares}
use Rattle.cipher.specs.Fips197.{shift_rows, mix_columns, inv_shift_rows, inv_mix_columns}
use Rattle.cipher.specs.States.{adds}
use Rattle.cipher.specs.Cipher.{subs, inv_subs, by_rows, round_keys, encrypted_with, decrypted_with}

-- the first two steps of a round: SubBytes, then ShiftRows; InvShiftRows, then InvSubBytes
abbrev pub shifted_of : Direction → (d : ℕ) → Shares → (tape : List ℕ) → Shares
shifted_of Forward d s ts = map shift_rows (subs d by_rows s ts)
shifted_of Inverse d s ts = inv_subs d by_rows (map inv_shift_rows s) ts

-- its last two: MixColumns, then AddRoundKey; AddRoundKey, then InvMixColumns
abbrev pub keyed_of : Direction → (r : ℕ) → (keys s : Shares) → Shares
keyed_of Forward r ks s = adds (map mix_columns s) (round_keys ks r)
keyed_of Inverse r ks s = map inv_mix_columns (adds s (round_keys ks r))

-- a block from round keys in shares
abbrev pub with_of : Direction → (nk d : ℕ) → (keys input : Shares) → (tape : List ℕ) → Shares
with_of Forward nk d ks x ts = encrypted_with nk d ks x ts
with_of Inverse nk d ks x ts = decrypted_with nk d ks x ts
