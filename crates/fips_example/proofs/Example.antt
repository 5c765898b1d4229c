-- The example that FIPS 197 prints in appendix B, a key of 16 bytes: antt computes it from the definitions. Assumes nothing.
use mathlib.Core.Path.{◌≡◌, refl}
use mathlib.Core.List.{List, [], ◌∷◌}
use Prim.Native.Nat.{ℕ}
use lib.Count.{ones, ones_in}
use Rattle.xor.specs.Digit.{if_set}
use Rattle.xor.specs.Lists.{at, tab, runs}
use Rattle.xor.specs.Sums.{xors}
use Rattle.gf256.specs.Field.{doubled, times_from, times, squared, fourth, sixteenth, power, inverse, parity, rows_from, linear_by, affine_by, rows}
use Rattle.gf256.specs.Field.{affine, s_box, mixed}
use Rattle.cipher.specs.Fips197.{cell, state, sub_bytes, shift_rows, mix_columns, add_round_key, word, sub_word, rot_word, rcon, kind, temp}
use Rattle.cipher.specs.Fips197.{next_word, expanded_from, rounds, total_words, key_expansion, round_key, full_round, last_round, rounds_from}
use Rattle.cipher.specs.Fips197.{cipher_with, cipher}

abbrev pub key : List ℕ
key = 0x2b ∷ 0x7e ∷ 0x15 ∷ 0x16 ∷ 0x28 ∷ 0xae ∷ 0xd2 ∷ 0xa6 ∷ 0xab ∷ 0xf7 ∷ 0x15 ∷ 0x88 ∷ 0x09 ∷ 0xcf ∷ 0x4f ∷ 0x3c ∷ []

abbrev pub input : List ℕ
input = 0x32 ∷ 0x43 ∷ 0xf6 ∷ 0xa8 ∷ 0x88 ∷ 0x5a ∷ 0x30 ∷ 0x8d ∷ 0x31 ∷ 0x31 ∷ 0x98 ∷ 0xa2 ∷ 0xe0 ∷ 0x37 ∷ 0x07 ∷ 0x34 ∷ []

abbrev pub output : List ℕ
output = 0x39 ∷ 0x25 ∷ 0x84 ∷ 0x1d ∷ 0x02 ∷ 0xdc ∷ 0x09 ∷ 0xfb ∷ 0xdc ∷ 0x11 ∷ 0x85 ∷ 0x97 ∷ 0x19 ∷ 0x6a ∷ 0x0b ∷ 0x32 ∷ []

pub example_right : cipher 4 key input ≡ output
unfolding if_set doubled times_from times squared fourth sixteenth power inverse parity ones ones_in rows_from linear_by affine_by rows affine s_box
    mixed at tab runs xors cell state sub_bytes shift_rows mix_columns add_round_key word sub_word rot_word rcon kind temp next_word expanded_from
    rounds total_words key_expansion round_key full_round last_round rounds_from cipher_with cipher
example_right = refl
