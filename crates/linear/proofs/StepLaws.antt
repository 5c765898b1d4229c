-- A linear step of a state makes a state; ShiftRows by how far its rows go, and MixColumns by its columns, either way;
-- RotWord by its front and its back. Assumes nothing.
use mathlib.Core.Path.{◌≡◌, refl}
use mathlib.Core.List.{List, ◌++◌}
use Prim.Native.Nat.{ℕ, ◌+◌}
use lib.ListN.{length, take, drop}
use Rattle.xor.specs.Lists.{at, tab, runs}
use Rattle.gf256.specs.declared.Direction.{Direction}
use Rattle.gf256.specs.declared.Direction.TheVariants.{Forward, Inverse}
use Rattle.gf256.specs.Directions.{mixed_of}
use Rattle.cipher.specs.Fips197.{cell, state, shift_rows, mix_columns, inv_shift_rows, inv_mix_columns, rot_word}
use Rattle.cipher.proofs.FipsLaws.{every, shift_rows-length, mix_columns-length, inv_shift_rows-length, inv_mix_columns-length}
use Rattle.linear.specs.declared.Step.{Step}
use Rattle.linear.specs.declared.Step.TheVariants.{ShiftRows, MixColumns}
use Rattle.linear.specs.Steps.{turn_of, stepped}

pub stepped-length : (step : Step) (w : Direction) (s : List ℕ) → length (stepped step w s) ≡ 16
stepped-length ShiftRows Forward s = shift_rows-length s
stepped-length ShiftRows Inverse s = inv_shift_rows-length s
stepped-length MixColumns Forward s = mix_columns-length s
stepped-length MixColumns Inverse s = inv_mix_columns-length s

pub rows_turned : (w : Direction) (s : List ℕ) → state (λ r c. cell s r (c + turn_of w r)) ≡ stepped ShiftRows w s
unfolding shift_rows inv_shift_rows
rows_turned Forward s = refl
rows_turned Inverse s = refl

pub columns_mixed : (w : Direction) (s : List ℕ)
    → state (λ r c. mixed_of w (cell s r c) (cell s (r + 1) c) (cell s (r + 2) c) (cell s (r + 3) c)) ≡ stepped MixColumns w s
unfolding mix_columns inv_mix_columns
columns_mixed Forward s = refl
columns_mixed Inverse s = refl

-- RotWord of a word
pub word_turned : (w : List ℕ) → length w ≡ 4 → drop 1 w ++ take 1 w ≡ rot_word w
unfolding rot_word at tab runs
word_turned = every 4 (λ w. drop 1 w ++ take 1 w ≡ rot_word w) (λ a b c d. refl)
