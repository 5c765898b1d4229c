-- Bytes stay bytes: the linear steps of FIPS 197 make bytes of bytes. Assumes nothing.
use mathlib.Core.List.{List}
use Prim.Native.Nat.{ℕ, ◌+◌, ◌-◌, ◌*◌, ◌/◌, ◌%◌, ◌<◌}
use lib.Bits.{xor_lt}
use lib.Pow.{pow_pos}
use Rattle.xor.specs.Lists.{at, done, ◌&◌, Below}
use Rattle.xor.proofs.ListsLaws.{all_take, all_drop, all-tab, at_below}
use Rattle.gf256.specs.Field.{inverse_mixed}
use Rattle.gf256.proofs.ExponentLaws.{power_lt}
use Rattle.gf256.proofs.ProductLaws.{times_lt}
use Rattle.byte_maps.proofs.ColumnLaws.{mixed_lt}
use Rattle.cipher.specs.Fips197.{cell, state, word, rot_word, rcon, round_key, shift_rows, mix_columns, inv_shift_rows, inv_mix_columns}

cell_below : {s : List ℕ} → Below 256 s → (r c : ℕ) → cell s r c < 256
unfolding cell
cell_below hs r c = at_below 8 hs (r % 4 + 4 * (c % 4))

state_below : (f : ℕ → ℕ → ℕ) → ((r c : ℕ) → f r c < 256) → Below 256 (state f)
unfolding state
state_below f h = all-tab (λ k. f (k % 4) (k / 4)) 16 (λ k l. h (k % 4) (k / 4))

pub shift_rows_below : {s : List ℕ} → Below 256 s → Below 256 (shift_rows s)
unfolding shift_rows
shift_rows_below hs = state_below _ (λ r c. cell_below hs r (c + r))

pub inv_shift_rows_below : {s : List ℕ} → Below 256 s → Below 256 (inv_shift_rows s)
unfolding inv_shift_rows
inv_shift_rows_below hs = state_below _ (λ r c. cell_below hs r (c + (4 - r)))

pub mix_columns_below : {s : List ℕ} → Below 256 s → Below 256 (mix_columns s)
unfolding mix_columns
mix_columns_below hs = state_below _ (λ r c. mixed_lt _ _ _ _ (cell_below hs (r + 2) c) (cell_below hs (r + 3) c))

pub inv_mix_columns_below : (s : List ℕ) → Below 256 (inv_mix_columns s)
unfolding inv_mix_columns inverse_mixed
inv_mix_columns_below s =
    state_below _ (λ r c.
    xor_lt 8 _ _ (xor_lt 8 _ _ (xor_lt 8 _ _ (times_lt 0x0e (cell s r c)) (times_lt 0x0b (cell s (r + 1) c))) (times_lt 0x0d (cell s (r + 2) c)))
    (times_lt 0x09 (cell s (r + 3) c)))

pub rot_word_below : {s : List ℕ} → Below 256 s → Below 256 (rot_word s)
unfolding rot_word
rot_word_below {s} hs = all-tab (λ k. at s ((k + 1) % 4)) 4 (λ k l. at_below 8 hs ((k + 1) % 4))

pub rcon_below : (j : ℕ) → Below 256 (rcon j)
unfolding rcon
rcon_below j = power_lt 2 (j - 1) & pow_pos 8 & pow_pos 8 & pow_pos 8 & done

pub word_below : {ks : List ℕ} (i : ℕ) → Below 256 ks → Below 256 (word ks i)
unfolding word
word_below i hs = all_take 4 (all_drop (4 * i) hs)

pub round_key_below : {ks : List ℕ} (r : ℕ) → Below 256 ks → Below 256 (round_key ks r)
unfolding round_key
round_key_below r hs = all_take 16 (all_drop (16 * r) hs)
