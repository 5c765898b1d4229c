-- Document 01's small values, those marked †, as document 02, wishes 6 and 7, restate them: on words, with the refresh by all pairs. One table, and
-- one theorem that antt computes. Assumes nothing.
use mathlib.Core.Path.{◌≡◌, refl}
use mathlib.Core.List.{List, [], ◌∷◌, map}
use Prim.Native.Nat.{ℕ}
use lib.Count.{ones, ones_in}
use Rattle.xor.specs.Digit.{if_set}
use Rattle.xor.specs.Lists.{at, tab, runs}
use Rattle.xor.specs.Pairs.{each_pair, pairs, before_row, draw_index}
use Rattle.xor.specs.Running.{running}
use Rattle.xor.specs.Sums.{joined}
use Rattle.gf256.specs.Field.{doubled, times_from, times, squared, fourth, sixteenth, power, inverse, parity, rows_from, linear_by, affine_by, rows}
use Rattle.gf256.specs.Field.{affine, mixed, mix_column}
use Rattle.isw.specs.Place.{skip, half_sum, other, term, row, byte, pair_places, pair_row, row_places, places, outputs, drawn, product_need}
use Rattle.isw.specs.Place.{value, sheet, product}
use Rattle.refresh.specs.Refresh.{into, pairs_refreshed, refresh_pairs, refreshed, refresh_need}
use Rattle.power254.specs.Power254.{stage_z, stage_y, stage_w, stage_v, stage_last, stage_need, power_254, power_need}
use Rattle.sbox.specs.Box.{corrected, affine_shares, box, box_need}
use Rattle.tape_words.specs.Words.{word_bytes, bytes_of, words_for}
use Rattle.cipher.specs.Fips197.{cell, state, mix_columns}

-- bytes, and how many words of tape were taken for them: what is computed, and what the document says
pub record Row : Type 0 where
  pub bytes : List ℕ
  pub taken : ℕ
  pub said_bytes : List ℕ
  pub said_taken : ℕ

abbrev pub computed : Row → List ℕ × ℕ
computed r = (r.bytes, r.taken)

abbrev pub said : Row → List ℕ × ℕ
said r = (r.said_bytes, r.said_taken)

-- a step that draws nothing, and one that draws
abbrev gives : (bytes said_bytes : List ℕ) → Row
gives c s = record { bytes = c; taken = 0; said_bytes = s; said_taken = 0 }

abbrev draws : (bytes : List ℕ) (need : ℕ) (said_bytes : List ℕ) (said_taken : ℕ) → Row
draws c n s m = record { bytes = c; taken = words_for n; said_bytes = s; said_taken = m }

abbrev one : ℕ → List ℕ
one x = x ∷ []

abbrev pub small_values : List Row
small_values =
    gives (one (times 0x57 0x83)) (one 0xc1)
    ∷ gives (one (doubled 0x80)) (one 0x1b)
    ∷ gives (one (power 0x00 254)) (one 0x00)
    ∷ gives (one (inverse 0x00)) (one 0x00)
    ∷ gives (one (affine 0x00)) (one 0x63)
    ∷ gives (one (affine 0x01)) (one 0x7c)
    ∷ gives (mix_column (0x01 ∷ 0x00 ∷ 0x00 ∷ 0x00 ∷ [])) (0x02 ∷ 0x01 ∷ 0x01 ∷ 0x03 ∷ [])
    ∷ gives (mix_columns (0x01 ∷ 0 ∷ 0 ∷ 0 ∷ 0 ∷ 0 ∷ 0 ∷ 0 ∷ 0 ∷ 0 ∷ 0 ∷ 0 ∷ 0 ∷ 0 ∷ 0 ∷ 0 ∷ []))
    (0x02 ∷ 0x01 ∷ 0x01 ∷ 0x03 ∷ 0 ∷ 0 ∷ 0 ∷ 0 ∷ 0 ∷ 0 ∷ 0 ∷ 0 ∷ 0 ∷ 0 ∷ 0 ∷ 0 ∷ [])
    ∷ draws (refreshed 2 (0x10 ∷ 0x20 ∷ 0x30 ∷ []) (bytes_of (0x00030201 ∷ []))) (refresh_need 2) (0x13 ∷ 0x22 ∷ 0x31 ∷ []) 1
    ∷ draws (sheet times 1 (0x02 ∷ 0x03 ∷ []) (0x01 ∷ 0x04 ∷ []) (bytes_of (0x00000010 ∷ []))) (product_need 1)
    (0x02 ∷ 0x03 ∷ 0x01 ∷ 0x04 ∷ 0x10 ∷ 0x08 ∷ 0x18 ∷ 0x03 ∷ 0x1b ∷ 0x02 ∷ 0x12 ∷ 0x0c ∷ 0x17 ∷ []) 1
    ∷ draws (product times 1 (0x02 ∷ 0x03 ∷ []) (0x01 ∷ 0x04 ∷ []) (bytes_of (0x00000010 ∷ []))) (product_need 1) (0x12 ∷ 0x17 ∷ []) 1
    ∷ gives (one (joined (product times 1 (0x02 ∷ 0x03 ∷ []) (0x01 ∷ 0x04 ∷ []) (bytes_of (0x00000010 ∷ []))))) (one 0x05)
    ∷ draws (box 1 (0x00 ∷ 0x00 ∷ []) (bytes_of (0 ∷ 0 ∷ []))) (box_need 1) (0x00 ∷ 0x63 ∷ []) 2
    ∷ draws (box 1 (0x01 ∷ 0x00 ∷ []) (bytes_of (0 ∷ 0 ∷ []))) (box_need 1) (0x1f ∷ 0x63 ∷ []) 2
    ∷ draws (box 2 (0x00 ∷ 0x00 ∷ 0x00 ∷ []) (bytes_of (0 ∷ 0 ∷ 0 ∷ 0 ∷ 0 ∷ []))) (box_need 2) (0x63 ∷ 0x63 ∷ 0x63 ∷ []) 5
    ∷ []

pub small_values_right : map computed small_values ≡ map said small_values
unfolding if_set doubled times_from times squared fourth sixteenth power inverse parity ones ones_in rows_from linear_by affine_by rows affine
    mixed mix_column cell state mix_columns at tab runs joined running skip half_sum other term row byte pair_places pair_row row_places places
    outputs each_pair pairs before_row draw_index drawn product_need value sheet product into pairs_refreshed refresh_pairs refreshed
    refresh_need stage_z stage_y stage_w stage_v stage_last stage_need power_254 corrected affine_shares box power_need word_bytes bytes_of
    words_for
small_values_right = refl
