-- An example of the cube, computed: the shares 02 03 on the word 00001005 at order 1. Document 02, wish 8, gives none; this one was worked out apart.
-- Assumes nothing.
use mathlib.Core.Path.{◌≡◌, refl}
use mathlib.Core.List.{List, [], ◌∷◌}
use Prim.Native.Nat.{ℕ}
use Rattle.xor.specs.Digit.{if_set}
use Rattle.xor.specs.Lists.{at, tab, runs}
use Rattle.xor.specs.Pairs.{each_pair, pairs, before_row, draw_index}
use Rattle.xor.specs.Running.{running}
use Rattle.gf256.specs.Field.{doubled, times_from, times, squared}
use Rattle.isw.specs.Place.{skip, half_sum, other, term, row, byte, pair_places, pair_row, row_places, places, drawn, product_need, value, sheet}
use Rattle.refresh.specs.Refresh.{into, pairs_refreshed, refresh_pairs, refreshed, refresh_need}
use Rattle.refresh.specs.Places.{pairs_sheet, refresh_sheet}
use Rattle.tape_words.specs.Words.{word_bytes, bytes_of, words_for}
use Rattle.gadgets.specs.Cube.{cube_need, cube_factor, cube_sheet}

-- the words that it takes, and the byte at each place
pub cube_example :
    ◌≡◌ {A = List ℕ} (words_for (cube_need 1) ∷ cube_sheet times squared 1 (0x02 ∷ 0x03 ∷ []) (bytes_of (0x00001005 ∷ [])))
    (1 ∷ 0x04 ∷ 0x05 ∷ 0x05 ∷ 0x01 ∷ 0x00 ∷ 0x01 ∷ 0x00 ∷ 0x02 ∷ 0x03 ∷ 0x10 ∷ 0x03 ∷ 0x13 ∷ 0x00 ∷ 0x13 ∷ 0x02 ∷ 0x12 ∷ 0x00 ∷ 0x13 ∷ [])
unfolding if_set doubled times_from times squared at tab runs running skip half_sum other term row byte pair_places pair_row row_places places
    each_pair pairs before_row draw_index drawn product_need value sheet into pairs_refreshed refresh_pairs refreshed refresh_need pairs_sheet
    refresh_sheet cube_need cube_factor cube_sheet word_bytes bytes_of words_for
cube_example = refl
