-- On the same bytes, the cube's sheet and a reading of its places are as on a tape of bytes (document 02, wish 6). Assumes nothing.
use mathlib.Core.List.{List}
use Prim.Native.Nat.{ℕ, suc}
use lib.Dec.{eqb}
use lib.ListN.{length}
use Rattle.gf256.specs.Field.{times, squared}
use Rattle.isw.specs.Place.{listed}
use Rattle.outcomes.specs.Outcome.{served}
use Rattle.tape_words.specs.Words.{words_for}
use Rattle.shares.specs.Calls.{input_tests}
use Rattle.shares.specs.OnWords.{AsOnBytes}
use Rattle.shares.proofs.CallsLaws.{input-passed}
use Rattle.shares.proofs.OnWordsLaws.{input_longer, on_words}
use Rattle.place_lists.proofs.OnWords.{listed-words}
use Rattle.gadgets.specs.Cube.{cube_need, cube_sheet, cube_count}
use Rattle.gadgets.proofs.CubeLaws.{cube_sheet-surplus}
use Rattle.cubes.specs.Calls.{cube_sheet_outcome}
use Rattle.cube_readings.specs.Calls.{cube_reading_outcome}

module _ (d : ℕ) (xs o : List ℕ) where
  pub cube_sheet-words : AsOnBytes (cube_need d) (cube_sheet times squared d xs) (λ ws. cube_sheet_outcome d xs ws o)
  unfolding cube_sheet_outcome
  cube_sheet-words =
      on_words (λ t. input_tests (cube_count d) (words_for (cube_need d)) d (length xs) t (length o)) (cube_need d) o (cube_sheet times squared d xs)
      (λ t p. (input-passed _ _ d (length xs) t (length o) p).drawn) (input_longer _ _ d (length xs) (length o))
      (λ t p. cube_sheet-surplus times squared d xs)

  pub cube_reading_words : (ps : List ℕ)
      → AsOnBytes (cube_need d) (λ ts. listed (cube_sheet times squared d xs ts) ps) (λ ws. cube_reading_outcome d xs ws ps o)
  unfolding cube_reading_outcome
  cube_reading_words ps =
      listed-words (served d) (eqb (length xs) (suc d)) (cube_need d) (cube_count d) d (cube_sheet times squared d xs) ps o
      (λ _. cube_sheet-surplus times squared d xs)
