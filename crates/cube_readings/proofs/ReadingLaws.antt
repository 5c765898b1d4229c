-- The outcome of a reading of the cube's places, from the answer of its sheet and of the list's reading. Assumes nothing.
use mathlib.Core.Path.{◌≡◌}
use mathlib.Core.Bool.{true}
use mathlib.Core.List.{List, []}
use Prim.Native.Nat.{ℕ, suc}
use borrow.Author.Tests.{eqb-true}
use lib.Dec.{eqb}
use lib.ListN.{length}
use Rattle.gf256.specs.Field.{times, squared}
use Rattle.outcomes.specs.declared.Refusal.{Refusal}
use Rattle.outcomes.specs.declared.Count.{Count}
use Rattle.outcomes.specs.Outcome.{Answer}
use Rattle.std.specs.Prelude.{Ok, Err}
use Rattle.outcomes.specs.Outcome.{outcome, took, served, reaches}
use Rattle.tape_words.specs.Words.{bytes_of, words_for}
use Rattle.place_lists.specs.Listed.{listed_outcome}
use Rattle.place_lists.proofs.ReadingLaws.{reading_handed, reading_made}
use Rattle.gadgets.specs.Cube.{cube_need, cube_sheet, cube_count}
use Rattle.gadgets.proofs.CubeLaws.{length-cube_sheet}
use Rattle.cubes.specs.Calls.{cube_sheet_outcome}
use Rattle.cube_readings.specs.Calls.{cube_reading_outcome}

-- the sheet was asked for at s, and the answer is `made`, with q at the sheet
module _ (d : ℕ) (xs ts ps o s q : List ℕ) (made : Answer) (told : outcome made q ≡ cube_sheet_outcome d xs ts s) where
  pub cube_handed : (served d ≡ true → length s ≡ cube_count d) → (r : Refusal) → made ≡ Err r
      → outcome made o ≡ cube_reading_outcome d xs ts ps o
  unfolding cube_reading_outcome cube_sheet_outcome
  cube_handed =
      reading_handed (served d) (eqb (length xs) (suc d)) (reaches (length ts) (words_for (cube_need d))) (cube_count d)
      (took (words_for (cube_need d))) d (cube_sheet times squared d xs (bytes_of ts)) ps o s q made told

  pub cube_read : (c : Count) → made ≡ Ok c → listed_outcome [] (length q) c d q ps o ≡ cube_reading_outcome d xs ts ps o
  unfolding cube_reading_outcome cube_sheet_outcome
  cube_read =
      reading_made (served d) (eqb (length xs) (suc d)) (reaches (length ts) (words_for (cube_need d))) (cube_count d)
      (took (words_for (cube_need d))) d (cube_sheet times squared d xs (bytes_of ts)) ps o s q made told
      (λ e. length-cube_sheet times squared d xs (bytes_of ts) (eqb-true (length xs) (suc d) e))
