-- THE HIDING RULE ACROSS THE CUBE, for bytes: that of `gadgets` for the field's product and square, on a tape of words; and that what it counts is
-- what `cube_sheet` and `read_cube_places` show, by the outcomes that their contracts name. Assumes nothing.
use mathlib.Core.Path.{◌≡◌, ap}
use mathlib.Core.Bool.{Bool, true}
use mathlib.Core.List.{List}
use Prim.Native.Nat.{ℕ, suc, ◌≤◌}
use borrow.Author.Tests.{eq-eqb}
use lib.ListN.{length}
use Rattle.xor.specs.Lists.{Below}
use Rattle.gf256.specs.Field.{times, squared}
use Rattle.gf256.proofs.ProductLaws.{times_lt, squared_lt}
use Rattle.isw.specs.Place.{listed}
use Rattle.isw.specs.Hiding.{factor, same}
use Rattle.outcomes.specs.Outcome as Outcome
use Rattle.outcomes.specs.Outcome.{took, served}
use Rattle.outcomes.proofs.OutcomeLaws.{all, ◌and◌, le_reaches, settled-passed}
use Rattle.tape_words.specs.Words.{words_for}
use Rattle.place_lists.proofs.ReadingLaws.{listed_carried}
use Rattle.choices.proofs.ChoicesLaws.{HeedsNoSurplus, choices_alike}
use Rattle.gadgets.specs.Cube.{cube_need, cube_sheet, cube_count}
use Rattle.gadgets.specs.CubeHiding.{cube_choice_length, cube_chosen, cube_readings, CubeHides}
use Rattle.gadgets.proofs.CubeLaws.{cube_sheet-surplus}
use Rattle.gadgets.proofs.CubeHides.{cube_hides}
use Rattle.cubes.specs.Calls.{cube_sheet_outcome}
use Rattle.cube_readings.specs.Calls.{cube_reading_outcome}
use Rattle.cube_readings.specs.Hiding.{cube_sheet_chosen, cube_word_readings, CubeWordsHide}

-- THE HIDING RULE for the field's product and square, at every order
pub cube-bytes_hide : CubeHides times squared 8
cube-bytes_hide = cube_hides times squared 8 (λ x y hx hy. times_lt x y) (λ x h. squared_lt x)

-- ---- the same on a tape of words

module _ (d x : ℕ) (ps rs : List ℕ) where
  -- a list of masks and a list of drawn bytes give the reading, or not
  abbrev gives : (masks drawn : List ℕ) → Bool
  gives ms ts = same (listed (cube_sheet times squared d (factor x ms) ts) ps) rs

  gives-surplus : HeedsNoSurplus (cube_need d) gives
  gives-surplus ms us vs h = ap (λ (l : List ℕ). same (listed l ps) rs) (cube_sheet-surplus times squared d (factor x ms) us vs h)

-- THE HIDING RULE on a tape of words
pub cube-words_hide : CubeWordsHide
unfolding CubeWordsHide CubeHides cube_word_readings cube_sheet_chosen cube_readings cube_chosen cube_choice_length
cube-words_hide d n ps rs x y enough few below hx hy =
    choices_alike d (cube_need d) n (gives d x ps rs) (gives d y ps rs) (gives-surplus d x ps rs) (gives-surplus d y ps rs) enough
    (cube-bytes_hide d ps rs x y few below hx hy)

-- ---- what the rule counts is what the program shows

-- a call on the shares and the tape of a choice is carried through: the sheet that it puts out is the choice's
module _ (d x : ℕ) (ms ws : List ℕ) (order : served d ≡ true) (long : length ms ≡ d) (enough : words_for (cube_need d) ≤ length ws) where
  pub cube_sheet-of_choice : (o : List ℕ) → length o ≡ cube_count d
      → cube_sheet_outcome d (factor x ms) ws o ≡ Outcome.done (took (words_for (cube_need d))) (cube_sheet_chosen d x ms ws)
  unfolding cube_sheet_outcome factor cube_sheet_chosen
  cube_sheet-of_choice o room =
      settled-passed _ o _
      (order and eq-eqb _ _ (ap suc long) and eq-eqb _ _ room and le_reaches (length ws) (words_for (cube_need d)) enough and all)

  -- and so is what it reads at the listed places
  pub cube_reading_of_choice : (ps o : List ℕ) → length ps ≤ d → Below (cube_count d) ps → length o ≡ length ps
      → cube_reading_outcome d (factor x ms) ws ps o ≡ Outcome.done (took (words_for (cube_need d))) (listed (cube_sheet_chosen d x ms ws) ps)
  unfolding cube_reading_outcome factor cube_sheet_chosen
  cube_reading_of_choice ps o few below room =
      listed_carried (cube_count d) _ d _ ps o
      (order and eq-eqb _ _ (ap suc long) and le_reaches (length ws) (words_for (cube_need d)) enough and all) room few below
