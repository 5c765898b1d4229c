-- What the outcomes of the contracts say of one cube: the sheet shows its places' bytes, the reading gives the listed ones, and the last byte of each
-- row of the product is a share of the first product of power 254 on the same shares and tape. Assumes nothing.
use mathlib.Core.Path.{◌≡◌, refl, sym, ap, ◌∙◌}
use mathlib.Core.List.{List}
use Prim.Native.Nat.{ℕ, suc, ◌+◌, ◌*◌, ◌/◌, ◌≤◌}
use lib.ListN.{length}
use Rattle.xor.specs.Lists.{at}
use Rattle.gf256.specs.Field.{times, squared}
use Rattle.isw.specs.Place.{listed}
use Rattle.outcomes.specs.declared.Count.{Count}
use Rattle.outcomes.specs.Outcome.{done, took}
use Rattle.outcomes.proofs.OutcomeLaws.{settled-taken}
use Rattle.tape_words.specs.Words.{bytes_of, words_for}
use Rattle.shares.proofs.CallsLaws.{input-passed}
use Rattle.place_lists.proofs.ReadingLaws.{listed_shows}
use Rattle.power254.specs.Power254.{stage_z, stage_y, stage_need}
use Rattle.gadgets.specs.Cube.{cube_need, cube_factor, cube, cube_sheet}
use Rattle.gadgets.proofs.CubeLaws.{cube-shown}
use Rattle.cubes.specs.Calls.{cube_sheet_outcome}
use Rattle.cube_readings.specs.Calls.{cube_reading_outcome}

-- ---- the cube is the first stage of power 254

pub cube_is_stage : (d : ℕ) (x ts : List ℕ) → cube times squared d x ts ≡ stage_y d x ts
unfolding cube cube_factor stage_y stage_z
cube_is_stage d x ts = refl

pub cube_factor_is_stage : (d : ℕ) (x ts : List ℕ) → cube_factor times squared d x ts ≡ stage_z d x ts
unfolding cube_factor stage_z
cube_factor_is_stage d x ts = refl

pub cube_need_is_stage : (d : ℕ) → cube_need d ≡ stage_need d
unfolding cube_need stage_need
cube_need_is_stage d = refl

-- ---- the outcomes; the tape is words, and the steps draw its bytes

module _ (d : ℕ) (xs ts : List ℕ) where
  pub cube_sheet_shows : (o : List ℕ) (k : Count) (bs : List ℕ) → cube_sheet_outcome d xs ts o ≡ done k bs
      → (k ≡ took (words_for (cube_need d))) × (bs ≡ cube_sheet times squared d xs (bytes_of ts)) × (length xs ≡ suc d)
  unfolding cube_sheet_outcome
  cube_sheet_shows o k bs e =
      let g = settled-taken _ _ _ _ k bs e in
      (g.1, g.2, (input-passed _ _ d (length xs) (length ts) (length o) g.0).input)

  pub cube_reading_shows : (ps o : List ℕ) (k : Count) (q : List ℕ) → cube_reading_outcome d xs ts ps o ≡ done k q
      → (k ≡ took (words_for (cube_need d))) × (q ≡ listed (cube_sheet times squared d xs (bytes_of ts)) ps)
  unfolding cube_reading_outcome
  cube_reading_shows ps o k q e = listed_shows _ _ _ _ _ ps o k q e

  -- BOTH CALLS on the same shares and tape, where they are carried through: one count, the reading is the sheet at the listed places, and the sheet's
  -- byte at the last place of row i of the product is share i of power 254's first product
  pub cube_calls_agree : (o o' ps : List ℕ) (k k' : Count) (bs q : List ℕ)
      → cube_sheet_outcome d xs ts o ≡ done k bs → cube_reading_outcome d xs ts ps o' ≡ done k' q
      → (k' ≡ k) × (q ≡ listed bs ps)
      × ((i : ℕ) → i ≤ d
      → at bs (suc d + 3 * (d * suc d / 2) + (2 * suc d + 5 * (d * suc d / 2) + i * suc d + d)) ≡ at (stage_y d xs (bytes_of ts)) i)
  cube_calls_agree o o' ps k k' bs q es er =
      let s = cube_sheet_shows o k bs es in
      let r = cube_reading_shows ps o' k' q er in (
        r.0 ∙ sym s.0,
        r.1 ∙ ap (λ (l : List ℕ). listed l ps) (sym s.1),
        λ i h. ap (λ (l : List ℕ). at l (suc d + 3 * (d * suc d / 2) + (2 * suc d + 5 * (d * suc d / 2) + i * suc d + d))) s.1
            ∙ cube-shown times squared d xs (bytes_of ts) i h s.2
            ∙ ap (λ (l : List ℕ). at l i) (cube_is_stage d xs (bytes_of ts)),
      )
