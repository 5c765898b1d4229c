-- A list of places, and the outcome of its reading from any sheet, refusals included. Document 01, "Turned-down calls", decides. The reading has an
-- order of tests of its own: what making the sheet had to pass, 1, 3 and 5, then 4, 6 and 7. Assumes nothing: these are definitions.
use Rattle.std.specs.Prelude.{Bool, true, not, ◌&&◌, List, [], ◌∷◌, ◌++◌, ℕ, ltb, eqb, length}
use Rattle.isw.specs.Place.{listed}
use Rattle.outcomes.specs.declared.Refusal.TheVariants.{Order, Input, Output, Tape, List as Listed, Place}
use Rattle.outcomes.specs.declared.Count.{Count}
use Rattle.outcomes.specs.Outcome.{Outcome, Test, test, settled}

-- every listed place (probe) is below m
unfoldable pub all_below : (m : ℕ) (list : List ℕ) → Bool
all_below m [] = true
all_below m (p ∷ ps) = ltb p m && all_below m ps

-- the list's own tests: on the lengths of list and output, and on whether every listed place is one
abbrev pub listed_tests : (order list output : ℕ) (below : Bool) → List Test
listed_tests d l o below = test Output (eqb o l) ∷ test Listed (not (ltb d l)) ∷ test Place below ∷ []

-- what making the sheet had to pass: that the order is served, the inputs fit and the tape reaches; the sheet's own 4 cannot come up, since the
-- reading gives it room for all its places
abbrev pub made_tests : (order input tape : Bool) → List Test
made_tests u f t = test Order u ∷ test Input f ∷ test Tape t ∷ []

-- the reading (the observation) of a sheet (a transcript) of m places: first the tests that making the sheet had to pass, then the list's own
unfoldable pub listed_outcome : (first : List Test) (size : ℕ) (count : Count) (order : ℕ) (sheet list output : List ℕ) → Outcome
listed_outcome ts m k d bs ps o = settled (ts ++ listed_tests d (length ps) (length o) (all_below m ps)) k o (listed bs ps)
