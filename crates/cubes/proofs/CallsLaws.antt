-- What the tests of the cube's sheet answer. Assumes nothing.
use mathlib.Core.Path.{◌≡◌, ap, ◌∙◌}
use mathlib.Core.Bool.{true}
use Prim.Native.Nat.{ℕ, suc, ◌*◌}
use Rattle.xor.specs.Pairs.{pair_count}
use Rattle.outcomes.specs.Outcome.{Answer, answered, took, served}
use Rattle.tape_words.specs.Words.{words_for}
use Rattle.shares.specs.Calls.{input_served, input_tests}
use Rattle.shares.proofs.CallsLaws.{input-answered, input_served-answered, input-room}
use Rattle.gadgets.specs.Cube.{cube_need, cube_count}
use Rattle.cubes.proofs.CubeParts.{cube_need-pairs}

-- from a room that counts only where the order is served, and from what is drawn for each pair
pub cube-answered : (d x t o room : ℕ) (a : Answer) → (served d ≡ true → room ≡ cube_count d)
    → a ≡ answered (input_tests room (words_for (2 * pair_count (suc d))) d x t o) (took (words_for (2 * pair_count (suc d))))
    → a ≡ answered (input_tests (cube_count d) (words_for (cube_need d)) d x t o) (took (words_for (cube_need d)))
cube-answered d x t o room a same e =
    input-answered (cube_count d) (cube_need d) d x t o a (cube_need-pairs d) (input-room room (cube_count d) _ d x t o _ a same e)

-- the same of the tests behind the order's, from the room that was found
pub cube_served-answered : (d x t o : ℕ) {room : ℕ} (a : Answer) → room ≡ cube_count d
    → a ≡ answered (input_served room (words_for (2 * pair_count (suc d))) d x t o) (took (words_for (2 * pair_count (suc d))))
    → a ≡ answered (input_served (cube_count d) (words_for (cube_need d)) d x t o) (took (words_for (cube_need d)))
cube_served-answered d x t o a same e =
    input_served-answered (cube_count d) (cube_need d) d x t o a (cube_need-pairs d)
    (e ∙ ap (λ (m : ℕ). answered (input_served m (words_for (2 * pair_count (suc d))) d x t o) (took (words_for (2 * pair_count (suc d))))) same)
