-- The outcome of the product on every input, refusals included. Document 01, "Turned-down calls", decides; that a tape is words, document 02, wish 6.
-- Assumes nothing: these are definitions.
use Rattle.std.specs.Prelude.{Bool, ◌&&◌, List, [], ◌∷◌, ℕ, suc, eqb, length}
use Rattle.gf256.specs.Field.{times}
use Rattle.isw.specs.Place.{product_need, product}
use Rattle.outcomes.specs.declared.Refusal.TheVariants.{Order, Input, Output, Tape}
use Rattle.outcomes.specs.Outcome.{Outcome, Test, test, took, settled, served, reaches}
use Rattle.tape_words.specs.Words.{bytes_of, words_for}

-- both factors have n shares
unfoldable pub two_fit : (d left right : ℕ) → Bool
two_fit d a b = eqb a (suc d) && eqb b (suc d)

-- the tests of a call on two factors that draws what a product draws, with an output of `room` bytes; on the lengths of its buffers: those of an
-- order that is served, and all
abbrev pub factor_served : (room order left right tape output : ℕ) → List Test
factor_served n d a b t o = test Input (two_fit d a b) ∷ test Output (eqb o n) ∷ test Tape (reaches t (words_for (product_need d))) ∷ []

abbrev pub factor_tests : (room order left right tape output : ℕ) → List Test
factor_tests n d a b t o = test Order (served d) ∷ factor_served n d a b t o

-- product: an output of n bytes
unfoldable pub product_outcome : (order : ℕ) (left right tape output : List ℕ) → Outcome
product_outcome d a b ts o =
    settled (factor_tests (suc d) d (length a) (length b) (length ts) (length o)) (took (words_for (product_need d))) o
    (product times d a b (bytes_of ts))
