-- What the tests of a call on two factors say, what is known where they let it through, and what it unpacks of its tape. Assumes nothing.
use mathlib.Core.Path.{◌≡◌, sym, ap, ◌∙◌}
use mathlib.Core.Bool.{true}
use mathlib.Core.List.{List, [], ◌∷◌, ◌++◌}
use Prim.Native.Nat.{ℕ, suc, ◌*◌, ◌≤◌}
use native.Mathlib.Omega.{arith}
use borrow.Author.Tests.{eqb-true}
use lib.Dec.{eqb}
use lib.ListN.{length, take}
use Rattle.xor.specs.Writes.{front}
use Rattle.xor.proofs.Tests.{and_true}
use Rattle.isw.specs.Place.{product_need}
use Rattle.outcomes.specs.declared.Refusal.TheVariants.{Order, Input, Output, Tape}
use Rattle.outcomes.specs.declared.Count.{Count}
use Rattle.outcomes.specs.Outcome.{Answer}
use Rattle.std.specs.Prelude.{Ok}
use Rattle.outcomes.specs.Outcome.{answered, served}
use Rattle.outcomes.proofs.OutcomeLaws.{Passed, ◌and◌, answered-behind, answered-taken, served_bounds, reaches_le}
use Rattle.tape_words.specs.Words.{bytes_of, words_for}
use Rattle.tape_words.proofs.WordsLaws.{reach_words}
use Rattle.tape_words.proofs.FrontLaws.{unpack_fits, made_on_words}
use Rattle.masking.specs.Fits.{FactorsFit}
use Rattle.masking.specs.Calls.{two_fit, factor_served, factor_tests}

pub two_fit_lengths : (d a b : ℕ) → two_fit d a b ≡ true → (a ≡ suc d) × (b ≡ suc d)
unfolding two_fit
two_fit_lengths d a b e =
    let h = and_true (eqb a (suc d)) (eqb b (suc d)) e in
    (eqb-true a (suc d) h.0, eqb-true b (suc d) h.1)

-- the room counts only where the order is served
pub factors_answered : (room' room d a b t o : ℕ) (k : Count) (q : Answer) → (served d ≡ true → room' ≡ room)
    → q ≡ answered (factor_tests room' d a b t o) k → q ≡ answered (factor_tests room d a b t o) k
factors_answered room' room d a b t o k q same e =
    e ∙ answered-behind Order (served d) _ _ k (λ u. ap (λ (n : ℕ). factor_served n d a b t o) (same u))

-- the room that was found, of the tests behind the order's
pub factors-room : {room' : ℕ} (room d a b t o : ℕ) (k : Count) (q : Answer) → room' ≡ room
    → q ≡ answered (factor_served room' d a b t o) k → q ≡ answered (factor_served room d a b t o) k
factors-room room d a b t o k q same e = e ∙ ap (λ (n : ℕ). answered (factor_served n d a b t o) k) same

-- a call that is let through by the tests behind the order's, at any order
pub record FactorsServed (room d a b t o : ℕ) : Type 0 where
  pub left : a ≡ suc d
  pub right : b ≡ suc d
  pub output : o ≡ room
  pub drawn : words_for (product_need d) ≤ t

pub factors_served-passed : (room d a b t o : ℕ) → Passed (factor_served room d a b t o) → FactorsServed room d a b t o
factors_served-passed room d a b t o (i and r and n and p) =
    let f = two_fit_lengths d a b i in
    record { left = f.0; right = f.1; output = eqb-true o room r; drawn = reaches_le t _ n }

pub factors_served-through : (room d a b t o : ℕ) (q : Answer) (k c : Count) → q ≡ answered (factor_served room d a b t o) k → q ≡ Ok c
    → FactorsServed room d a b t o
factors_served-through room d a b t o q k c e f = factors_served-passed room d a b t o (answered-taken _ k c (sym e ∙ f)).0

-- by all of them
pub record FactorsThrough (room d a b t o : ℕ) : Type 0 where
  pub order : d ≤ 8
  pub left : a ≡ suc d
  pub right : b ≡ suc d
  pub output : o ≡ room
  pub drawn : words_for (product_need d) ≤ t

pub factors_passed : (room d a b t o : ℕ) → Passed (factor_tests room d a b t o) → FactorsThrough room d a b t o
factors_passed room d a b t o (u and p) =
    let s = factors_served-passed room d a b t o p in
    record { order = (served_bounds d u).1; left = s.left; right = s.right; output = s.output; drawn = s.drawn }

pub factors_through : (room d a b t o : ℕ) (q : Answer) (k c : Count) → q ≡ answered (factor_tests room d a b t o) k → q ≡ Ok c
    → FactorsThrough room d a b t o
factors_through room d a b t o q k c e f = factors_passed room d a b t o (answered-taken _ k c (sym e ∙ f)).0

-- ---- a call on two factors, on a tape of words: what is unpacked for it

module _ (d n : ℕ) (a b ws : List ℕ) (fit : FactorsFit d a b (bytes_of ws)) (need : n ≡ product_need d) (small : n ≤ 36) where
  words_there : words_for (product_need d) ≤ length ws
  words_there = reach_words (product_need d) ws fit.drawn

  -- into 36 bytes
  pub factors_unpack : (words_for n ≤ length ws) × (4 * words_for n ≤ 36)
  factors_unpack = unpack_fits n (product_need d) 9 ws need words_there (omega arith)

  pub factors_unpacked : (drawn : List ℕ) → length drawn ≡ 36 → FactorsFit d a b drawn
  factors_unpacked drawn long =
      record { left = fit.left; right = fit.right; drawn = omega (arith, long) }

  pub factors_made : (f : List ℕ → List ℕ) → ((ts us : List ℕ) → product_need d ≤ length ts → f (ts ++ us) ≡ f ts) → (o drawn q : List ℕ)
      → drawn ≡ front (take (4 * words_for n) (bytes_of ws)) o → q ≡ f drawn → q ≡ f (bytes_of ws)
  factors_made f surplus o drawn q = made_on_words f (product_need d) surplus n ws o drawn q need words_there
