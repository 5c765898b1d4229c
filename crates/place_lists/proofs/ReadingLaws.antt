-- The outcome of a reading of any sheet: from the answer of the list's own tests, and behind the making of the sheet. Assumes nothing.
use mathlib.Core.Path.{◌≡◌, refl, sym, ap, ap₂, ◌∙◌}
use mathlib.Core.Bool.{Bool, true, false, cond}
use mathlib.Core.List.{List, [], ◌∷◌, ◌++◌}
use Prim.Native.Nat.{ℕ, ◌≤◌}
use borrow.Author.Tests.{eq-eqb, eqb-true}
use native.Mathlib.Omega.{arith}
use lib.Dec.{eqb}
use lib.ListN.{length}
use Rattle.xor.specs.Lists.{Below}
use Rattle.xor.proofs.Tests.{true_false}
use Rattle.isw.specs.Place.{listed}
use Rattle.outcomes.specs.declared.Refusal.{Refusal}
use Rattle.outcomes.specs.declared.Refusal.TheVariants.{Order, Input, Output, Tape}
use Rattle.outcomes.specs.declared.Count.{Count}
use Rattle.outcomes.specs.Outcome.{Answer}
use Rattle.std.specs.Prelude.{Ok, Err, IsErrAnd}
use Rattle.outcomes.specs.Outcome.{done, outcome, Test, test, answered, settled}
use Rattle.outcomes.proofs.OutcomeLaws.{Passed, all, ◌and◌, answered-taken, outcome_answer, le_reaches}
use Rattle.outcomes.proofs.OutcomeLaws.{settled-past, settled-passed, settled-refused, settled-handed, settled-done, settled-taken}
use Rattle.place_lists.specs.Listed.{all_below, listed_tests, made_tests, listed_outcome}
use Rattle.place_lists.proofs.ListedLaws.{all_below_true}

-- ---- tests behind tests

passed_both : {ts us : List Test} → Passed ts → Passed us → Passed (ts ++ us)
passed_both all q = q
passed_both (e and p) q = e and passed_both p q

-- tests that pass leave it to those behind them
settled-behind : {ts : List Test} (us : List Test) (k : Count) (o made : List ℕ) → Passed ts → settled (ts ++ us) k o made ≡ settled us k o made
settled-behind us k o made all = refl
settled-behind us k o made (e and p) = settled-past _ _ k o made e ∙ settled-behind us k o made p

-- ---- from the answer of the list's own tests

module _ (k : Count) (d : ℕ) (bs ps o : List ℕ) (below : Bool) (so : below ≡ all_below (length bs) ps) (answer : Answer)
    (asked : answer ≡ answered (listed_tests d (length ps) (length o) below) k) where
  -- the tests with what was found
  abbrev own : List Test
  own = listed_tests d (length ps) (length o) (all_below (length bs) ps)

  own_answered : answer ≡ answered own k
  own_answered = asked ∙ ap (λ (y : Bool). answered (listed_tests d (length ps) (length o) y) k) so

  pub listed-handed : (r : Refusal) → answer ≡ Err r → (q : Answer) → IsErrAnd q (λ s. s ≡ r) → outcome q o ≡ listed_outcome [] (length bs) k d bs ps o
  unfolding listed_outcome
  listed-handed = settled-handed own k o _ answer own_answered

  module _ (c : Count) (through : answer ≡ Ok c) where
    known : Passed own × (c ≡ k)
    known = answered-taken own k c (sym own_answered ∙ through)

    -- what the picking of the bytes may rely on
    pub listed-fits : (length o ≡ length ps) × (all_below (length bs) ps ≡ true)
    listed-fits = go known.0
      where
        go : Passed own → (length o ≡ length ps) × (all_below (length bs) ps ≡ true)
        go (r and f and y and p) = (eqb-true (length o) (length ps) r, y)

    pub listed-done : (x : List ℕ) → x ≡ listed bs ps → outcome (Ok c) x ≡ listed_outcome [] (length bs) k d bs ps o
    unfolding listed_outcome
    listed-done x e = settled-done own k o _ answer own_answered c c x through known.1 e

-- ---- what the outcome says

-- first tests that pass leave it to the list's own
pub listed-behind : {first : List Test} (m : ℕ) (k : Count) (d : ℕ) (bs ps o : List ℕ)
    → Passed first → listed_outcome first m k d bs ps o ≡ listed_outcome [] m k d bs ps o
unfolding listed_outcome
listed-behind m k d bs ps o p = settled-behind _ k o _ p

-- a reading whose tests pass is carried through, and puts out the sheet at the listed places
pub listed_carried : {first : List Test} (m : ℕ) (k : Count) (d : ℕ) (bs ps o : List ℕ)
    → Passed first → length o ≡ length ps → length ps ≤ d → Below m ps → listed_outcome first m k d bs ps o ≡ done k (listed bs ps)
unfolding listed_outcome
listed_carried m k d bs ps o p room few below =
    settled-passed k o _
    (passed_both p (eq-eqb (length o) (length ps) room and le_reaches d (length ps) few and all_below_true m below and all))

-- and what is carried through put that out
pub listed_shows : (first : List Test) (m : ℕ) (k : Count) (d : ℕ) (bs ps o : List ℕ) (c : Count) (q : List ℕ)
    → listed_outcome first m k d bs ps o ≡ done c q → (c ≡ k) × (q ≡ listed bs ps)
unfolding listed_outcome
listed_shows first m k d bs ps o c q e = let g = settled-taken _ k o _ c q e in (g.1, g.2)

-- ---- behind the making of the sheet

never : (r : Refusal) (k : Count) → Ok k ≡ Err r → ⊥
never r k e = let z : ◌≡◌ {A = ℕ} 0 1 = cc in omega arith

-- a refusal of the sheet, where its output has the room, is one of the reading
handed : (u f g t : Bool) (next : Answer) (k : Count) (r : Refusal) → (u ≡ true → g ≡ true)
    → Err r ≡ cond u (cond f (cond g (cond t (Ok k) (Err Tape)) (Err Output)) (Err Input)) (Err Order)
    → Err r ≡ cond u (cond f (cond t next (Err Tape)) (Err Input)) (Err Order)
handed false f g t next k r h e = e
handed true false g t next k r h e = e
handed true true false t next k r h e = absurd (true_false (sym (h refl)))
handed true true true false next k r h e = e
handed true true true true next k r h e = absurd (never r k (sym e))

-- the sheet bs was asked for at s, and the answer is `made`, with q at the sheet. Its tests: the order is served (u), the inputs fit (f), the output
-- has room for the sheet, the tape reaches (t)
module _ (u f t : Bool) (size : ℕ) (k : Count) (d : ℕ) (bs ps o s q : List ℕ) (made : Answer)
    (told : outcome made q ≡ settled (test Order u ∷ test Input f ∷ test Output (eqb (length s) size) ∷ test Tape t ∷ []) k s bs) where
  abbrev making : List Test
  making = test Order u ∷ test Input f ∷ test Output (eqb (length s) size) ∷ test Tape t ∷ []

  sheet-answered : made ≡ answered making k
  unfolding settled
  sheet-answered = outcome_answer made _ q s bs told

  -- a refusal is handed up
  pub reading_handed : (u ≡ true → length s ≡ size) → (r : Refusal) → made ≡ Err r
      → outcome made o ≡ listed_outcome (made_tests u f t) size k d bs ps o
  unfolding listed_outcome answered
  reading_handed room r e =
      settled-refused (made_tests u f t ++ listed_tests d (length ps) (length o) (all_below size ps)) k o _ made
      (e ∙ handed u f (eqb (length s) size) t _ k r (λ served. eq-eqb (length s) size (room served)) (sym e ∙ sheet-answered)) r e

  -- a sheet that is made is read: what is left are the list's own tests, and q is the sheet
  pub reading_made : (f ≡ true → length bs ≡ size) → (c : Count) → made ≡ Ok c
      → listed_outcome [] (length q) c d q ps o ≡ listed_outcome (made_tests u f t) size k d bs ps o
  reading_made long c taken =
      let g = settled-taken making k s bs c q (sym told ∙ ap (λ (y : Answer). outcome y q) taken) in
      behind g.0 g.1 g.2
    where
      behind : Passed making → c ≡ k → q ≡ bs → listed_outcome [] (length q) c d q ps o ≡ listed_outcome (made_tests u f t) size k d bs ps o
      behind (served and fit and room and reached and p) same shown =
          ap₂ (λ (n : Count) (l : List ℕ). listed_outcome [] (length l) n d l ps o) same shown
          ∙ ap (λ (m : ℕ). listed_outcome [] m k d bs ps o) (long fit)
          ∙ sym (listed-behind size k d bs ps o (served and fit and reached and all))
