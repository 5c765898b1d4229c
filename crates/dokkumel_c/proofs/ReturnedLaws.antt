-- Laws of what C gets back. Assumes nothing.
use mathlib.Core.Path.{◌≡◌, refl, ap, sym, ◌∙◌}
use mathlib.Core.Bool.{Bool, true, false, cond}
use mathlib.Core.List.{List, []}
use Prim.Native.Nat.{ℕ, ◌-◌, ◌≤◌, ◌<◌}
use native.Mathlib.Omega.{arith}
use lib.Dec.{ltb}
use lib.ListN.{length, drop, length-drop, drop_of_length-le}
use borrow.Author.Tests.{ltb-true, ltb-false}
use Rattle.outcomes.specs.declared.Count.{Count}
use Rattle.outcomes.specs.Outcome.{Answer}
use Rattle.std.specs.Prelude.{Ok, Err}
use Rattle.outcomes.specs.Outcome.{Outcome, Test, answered, ended, settled}
use Rattle.shares.specs.Calls.{unused}
use Rattle.dokkumel_c.specs.Returned.{Returned, gives, returned, unused_start}

-- what a wrapper gives is its routine's outcome
pub handed_on : (t : ℕ) {a b : Outcome} {x : Returned} → a ≡ b → x ≡ returned a t → x ≡ returned b t
handed_on t e g = g ∙ ap (λ (o : Outcome). returned o t) e

-- ---- previews

-- a call and its preview have the same tests, so they return the same status and the same count, from the same value behind `taken`
pub preview_returns : (ts : List Test) (k : Count) (o made q : List ℕ) (t s n s' n' : ℕ)
    → gives s n q ≡ returned (settled ts k o made) t → gives s' n' [] ≡ returned (settled ts k [] []) t → (s ≡ s') × (n ≡ n')
unfolding settled
preview_returns ts k o made q t s n s' n' f g = go (answered ts k) f g
  where
    go : (a : Answer) → gives s n q ≡ returned (ended a o made) t → gives s' n' [] ≡ returned (ended a [] []) t → (s ≡ s') × (n ≡ n')
    go (Ok c) f g = (
      ap (λ (x : Returned). x.status) f ∙ sym (ap (λ (x : Returned). x.status) g),
      ap (λ (x : Returned). x.taken) f
          ∙ sym (ap (λ (x : Returned). x.taken) g),
    )
    go (Err r) f g = (
      ap (λ (x : Returned). x.status) f ∙ sym (ap (λ (x : Returned). x.status) g),
      ap (λ (x : Returned). x.taken) f
          ∙ sym (ap (λ (x : Returned). x.taken) g),
    )

-- ---- unused tape

-- the rest is no longer than the tape
pub rest_fits : (ts : List ℕ) (k : ℕ) → length (unused ts k) ≤ length ts
unfolding unused
rest_fits ts k = omega (arith, length-drop k ts)

-- the tape without the rest is what lies before its start
pub before_rest : (ts : List ℕ) (k : ℕ) → length ts - length (unused ts k) ≡ unused_start ts k
unfolding unused unused_start
before_rest ts k =
    ap (λ (m : ℕ). length ts - m) (length-drop k ts) ∙ either (ltb (length ts) k) (length ts) k (ltb-true (length ts) k) (ltb-false (length ts) k)
  where
    either : (b : Bool) (l k : ℕ) → (b ≡ true → l < k) → (b ≡ false → k ≤ l) → l - (l - k) ≡ cond b l k
    either true l k past within = let h = past refl in omega arith
    either false l k past within = let h = within refl in omega arith

-- the tape from there on is the slice that `unused_tape` hands back
pub from_start : (ts : List ℕ) (k : ℕ) → drop (unused_start ts k) ts ≡ unused ts k
unfolding unused unused_start
from_start ts k = either (ltb (length ts) k) (ltb-true (length ts) k)
  where
    either : (b : Bool) → (b ≡ true → length ts < k) → drop (cond b (length ts) k) ts ≡ drop k ts
    either true past = let h = past refl in drop_of_length-le ts {i = length ts} (omega arith) ∙ sym (drop_of_length-le ts {i = k} (omega arith))
    either false past = refl
