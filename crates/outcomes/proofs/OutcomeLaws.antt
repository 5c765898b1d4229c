-- What the tests of a call decide: one induction over their list gives its answer, and what a call that was let through may rely on.
-- Assumes nothing.
use mathlib.Core.Path.{◌≡◌, refl, sym, ap, ap₂, ◌∙◌, subst}
use mathlib.Core.Bool.{Bool, true, false, cond, not}
use mathlib.Core.List.{List, [], ◌∷◌}
use Prim.Native.Nat.{ℕ, ◌≤◌, ◌<◌}
use native.Mathlib.Omega.{arith}
use lib.Dec.{ltb, eqb}
use borrow.Author.Tests.{ltb-true, ltb-false, le-ltb, lt-ltb}
use Rattle.xor.proofs.Tests.{and_true}
use Rattle.outcomes.specs.declared.Refusal.{Refusal}
use Rattle.outcomes.specs.declared.Refusal.TheVariants.{Order, Key, Input, Output, Tape, List as Listed, Place}
use Rattle.outcomes.specs.declared.Count.{Count}
use Rattle.outcomes.specs.Outcome.{Answer}
use Rattle.std.specs.Prelude.{Result, Ok, Err, IsErrAnd}
use Rattle.std.proofs.lemmas.Result.{err_from_is_err_and}
use Rattle.outcomes.specs.Outcome.{done, refused, number, outcome, Test, test, answered, ended, settled, served, order_served, reaches}

never : (r : Refusal) (k : Count) → Err r ≡ Ok k → ⊥
never r k e = let z : ◌≡◌ {A = ℕ} 0 1 = cc in omega arith

not_done : (n : ℕ) (o : List ℕ) (k : Count) (q : List ℕ) → refused n o ≡ done k q → ⊥
not_done n o k q e = let z : ◌≡◌ {A = ℕ} 0 1 = cc in omega arith

-- ---- one test after another

module _ (r : Refusal) (b : Bool) (ts : List Test) (k : Count) where
  -- a test that fails is the answer
  pub answered_here : b ≡ false → Err r ≡ answered (test r b ∷ ts) k
  unfolding answered
  answered_here e = simp e

  -- a test that passes leaves it to the others
  pub answered_next : {a : Answer} → b ≡ true → a ≡ answered ts k → a ≡ answered (test r b ∷ ts) k
  unfolding answered
  answered_next e f = simp (e, f)

-- what the others ask counts only where it passes
pub answered-behind : (r : Refusal) (b : Bool) (ts ts' : List Test) (k : Count) → (b ≡ true → ts ≡ ts')
    → answered (test r b ∷ ts) k ≡ answered (test r b ∷ ts') k
unfolding answered
answered-behind r true ts ts' k same = ap (λ (l : List Test). answered l k) (same refl)
answered-behind r false ts ts' k same = refl

pub answered-none : (k : Count) → Ok k ≡ answered [] k
unfolding answered
answered-none k = refl

-- ---- a call that is let through

-- every test passes
infixr 5 ◌and◌
pub data Passed : List Test → Type 0 where
  all : Passed []
  ◌and◌ : {t : Test} {ts : List Test} → t.passed ≡ true → Passed ts → Passed (t ∷ ts)

pub first_passed : {t : Test} {ts : List Test} → Passed (t ∷ ts) → t.passed ≡ true
first_passed (e and p) = e

pub others_passed : {t : Test} {ts : List Test} → Passed (t ∷ ts) → Passed ts
others_passed (e and p) = p

-- then it is counted
pub answered-passed : {ts : List Test} (k : Count) → Passed ts → answered ts k ≡ Ok k
unfolding answered
answered-passed k all = refl
answered-passed k (e and p) = simp (e, answered-passed k p)

-- and only then
one_taken : (t : Test) (ts : List Test) (k c : Count) (b : Bool) → t.passed ≡ b → (answered ts k ≡ Ok c → Passed ts × (c ≡ k))
    → cond b (answered ts k) (Err t.refusal) ≡ Ok c → Passed (t ∷ ts) × (c ≡ k)
one_taken t ts k c true p rest e = let h = rest e in (p and h.0, h.1)
one_taken t ts k c false p rest e = absurd (never t.refusal c e)

pub answered-taken : (ts : List Test) (k c : Count) → answered ts k ≡ Ok c → Passed ts × (c ≡ k)
unfolding answered
answered-taken [] k c e = (all, cc)
answered-taken (t ∷ ts) k c e = one_taken t ts k c t.passed refl (answered-taken ts k c) e

-- ---- the outcome, from the answer of the code's own tests

module _ (ts : List Test) (k : Count) (o made : List ℕ) (a : Answer) (e : a ≡ answered ts k) where
  -- a refusal is the call's
  pub settled-refused : (r : Refusal) → a ≡ Err r → outcome a o ≡ settled ts k o made
  unfolding settled
  settled-refused r f = ap (λ (x : Answer). outcome x o) f ∙ ap (λ (x : Answer). ended x o made) (sym f ∙ e)

  -- a call that is let through is done
  pub settled-done : (c j : Count) (q : List ℕ) → a ≡ Ok c → j ≡ k → q ≡ made → done j q ≡ settled ts k o made
  unfolding settled
  settled-done c j q f p s =
      ap₂ done (p ∙ sym (answered-taken ts k c (sym e ∙ f)).1) s ∙ ap (λ (x : Answer). ended x o made) (sym f ∙ e)

-- a preview: what is not written stays either way
-- the exit of a `?`: the refusal is handed up as it is
pub handed_up : (q : Answer) (r : Refusal) → IsErrAnd q (λ s. s ≡ r) → q ≡ Err r
handed_up q r h = let p = err_from_is_err_and q h in p.1 ∙ ap Err p.2

pub settled-handed : (ts : List Test) (k : Count) (o made : List ℕ) (a : Answer) → a ≡ answered ts k → (r : Refusal) → a ≡ Err r
    → (q : Answer) → IsErrAnd q (λ s. s ≡ r) → outcome q o ≡ settled ts k o made
settled-handed ts k o made a e r f q h =
    ap (λ (x : Answer). outcome x o) (handed_up q r h ∙ sym f) ∙ settled-refused ts k o made a e r f

pub settled_same : (ts : List Test) (k : Count) (q : List ℕ) (a : Answer) → a ≡ answered ts k → outcome a q ≡ settled ts k q q
unfolding settled
settled_same ts k q a e = unwritten a ∙ ap (λ (x : Answer). ended x q q) e
  where
    unwritten : (a : Answer) → outcome a q ≡ ended a q q
    unwritten (Ok c) = refl
    unwritten (Err r) = refl

-- a test that passes leaves it to the others
pub settled-past : (t : Test) (ts : List Test) (k : Count) (o made : List ℕ) → t.passed ≡ true → settled (t ∷ ts) k o made ≡ settled ts k o made
unfolding settled answered
settled-past t ts k o made e = simp e

-- a call whose tests pass is done
pub settled-passed : {ts : List Test} (k : Count) (o made : List ℕ) → Passed ts → settled ts k o made ≡ done k made
unfolding settled
settled-passed k o made p = ap (λ (x : Answer). ended x o made) (answered-passed k p)

-- what is known of a call that is done
pub settled-taken : (ts : List Test) (k : Count) (o made : List ℕ) (c : Count) (q : List ℕ) → settled ts k o made ≡ done c q
    → Passed ts × (c ≡ k) × (q ≡ made)
unfolding settled
settled-taken ts k o made c q e = go (answered ts k) refl e
  where
    go : (a : Answer) → answered ts k ≡ a → ended a o made ≡ done c q → Passed ts × (c ≡ k) × (q ≡ made)
    go (Ok j) p e =
        let h = answered-taken ts k j p in
        let z : c ≡ j = cc in
        (h.0, z ∙ h.1, cc)
    go (Err r) p e = absurd (not_done (number r) o c q e)

-- ---- an outcome tells the answer

-- the refusal that a number stands for
abbrev refusal : ℕ → Refusal
refusal n = cond (eqb n 1) Order
    (cond (eqb n 2) Key (cond (eqb n 3) Input (cond (eqb n 4) Output (cond (eqb n 5) Tape (cond (eqb n 6) Listed Place)))))

-- no two refusals have one number
refusal-number : (r : Refusal) → refusal (number r) ≡ r
refusal-number Order = refl
refusal-number Key = refl
refusal-number Input = refl
refusal-number Output = refl
refusal-number Tape = refl
refusal-number Listed = refl
refusal-number Place = refl

pub outcome_answer : (a b : Answer) (q o made : List ℕ) → outcome a q ≡ ended b o made → a ≡ b
outcome_answer (Ok k) (Ok j) q o made e = let z : k ≡ j = cc in ap Ok z
outcome_answer (Ok k) (Err r) q o made e = absurd (not_done (number r) o k q (sym e))
outcome_answer (Err r) (Ok k) q o made e = absurd (not_done (number r) q k made e)
outcome_answer (Err r) (Err s) q o made e =
    let z : number r ≡ number s = cc in ap Err (sym (refusal-number r) ∙ ap refusal z ∙ refusal-number s)

-- ---- what is asked

pub served_bounds : (d : ℕ) → served d ≡ true → (1 ≤ d) × (d ≤ 8)
unfolding served
served_bounds d e =
    let h = and_true (ltb 0 d) (ltb d 9) e in
    let low = ltb-true 0 d h.0 in
    let high = ltb-true d 9 h.1 in
    (omega arith, omega arith)

-- what is known of an order that was found to be served, and of one that was not
pub order_served-ok : (order d : ℕ) → order_served order ≡ Ok d → (order ≡ d) × (served d ≡ true)
unfolding order_served
order_served-ok order d e = go (served order) refl e
  where
    go : (b : Bool) → served order ≡ b → ◌≡◌ {A = Result ℕ Refusal} (cond b (Ok order) (Err Order)) (Ok d) → (order ≡ d) × (served d ≡ true)
    go true p e = let z : order ≡ d = cc in (z, sym (ap served z) ∙ p)
    go false p e = absurd (cc)

pub order_served-err : (order : ℕ) (r : Refusal) → order_served order ≡ Err r → (served order ≡ false) × (r ≡ Order)
unfolding order_served
order_served-err order r e = go (served order) refl e
  where
    go : (b : Bool) → served order ≡ b → ◌≡◌ {A = Result ℕ Refusal} (cond b (Ok order) (Err Order)) (Err r) → (served order ≡ false) × (r ≡ Order)
    go true p e = absurd (cc)
    go false p e = (p, cc)

-- the answer of all tests, where the order is not served, and from that of the tests behind its own
pub answered-unserved : (order : ℕ) (ts : List Test) (k : Count) (r : Refusal) → order_served order ≡ Err r
    → (q : Answer) → IsErrAnd q (λ s. s ≡ r) → q ≡ answered (test Order (served order) ∷ ts) k
answered-unserved order ts k r e q h =
    let n = order_served-err order r e in handed_up q r h ∙ ap Err n.1 ∙ answered_here Order (served order) ts k n.0

pub answered-served : (order d : ℕ) (ts : ℕ → List Test) (k : ℕ → Count) (a : Answer) → order_served order ≡ Ok d
    → a ≡ answered (ts d) (k d) → a ≡ answered (test Order (served order) ∷ ts order) (k order)
answered-served order d ts k a e f =
    let n = order_served-ok order d e in
    subst (λ (o : ℕ). a ≡ answered (test Order (served o) ∷ ts o) (k o)) (sym n.0) (answered_next Order (served d) (ts d) (k d) n.1 f)

-- the exit of the `?` behind it: the call is refused
pub settled-unserved : (order : ℕ) (ts : List Test) (k : Count) (o made : List ℕ) (r : Refusal) → order_served order ≡ Err r
    → (q : Answer) → IsErrAnd q (λ s. s ≡ r) → outcome q o ≡ settled (test Order (served order) ∷ ts) k o made
settled-unserved order ts k o made r e q h =
    let n = order_served-err order r e in
    settled-handed (test Order (served order) ∷ ts) k o made (Err Order) (answered_here Order (served order) ts k n.0) r (ap Err (sym n.1)) q h

pub reaches_le : (t n : ℕ) → reaches t n ≡ true → n ≤ t
reaches_le t n e = go (ltb t n) refl e
  where
    go : (b : Bool) → ltb t n ≡ b → not b ≡ true → n ≤ t
    go true p e = absurd (let z : ◌≡◌ {A = ℕ} 0 1 = cc in omega arith)
    go false p e = ltb-false t n p

pub le_reaches : (t n : ℕ) → n ≤ t → reaches t n ≡ true
le_reaches t n h = ap not (le-ltb t n h)

pub lt_reaches : (t n : ℕ) → t < n → reaches t n ≡ false
lt_reaches t n h = ap not (lt-ltb t n h)
