-- What the tests of a call say, and what is known of a call that they let through. Assumes nothing.
use mathlib.Core.Path.{◌≡◌, refl, sym, ap, ◌∙◌, subst}
use mathlib.Core.Bool.{true}
use mathlib.Core.List.{List}
use Prim.Native.Nat.{ℕ, zero, suc, ◌*◌, ◌≤◌, ◌<◌}
use native.Mathlib.Omega.{arith}
use borrow.Author.Tests.{eqb-true, ltb-true, lt-ltb, le-ltb}
use Rattle.outcomes.specs.declared.Refusal.TheVariants.{Key}
use Rattle.outcomes.specs.declared.Count.{Count}
use Rattle.outcomes.specs.Outcome.{Answer}
use Rattle.std.specs.Prelude.{Option, Some, None, IfSome, IfNone, IsSome, Result, Ok, Err}
use Rattle.std.specs.Option.{ok_or}
use Rattle.lengths.specs.declared.key.KeyWords.{KeyWords}
use Rattle.outcomes.specs.declared.Refusal.{Refusal}
use Rattle.outcomes.specs.Outcome.{Test, answered, took, served}
use Rattle.outcomes.proofs.OutcomeLaws.{Passed, ◌and◌, answered_here, answered_next, answered-taken, served_bounds, reaches_le}
use Rattle.tape_words.specs.Words.{words_for}
use Rattle.cipher.specs.Cipher.{schedule_need}
use Rattle.lengths.specs.Lengths.{key_words, prepared_length}
use Rattle.lengths.specs.Previews.{keyed, keyed_served, block_tests, preparation_served, preparation_tests}

-- ---- the order and the key, as the code tests them: nk words were found

pub some_words : (n nk : ℕ) → n ≡ nk → (n ≡ 0 → ⊥) → 0 < nk
some_words zero nk e h = absurd (h (omega arith))
some_words (suc n) nk e h = omega arith

-- a size that was looked up, behind `ok_or(..)?`
pub size-known : (o : Option KeyWords) (n : ℕ) (k : KeyWords) → IfSome o (λ k. k.nk ≡ n) → o ≡ Some k → k.nk ≡ n
size-known None n k h e = absurd (cc)
size-known (Some j) n k h e = let z : j ≡ k = cc in subst (λ (i : KeyWords). i.nk ≡ n) z h

pub size-there : (o : Option KeyWords) (n : ℕ) → IfNone o (n ≡ 0) → 0 < n → IsSome o
size-there None n h p = absurd (omega arith)
size-there (Some j) n h p = refl

pub size-found : (o : Option KeyWords) (r : Refusal) (q : Result KeyWords Refusal) (n : ℕ) (k : KeyWords)
    → q ≡ ok_or o r → IfSome o (λ k. k.nk ≡ n) → q ≡ Ok k → k.nk ≡ n
size-found None r q n k e h f = absurd (cc)
size-found (Some j) r q n k e h f = let z : j ≡ k = cc in subst (λ (i : KeyWords). i.nk ≡ n) z h

pub size-missing : (o : Option KeyWords) (r : Refusal) (q : Result KeyWords Refusal) (n : ℕ) (s : Refusal)
    → q ≡ ok_or o r → IfNone o (n ≡ 0) → q ≡ Err s → (n ≡ 0) × (s ≡ r)
size-missing None r q n s e h f = (h, cc)
size-missing (Some j) r q n s e h f = absurd (cc)

module _ (nk : ℕ) (ts : List Test) (k : Count) where
  pub keyed-none : nk ≡ 0 → Err Key ≡ answered (keyed_served nk ts) k
  keyed-none z = answered_here _ _ _ k (le-ltb 0 nk (omega arith))

  pub keyed-some : (n : ℕ) (a : Answer) → n ≡ nk → 4 ≤ n → a ≡ answered ts k → a ≡ answered (keyed_served nk ts) k
  keyed-some n a e h f = answered_next _ _ _ k (lt-ltb 0 nk (omega arith)) f

-- ---- a call that is let through

-- for a block, with a key of nk words: by the tests behind the order's, at any order
pub record BlockServed (nk need d x t o : ℕ) : Type 0 where
  pub some : 0 < nk
  pub input : x ≡ suc d * 16
  pub output : o ≡ suc d * 16
  pub drawn : need ≤ t

pub block_served-passed : (nk need d x t o : ℕ) → Passed (keyed_served nk (block_tests need d x t o)) → BlockServed nk need d x t o
block_served-passed nk need d x t o (y and i and r and n and p) = record {
  some = ltb-true 0 nk y;
  input = eqb-true x (suc d * 16) i;
  output = eqb-true o (suc d * 16) r;
  drawn = reaches_le t need n;
}

pub block_served-through : (nk need d x t o : ℕ) (a : Answer) (k c : Count) → a ≡ answered (keyed_served nk (block_tests need d x t o)) k → a ≡ Ok c
    → BlockServed nk need d x t o
block_served-through nk need d x t o a k c e f = block_served-passed nk need d x t o (answered-taken _ k c (sym e ∙ f)).0

-- by all of them
pub record BlockThrough (nk need d x t o : ℕ) : Type 0 where
  pub served_order : served d ≡ true
  pub order : d ≤ 8
  pub some : 0 < nk
  pub input : x ≡ suc d * 16
  pub output : o ≡ suc d * 16
  pub drawn : need ≤ t

pub block_passed : (nk need d x t o : ℕ) → Passed (keyed d nk (block_tests need d x t o)) → BlockThrough nk need d x t o
block_passed nk need d x t o (u and p) =
    let s = block_served-passed nk need d x t o p in
    record { served_order = u; order = (served_bounds d u).1; some = s.some; input = s.input; output = s.output; drawn = s.drawn }

pub block_through : (nk need d x t o : ℕ) (a : Answer) (k c : Count) → a ≡ answered (keyed d nk (block_tests need d x t o)) k → a ≡ Ok c
    → BlockThrough nk need d x t o
block_through nk need d x t o a k c e f = block_passed nk need d x t o (answered-taken _ k c (sym e ∙ f)).0

-- for a preparation, likewise
pub record PreparationServed (d k t o : ℕ) : Type 0 where
  pub some : 0 < key_words d k
  pub output : o ≡ prepared_length (key_words d k) d
  pub drawn : words_for (schedule_need (key_words d k) d) ≤ t

pub preparation_served-passed : (d k t o : ℕ) → Passed (preparation_served d k t o) → PreparationServed d k t o
preparation_served-passed d k t o (y and r and n and p) = record {
  some = ltb-true 0 (key_words d k) y;
  output = eqb-true o (prepared_length (key_words d k) d) r;
  drawn = reaches_le t (words_for (schedule_need (key_words d k) d)) n;
}

pub preparation_served-through : (d k t o : ℕ) (a : Answer) (n c : Count) → a ≡ answered (preparation_served d k t o) n → a ≡ Ok c
    → PreparationServed d k t o
preparation_served-through d k t o a n c e f = preparation_served-passed d k t o (answered-taken _ n c (sym e ∙ f)).0

pub record PreparationThrough (d k t o : ℕ) : Type 0 where
  pub served_order : served d ≡ true
  pub order : d ≤ 8
  pub some : 0 < key_words d k
  pub output : o ≡ prepared_length (key_words d k) d
  pub drawn : words_for (schedule_need (key_words d k) d) ≤ t

pub preparation_passed : (d k t o : ℕ) → Passed (preparation_tests d k t o) → PreparationThrough d k t o
preparation_passed d k t o (u and p) =
    let s = preparation_served-passed d k t o p in
    record { served_order = u; order = (served_bounds d u).1; some = s.some; output = s.output; drawn = s.drawn }

pub preparation_through : (d k t o : ℕ) (a : Answer) (n c : Count) → a ≡ answered (preparation_tests d k t o) n → a ≡ Ok c
    → PreparationThrough d k t o
preparation_through d k t o a n c e f = preparation_passed d k t o (answered-taken _ n c (sym e ∙ f)).0

-- ---- the answer to what was worked out for the key that was found: b bytes, w words

pub block_answered : (n nk d x t o b w : ℕ) (need : (nk : ℕ) → ℕ) (a : Answer) → n ≡ nk → b ≡ need n → w ≡ words_for b
    → a ≡ answered (block_tests w d x t o) (took w) → a ≡ answered (block_tests (words_for (need nk)) d x t o) (took (words_for (need nk)))
block_answered n nk d x t o b w need a e g h f =
    f ∙ ap (λ (m : ℕ). answered (block_tests m d x t o) (took m)) (h ∙ ap words_for (g ∙ ap need e))
