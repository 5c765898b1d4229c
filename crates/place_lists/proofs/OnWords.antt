-- On the same bytes, a reading of any sheet is as it was on a tape of bytes (document 02, wish 6). Assumes nothing.
use mathlib.Core.Path.{◌≡◌, ap}
use mathlib.Core.Bool.{Bool, true}
use mathlib.Core.List.{List, ◌++◌}
use Prim.Native.Nat.{ℕ, ◌≤◌}
use lib.ListN.{length}
use Rattle.isw.specs.Place.{listed}
use Rattle.outcomes.specs.Outcome.{Test, took, reaches}
use Rattle.outcomes.proofs.OutcomeLaws.{Passed, ◌and◌, reaches_le}
use Rattle.tape_words.specs.Words.{bytes_of, words_for}
use Rattle.shares.specs.OnWords.{AsOnBytes}
use Rattle.shares.proofs.OnWordsLaws.{longer_reaches, on_words}
use Rattle.place_lists.specs.Listed.{all_below, listed_tests, made_tests, listed_outcome}

-- the order is served (u), the inputs fit (f); the sheet is `made` of the bytes of the tape, and draws `need` of them
module _ (u f : Bool) (need m d : ℕ) (made : (bytes : List ℕ) → List ℕ) (ps o : List ℕ) where
  -- the tests of a reading, by the tape's length
  abbrev tests : (t : ℕ) → List Test
  tests t = made_tests u f (reaches t (words_for need)) ++ listed_tests d (length ps) (length o) (all_below m ps)

  reach : (t : ℕ) → Passed (tests t) → words_for need ≤ t
  reach t (v and i and n and p) = reaches_le t _ n

  longer : (t t' : ℕ) → t ≤ t' → Passed (tests t) → Passed (tests t')
  longer t t' h (v and i and n and p) = v and i and longer_reaches _ t t' h n and p

  -- it is enough that the sheet heeds no surplus where the inputs fit
  pub listed-words : (f ≡ true → (ts us : List ℕ) → need ≤ length ts → made (ts ++ us) ≡ made ts)
      → AsOnBytes need (λ ts. listed (made ts) ps)
      (λ ws. listed_outcome (made_tests u f (reaches (length ws) (words_for need))) m (took (words_for need)) d (made (bytes_of ws)) ps o)
  unfolding listed_outcome
  listed-words surplus = on_words tests need o (λ ts. listed (made ts) ps) reach longer heedless
    where
      heedless : (t : ℕ) → Passed (tests t) → (ts us : List ℕ) → need ≤ length ts → listed (made (ts ++ us)) ps ≡ listed (made ts) ps
      heedless t (v and i and p) ts us h = ap (λ (l : List ℕ). listed l ps) (surplus i ts us h)
