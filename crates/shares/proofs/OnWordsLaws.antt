-- Calls on a tape of words are as they were on bytes: one law for every call whose tests ask for the words of its need, and its use for splitting.
-- Assumes nothing.
use mathlib.Core.Path.{◌≡◌, sym, ap, ap₂, ◌∙◌, subst}
use mathlib.Core.Bool.{true}
use mathlib.Core.List.{List, ◌++◌}
use Prim.Native.Nat.{ℕ, ◌≤◌}
use native.Mathlib.Nat.{one-mul}
use native.Mathlib.Omega.{arith}
use lib.ListN.{length, length-append}
use Rattle.outcomes.specs.Outcome.{Test, done, took, settled, reaches, share_length}
use Rattle.outcomes.proofs.OutcomeLaws.{Passed, ◌and◌, settled-taken, settled-passed, le_reaches, reaches_le}
use Rattle.outcomes.proofs.LengthsLaws.{share_length_is}
use Rattle.tape_words.specs.Words.{bytes_of, words_for}
use Rattle.tape_words.proofs.FrontLaws.{same-front-same, words-surplus}
use Rattle.shares.specs.Strings.{laid, split, split_need}
use Rattle.shares.specs.Calls.{split_tests, split_outcome, input_tests}
use Rattle.shares.specs.OnWords.{AsOnBytes}
use Rattle.shares.proofs.CallsLaws.{split-passed}
use Rattle.shares.proofs.StringsLaws.{split-surplus}

-- a longer tape reaches as well
pub longer_reaches : (n t t' : ℕ) → t ≤ t' → reaches t n ≡ true → reaches t' n ≡ true
longer_reaches n t t' h e = le_reaches t' n (omega (arith, reaches_le t n e))

-- the tests go by the tape's length: where they pass, the words are there and no surplus is made of, and a longer tape passes as well
pub on_words : (tests : (tape : ℕ) → List Test) (need : ℕ) (o : List ℕ) (made : (bytes : List ℕ) → List ℕ)
    → ((t : ℕ) → Passed (tests t) → words_for need ≤ t) → ((t t' : ℕ) → t ≤ t' → Passed (tests t) → Passed (tests t'))
    → ((t : ℕ) → Passed (tests t) → (ts us : List ℕ) → need ≤ length ts → made (ts ++ us) ≡ made ts)
    → AsOnBytes need made (λ ws. settled (tests (length ws)) (took (words_for need)) o (made (bytes_of ws)))
on_words tests need o made reach longer heedless = record {
  same = λ ws ts k q e alike.
      let g = settled-taken _ _ o _ k q e in
      (g.1, g.2 ∙ same-front-same made need (heedless (length ws) g.0) ws ts (reach (length ws) g.0) alike);
  surplus = λ ws us k q e.
      let g = settled-taken _ _ o _ k q e in
      let more : length ws ≤ length (ws ++ us) = omega (arith, length-append ws us) in
      settled-passed _ o _ (longer (length ws) (length (ws ++ us)) more g.0)
      ∙ ap₂ done (sym g.1) (words-surplus made need (heedless (length ws) g.0) ws us (reach (length ws) g.0) ∙ sym g.2);
}

-- splitting
pub split-words : (d : ℕ) (xs o : List ℕ)
    → AsOnBytes (split_need d (share_length 1 (length xs))) (λ ts. laid (split d xs ts)) (λ ws. split_outcome d xs ws o)
unfolding split_outcome
split-words d xs o =
    on_words (λ t. split_tests d (length xs) t (length o)) _ o (λ ts. laid (split d xs ts))
    (λ t p. (split-passed d (length xs) t (length o) p).drawn) longer heedless
  where
    longer : (t t' : ℕ) → t ≤ t' → Passed (split_tests d (length xs) t (length o)) → Passed (split_tests d (length xs) t' (length o))
    longer t t' h (u and i and r and n and p) = u and i and r and longer_reaches _ t t' h n and p

    heedless : (t : ℕ) → Passed (split_tests d (length xs) t (length o)) → (ts us : List ℕ) → split_need d (share_length 1 (length xs)) ≤ length ts
        → laid (split d xs (ts ++ us)) ≡ laid (split d xs ts)
    heedless t p ts us h =
        let g = split-passed d (length xs) t (length o) p in
        let l : length xs ≡ share_length 1 (length xs) = share_length_is 1 (length xs) g.input ∙ one-mul _ in
        ap laid (split-surplus d xs ts us (subst (λ (n : ℕ). split_need d n ≤ length ts) (sym l) h))

-- a call on the shares of one byte
pub input_longer : (room need d x o t t' : ℕ) → t ≤ t' → Passed (input_tests room need d x t o) → Passed (input_tests room need d x t' o)
input_longer room need d x o t t' h (u and i and r and n and p) = u and i and r and longer_reaches need t t' h n and p
