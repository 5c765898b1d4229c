-- ASKING BEFOREHAND: each preview foretells its call, and no answer of these calls depends on what a buffer holds. Document 02, wish 4, decides.
-- Assumes nothing.
use mathlib.Core.Path.{◌≡◌, refl, ap₂, sym, ◌∙◌}
use mathlib.Core.Bool.{Bool, true, false, cond, not}
use mathlib.Core.List.{List, [], ◌∷◌}
use Prim.Native.Nat.{ℕ, suc, ◌*◌}
use lib.Dec.{ltb, eqb}
use lib.ListN.{length}
use borrow.Author.Tests.{lt-ltb, eq-eqb}
use Rattle.outcomes.specs.declared.Refusal.TheVariants.{Tape}
use Rattle.outcomes.specs.declared.Count.{Count}
use Rattle.outcomes.specs.Outcome.{Answer}
use Rattle.std.specs.Prelude.{Ok, Err}
use Rattle.outcomes.specs.Outcome.{Outcome, done, refused, outcome, Test, test, took, answered, ended, settled, served, reaches}
use Rattle.outcomes.proofs.OutcomeLaws.{outcome_answer, settled_same, settled-past}
use Rattle.tape_words.specs.Words.{words_for}
use Rattle.cipher.specs.Cipher.{schedule_need, encrypted_with_need, cipher_need}
use Rattle.lengths.specs.Lengths.{KeySize, prepared_length}
use Rattle.lengths.specs.Previews.{encrypt_preview, decrypt_preview, prepare_preview, encrypt_prepared_preview}
use Rattle.lengths.proofs.LengthsLaws.{key_words-of, prepared_words-of, size_bounds}
use Rattle.aes.specs.Calls.{encrypt_outcome, decrypt_outcome, prepare_outcome, encrypt_prepared_outcome, Foretells, AnswersByLength}

-- ---- the preview gives exactly the answer of the call

-- a call and its preview have the same tests, and count the same
same_tests : (ts : List Test) (k : Count) (o made q : List ℕ) (a : Answer) → outcome a q ≡ settled ts k o made → outcome a [] ≡ settled ts k [] []
unfolding settled
same_tests ts k o made q a e = settled_same ts k [] a (outcome_answer a (answered ts k) q o made e)

pub encrypt_foretold : Foretells encrypt_preview encrypt_outcome
unfolding encrypt_outcome encrypt_preview
encrypt_foretold d k x ts o q a e = same_tests _ _ o _ q a e

pub decrypt_foretold : Foretells decrypt_preview decrypt_outcome
unfolding decrypt_outcome decrypt_preview
decrypt_foretold d k x ts o q a e = same_tests _ _ o _ q a e

-- a preparation has no input: here one stands that nobody looks at
pub prepare_foretold : Foretells (λ d k x t o. prepare_preview d k t o) (λ d k x ts o. prepare_outcome d k ts o)
unfolding prepare_outcome prepare_preview
prepare_foretold d k x ts o q a e = same_tests _ _ o _ q a e

pub encrypt_prepared_foretold : Foretells encrypt_prepared_preview encrypt_prepared_outcome
unfolding encrypt_prepared_outcome encrypt_prepared_preview
encrypt_prepared_foretold d k x ts o q a e = same_tests _ _ o _ q a e

-- ---- no answer depends on what a buffer holds

-- an outcome without an output tells the answer
told : (a b : Answer) → outcome a [] ≡ outcome b [] → a ≡ b
told a b e = outcome_answer a b [] [] [] (e ∙ unwritten b)
  where
    unwritten : (b : Answer) → outcome b [] ≡ ended b [] []
    unwritten (Ok k) = refl
    unwritten (Err r) = refl

-- what is foretold from lengths goes by lengths
foretold_by_length : (p : (order key input tape output : ℕ) → Outcome) (c : (order : ℕ) (key input tape output : List ℕ) → Outcome)
    → Foretells p c → AnswersByLength c
foretold_by_length p c f d k k' x x' ts ts' o o' q q' a a' lk lx lt lo e e' =
    told a a'
    (f d k x ts o q a e
    ∙ ap₂ (λ (m n : ℕ). p d m n (length ts) (length o)) lk lx
    ∙ ap₂ (λ (m n : ℕ). p d (length k') (length x') m n) lt lo
    ∙ sym (f d k' x' ts' o' q' a' e'))

pub encrypt_by_length : AnswersByLength encrypt_outcome
encrypt_by_length = foretold_by_length encrypt_preview encrypt_outcome encrypt_foretold

pub decrypt_by_length : AnswersByLength decrypt_outcome
decrypt_by_length = foretold_by_length decrypt_preview decrypt_outcome decrypt_foretold

pub prepare_by_length : AnswersByLength (λ d k x ts o. prepare_outcome d k ts o)
prepare_by_length = foretold_by_length (λ d k x t o. prepare_preview d k t o) (λ d k x ts o. prepare_outcome d k ts o) prepare_foretold

pub encrypt_prepared_by_length : AnswersByLength encrypt_prepared_outcome
encrypt_prepared_by_length = foretold_by_length encrypt_prepared_preview encrypt_prepared_outcome encrypt_prepared_foretold

-- ---- a call that fits in all but its tape: the tape decides, and the need is what must be drawn

by_tape : (t n : ℕ) → settled (test Tape (reaches t n) ∷ []) (took n) [] [] ≡ cond (ltb t n) (refused 5 []) (done (took n) [])
unfolding settled answered
by_tape t n = go (ltb t n)
  where
    go : (b : Bool) → ended (cond (not b) (Ok (took n)) (Err Tape)) [] [] ≡ cond b (refused 5 []) (done (took n) [])
    go true = refl
    go false = refl

module _ {nk : ℕ} (d t : ℕ) (size : KeySize nk) (is_served : served d ≡ true) where
  some : ltb 0 nk ≡ true
  some = lt-ltb 0 nk (size_bounds size).0

  block : eqb (suc d * 16) (suc d * 16) ≡ true
  block = eq-eqb (suc d * 16) (suc d * 16) refl

  pub encrypt_by_tape : encrypt_preview d (suc d * (4 * nk)) (suc d * 16) t (suc d * 16)
      ≡ cond (ltb t (words_for (cipher_need nk d))) (refused 5 []) (done (took (words_for (cipher_need nk d))) [])
  unfolding encrypt_preview
  encrypt_by_tape =
      rw (key_words-of d size)
      (settled-past _ _ _ _ _ is_served ∙ settled-past _ _ _ _ _ some ∙ settled-past _ _ _ _ _ block ∙ settled-past _ _ _ _ _ block
      ∙ by_tape t (words_for (cipher_need nk d)))

  pub decrypt_by_tape : decrypt_preview d (suc d * (4 * nk)) (suc d * 16) t (suc d * 16)
      ≡ cond (ltb t (words_for (cipher_need nk d))) (refused 5 []) (done (took (words_for (cipher_need nk d))) [])
  unfolding decrypt_preview encrypt_preview
  decrypt_by_tape = encrypt_by_tape

  pub prepare_by_tape : prepare_preview d (suc d * (4 * nk)) t (prepared_length nk d)
      ≡ cond (ltb t (words_for (schedule_need nk d))) (refused 5 []) (done (took (words_for (schedule_need nk d))) [])
  unfolding prepare_preview
  prepare_by_tape =
      let room = eq-eqb (prepared_length nk d) (prepared_length nk d) refl in
      rw (key_words-of d size)
      (settled-past _ _ _ _ _ is_served ∙ settled-past _ _ _ _ _ some ∙ settled-past _ _ _ _ _ room ∙ by_tape t (words_for (schedule_need nk d)))

  pub encrypt_prepared_by_tape : encrypt_prepared_preview d (prepared_length nk d) (suc d * 16) t (suc d * 16)
      ≡ cond (ltb t (words_for (encrypted_with_need nk d))) (refused 5 []) (done (took (words_for (encrypted_with_need nk d))) [])
  unfolding encrypt_prepared_preview
  encrypt_prepared_by_tape =
      rw (prepared_words-of d size)
      (settled-past _ _ _ _ _ is_served ∙ settled-past _ _ _ _ _ some ∙ settled-past _ _ _ _ _ block ∙ settled-past _ _ _ _ _ block
      ∙ by_tape t (words_for (encrypted_with_need nk d)))
