-- Of `prepare` and then `encrypt_prepared`, by the outcomes that their contracts name: on the shares and the tape of a choice both are carried
-- through, and what they put out stands among the places that the hiding rule of a session counts. Assumes nothing.
use mathlib.Core.Path.{◌≡◌, sym, ap, ap₂, ◌∙◌}
use mathlib.Core.Bool.{true}
use mathlib.Core.List.{List, [], ◌∷◌}
use Prim.Native.Nat.{ℕ, suc, ◌+◌, ◌*◌, ◌-◌, ◌≤◌, ◌<◌}
use native.Mathlib.Nat.{mul_left_comm}
use native.Mathlib.Omega.{arith}
use lib.Dec.{eqb}
use lib.ListN.{length, drop}
use borrow.Author.Tests.{eq-eqb, lt-ltb}
use Rattle.outcomes.specs.declared.Count.{Count}
use Rattle.outcomes.specs.Outcome.{Outcome, done, took, settled, served, reaches, test}
use Rattle.outcomes.specs.declared.Refusal.TheVariants.{Output, Tape}
use Rattle.outcomes.proofs.OutcomeLaws.{all, ◌and◌, settled-taken, settled-passed, le_reaches}
use Rattle.tape_words.specs.Words.{bytes_of, words_for}
use Rattle.tape_words.proofs.WordsLaws.{bytes_drop}
use Rattle.shares.specs.Strings.{Shares, Shared, laid, parts}
use Rattle.shares.specs.Calls.{unused}
use Rattle.shares.proofs.StringsLaws.{laid-length, parts-laid}
use Rattle.cipher.specs.Fips197.{rounds}
use Rattle.cipher.specs.Cipher.{schedule, schedule_need, prepared_laid, encrypted_with, encrypted_with_need, encrypted_with_laid}
use Rattle.cipher.proofs.Accuracy.{schedule-shared}
use Rattle.cipher.proofs.NeedLaws.{schedule-whole, encrypted_with-whole}
use Rattle.lengths.specs.Lengths.{KeySize, key_words, prepared_length, prepared_words}
use Rattle.lengths.specs.Previews.{keyed, block_tests}
use Rattle.lengths.proofs.LengthsLaws.{key_words-of, prepared_words-of, size_bounds}
use Rattle.aes.specs.Calls.{prepare_outcome, encrypt_prepared_outcome}
use Rattle.probing.specs.SessionPlaces.{block_of, keys_length, preparation_count, block_count, session_sheet}
use Rattle.probing.specs.Shown.{places_from}
use Rattle.probing.proofs.ShownLaws.{prepared_shown, block_shown, block_shared}

module _ (n nk d : ℕ) (order : served d ≡ true) (size : KeySize nk) {k xs : Shares} (hk : Shared (4 * nk) d k) (hx : Shared (16 * n) d xs)
    (ws : List ℕ) where
  some : 1 ≤ nk
  some = (size_bounds size).0

  words : key_words d (length (laid k)) ≡ nk
  words = ap (key_words d) (laid-length hk) ∙ key_words-of d size

  abbrev bs : List ℕ
  bs = bytes_of ws

  -- the outcome of `prepare` for a key of m words whose shares are ss
  abbrev prepared_by : (m : ℕ) (ss : Shares) (o : List ℕ) → Outcome
  prepared_by m ss o =
      settled
      (keyed d m (test Output (eqb (length o) (prepared_length m d)) ∷ test Tape (reaches (length ws) (words_for (schedule_need m d))) ∷ []))
      (took (words_for (schedule_need m d))) o (laid (schedule m d ss bs))

  prepare_is : (o : List ℕ) → prepare_outcome d (laid k) ws o ≡ prepared_by nk k o
  unfolding prepare_outcome prepared_laid
  prepare_is o =
      ap (λ (m : ℕ). prepared_by m (parts (suc d) (4 * m) (laid k)) o) words ∙ ap (λ (ss : Shares). prepared_by nk ss o) (parts-laid hk)

  -- WHAT `prepare` PUTS OUT stands among the places
  pub prepare_of_choice : (o : List ℕ) → words_for (schedule_need nk d) ≤ length ws → length o ≡ suc d * keys_length nk
      → prepare_outcome d (laid k) ws o
      ≡ done (took (words_for (schedule_need nk d)))
      (places_from (preparation_count nk d - suc d * keys_length nk) (suc d * keys_length nk) (session_sheet n nk d k xs bs))
  unfolding prepared_length
  prepare_of_choice o enough room =
      prepare_is o
      ∙ settled-passed _ o _ (order and lt-ltb 0 nk some and eq-eqb _ _ room and le_reaches (length ws) _ enough and all)
      ∙ ap (done (took (words_for (schedule_need nk d)))) (sym (prepared_shown nk some hk n hx bs))

  -- the words that are left for block j
  left-bytes : (j : ℕ)
      → bytes_of (drop (j * words_for (encrypted_with_need nk d)) (drop (words_for (schedule_need nk d)) ws))
      ≡ drop (j * encrypted_with_need nk d) (drop (schedule_need nk d) bs)
  left-bytes j =
      let v = words_for (encrypted_with_need nk d) in
      let u = words_for (schedule_need nk d) in
      bytes_drop (j * v) (drop u ws)
      ∙ ap₂ (λ (m : ℕ) (l : List ℕ). drop m l) (mul_left_comm 4 j v ∙ ap (◌*◌ j) (encrypted_with-whole nk d))
      (bytes_drop u ws ∙ ap (λ (m : ℕ). drop m bs) (schedule-whole nk d))

  -- the outcome of `encrypt_prepared` for a key of m words, on round keys ks and a block x of l bytes in shares
  abbrev encrypted_by : (m : ℕ) (ks x : Shares) (l : ℕ) (us p : List ℕ) → Outcome
  encrypted_by m ks x l us p =
      settled (keyed d m (block_tests (words_for (encrypted_with_need m d)) d l (length us) (length p)))
      (took (words_for (encrypted_with_need m d))) p (laid (encrypted_with m d ks x (bytes_of us)))

  encrypt_is : (x : Shares) → Shared 16 d x → (us p : List ℕ)
      → encrypt_prepared_outcome d (laid (schedule nk d k bs)) (laid x) us p ≡ encrypted_by nk (schedule nk d k bs) x (length (laid x)) us p
  unfolding encrypt_prepared_outcome encrypted_with_laid prepared_length
  encrypt_is x h us p =
      let keys = schedule nk d k bs in
      let hs : Shared (keys_length nk) d keys = schedule-shared nk bs some hk in
      let e : prepared_words d (length (laid keys)) ≡ nk = ap (prepared_words d) (laid-length hs) ∙ prepared_words-of d size in
      ap (λ (m : ℕ). encrypted_by m (parts (suc d) (16 * suc (rounds m)) (laid keys)) (parts (suc d) 16 (laid x)) (length (laid x)) us p) e
      ∙ ap₂ (λ (ks ss : Shares). encrypted_by nk ks ss (length (laid x)) us p) (parts-laid hs) (parts-laid h)

  -- WHAT `encrypt_prepared` PUTS OUT for block j, on what `prepare` put out and on the unused words, stands among the places
  pub encrypt_prepared_of_choice : (o keys : List ℕ) (c : Count) → prepare_outcome d (laid k) ws o ≡ done c keys
      → (j : ℕ) (p : List ℕ) → j < n → length p ≡ suc d * 16
      → words_for (encrypted_with_need nk d) ≤ length (drop (j * words_for (encrypted_with_need nk d)) (unused ws c.taken))
      → encrypt_prepared_outcome d keys (laid (block_of xs j)) (drop (j * words_for (encrypted_with_need nk d)) (unused ws c.taken)) p
      ≡ done (took (words_for (encrypted_with_need nk d)))
      (places_from (preparation_count nk d + (j * block_count nk d + (block_count nk d - suc d * 16))) (suc d * 16) (session_sheet n nk d k xs bs))
  unfolding unused
  encrypt_prepared_of_choice o keys c e j p l room enough =
      let g = settled-taken _ _ o (laid (schedule nk d k bs)) c keys (sym (prepare_is o) ∙ e) in
      let h = block_shared nk some hk n hx bs j l in
      let us = drop (j * words_for (encrypted_with_need nk d)) (drop c.taken ws) in
      let count : c.taken ≡ words_for (schedule_need nk d) = ap (λ (a : Count). a.taken) g.1 in
      ap (λ (ks : List ℕ). encrypt_prepared_outcome d ks (laid (block_of xs j)) us p) g.2
      ∙ encrypt_is (block_of xs j) h us p
      ∙ settled-passed _ p _
      (order and lt-ltb 0 nk some and eq-eqb _ _ (laid-length h) and eq-eqb _ _ room and le_reaches (length us) _ enough and all)
      ∙ ap (λ (ts : List ℕ). done (took (words_for (encrypted_with_need nk d))) (laid (encrypted_with nk d (schedule nk d k bs) (block_of xs j) ts)))
      (ap (λ (m : ℕ). bytes_of (drop (j * words_for (encrypted_with_need nk d)) (drop m ws))) count ∙ left-bytes j)
      ∙ ap (done (took (words_for (encrypted_with_need nk d)))) (sym (block_shown nk some hk n hx bs j l))
