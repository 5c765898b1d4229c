-- On the same bytes, encryption, decryption, preparation and encryption from prepared keys are as they were on a tape of bytes (document 02, wish 6).
-- Assumes nothing.
use mathlib.Core.Path.{ap}
use mathlib.Core.List.{List}
use Prim.Native.Nat.{ℕ, suc, ◌*◌, ◌≤◌}
use lib.ListN.{length}
use Rattle.outcomes.proofs.OutcomeLaws.{Passed, ◌and◌}
use Rattle.tape_words.specs.Words.{words_for}
use Rattle.shares.specs.Strings.{parts, laid}
use Rattle.shares.specs.OnWords.{AsOnBytes}
use Rattle.shares.proofs.OnWordsLaws.{longer_reaches, on_words}
use Rattle.cipher.specs.Fips197.{rounds}
use Rattle.cipher.specs.Cipher.{schedule_need, prepared_laid, encrypted_with_need, encrypted_with_laid, cipher_need, encrypted_laid, decrypted_laid}
use Rattle.cipher.proofs.SurplusLaws.{schedule-surplus, encrypted_with-surplus, encrypted-surplus, decrypted-surplus}
use Rattle.lengths.specs.Lengths.{key_words, prepared_words}
use Rattle.lengths.specs.Previews.{keyed, block_tests, preparation_tests}
use Rattle.lengths.proofs.PreviewsLaws.{block_passed, preparation_passed}
use Rattle.aes.specs.Calls.{encrypt_outcome, decrypt_outcome, prepare_outcome, encrypt_prepared_outcome}

block_longer : (nk need d x o t t' : ℕ) → t ≤ t' → Passed (keyed d nk (block_tests need d x t o)) → Passed (keyed d nk (block_tests need d x t' o))
block_longer nk need d x o t t' h (u and y and i and r and n and p) = u and y and i and r and longer_reaches need t t' h n and p

preparation_longer : (d k o t t' : ℕ) → t ≤ t' → Passed (preparation_tests d k t o) → Passed (preparation_tests d k t' o)
preparation_longer d k o t t' h (u and y and r and n and p) = u and y and r and longer_reaches _ t t' h n and p

module _ (d : ℕ) (k x o : List ℕ) where
  abbrev nk : ℕ
  nk = key_words d (length k)

  -- how many words a single call takes
  abbrev need : ℕ
  need = words_for (cipher_need nk d)

  pub encrypt_words : AsOnBytes (cipher_need nk d) (encrypted_laid nk d k x) (λ ws. encrypt_outcome d k x ws o)
  unfolding encrypt_outcome encrypted_laid
  encrypt_words =
      on_words (λ t. keyed d nk (block_tests need d (length x) t (length o))) (cipher_need nk d) o (encrypted_laid nk d k x)
      (λ t p. (block_passed nk need d (length x) t (length o) p).drawn) (block_longer nk need d (length x) (length o))
      (λ t p ts us h. ap laid (encrypted-surplus nk d (parts (suc d) (4 * nk) k) (parts (suc d) 16 x) ts us h))

  pub decrypt_words : AsOnBytes (cipher_need nk d) (decrypted_laid nk d k x) (λ ws. decrypt_outcome d k x ws o)
  unfolding decrypt_outcome decrypted_laid
  decrypt_words =
      on_words (λ t. keyed d nk (block_tests need d (length x) t (length o))) (cipher_need nk d) o (decrypted_laid nk d k x)
      (λ t p. (block_passed nk need d (length x) t (length o) p).drawn) (block_longer nk need d (length x) (length o))
      (λ t p ts us h. ap laid (decrypted-surplus nk d (parts (suc d) (4 * nk) k) (parts (suc d) 16 x) ts us h))

pub prepare_words : (d : ℕ) (k o : List ℕ)
    → AsOnBytes (schedule_need (key_words d (length k)) d) (prepared_laid (key_words d (length k)) d k) (λ ws. prepare_outcome d k ws o)
unfolding prepare_outcome prepared_laid
prepare_words d k o =
    let nk = key_words d (length k) in
    on_words (λ t. preparation_tests d (length k) t (length o)) (schedule_need nk d) o (prepared_laid nk d k)
    (λ t p. (preparation_passed d (length k) t (length o) p).drawn) (preparation_longer d (length k) (length o))
    (λ t p ts us h. ap laid (schedule-surplus nk d (parts (suc d) (4 * nk) k) ts us h))

pub encrypt_prepared_words : (d : ℕ) (ks x o : List ℕ)
    → AsOnBytes (encrypted_with_need (prepared_words d (length ks)) d) (encrypted_with_laid (prepared_words d (length ks)) d ks x)
    (λ ws. encrypt_prepared_outcome d ks x ws o)
unfolding encrypt_prepared_outcome encrypted_with_laid
encrypt_prepared_words d ks x o =
    let nk = prepared_words d (length ks) in
    let need = words_for (encrypted_with_need nk d) in
    on_words (λ t. keyed d nk (block_tests need d (length x) t (length o))) (encrypted_with_need nk d) o (encrypted_with_laid nk d ks x)
    (λ t p. (block_passed nk need d (length x) t (length o) p).drawn) (block_longer nk need d (length x) (length o))
    (λ t p ts us h. ap laid (encrypted_with-surplus nk d (parts (suc d) (16 * suc (rounds nk)) ks) (parts (suc d) 16 x) ts us h))
