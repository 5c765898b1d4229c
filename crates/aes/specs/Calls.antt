-- The outcome of each public routine on every input, refusals included. Document 01, "Turned-down calls", decides, for prepared keys document 02,
-- wish 1, for decryption wish 2, and that a tape is words wish 6: the steps draw the bytes of the words, and the needs are rounded up to words.
-- Assumes nothing: these are definitions.
use Rattle.std.specs.Prelude.{◌≡◌, List, [], ℕ, ◌+◌, length}
use Rattle.outcomes.specs.Outcome.{Answer}
use Rattle.outcomes.specs.Outcome.{Outcome, done, refused, outcome, took, settled}
use Rattle.tape_words.specs.Words.{bytes_of, words_for}
use Rattle.cipher.specs.Cipher.{schedule_need, prepared_laid, encrypted_with_need, encrypted_with_laid, cipher_need, encrypted_laid, decrypted_laid}
use Rattle.lengths.specs.Lengths.{key_words, prepared_words}
use Rattle.lengths.specs.Previews.{single_tests, preparation_tests, prepared_tests}

-- ---- the routines: the tests are those of `lengths`

-- encryption
unfoldable pub encrypt_outcome : (order : ℕ) (key input tape output : List ℕ) → Outcome
encrypt_outcome d k x ts o =
    settled (single_tests d (length k) (length x) (length ts) (length o)) (took (words_for (cipher_need (key_words d (length k)) d))) o
    (encrypted_laid (key_words d (length k)) d k x (bytes_of ts))

-- decryption: the tests and the count of encryption
unfoldable pub decrypt_outcome : (order : ℕ) (key input tape output : List ℕ) → Outcome
decrypt_outcome d k x ts o =
    settled (single_tests d (length k) (length x) (length ts) (length o)) (took (words_for (cipher_need (key_words d (length k)) d))) o
    (decrypted_laid (key_words d (length k)) d k x (bytes_of ts))

-- preparation
unfoldable pub prepare_outcome : (order : ℕ) (key tape output : List ℕ) → Outcome
prepare_outcome d k ts o =
    settled (preparation_tests d (length k) (length ts) (length o)) (took (words_for (schedule_need (key_words d (length k)) d))) o
    (prepared_laid (key_words d (length k)) d k (bytes_of ts))

-- encryption from prepared keys, whatever bytes they hold
unfoldable pub encrypt_prepared_outcome : (order : ℕ) (prepared input tape output : List ℕ) → Outcome
encrypt_prepared_outcome d ks x ts o =
    settled (prepared_tests d (length ks) (length x) (length ts) (length o))
    (took (words_for (encrypted_with_need (prepared_words d (length ks)) d))) o
    (encrypted_with_laid (prepared_words d (length ks)) d ks x (bytes_of ts))

-- the outcome of a call, counted together with n words drawn before it
abbrev pub after : (n : ℕ) → Outcome → Outcome
after n (done k q) = done (took (n + k.taken)) q
after n (refused r q) = refused r q

-- ---- when a preview is right

-- The preview foretells the call: whatever bytes the buffers hold, an answer of the call is the preview's for their lengths. `q` is the output
-- afterwards, and the equation with `call` is the call's contract; a preview has no output
abbrev pub Foretells : ((order key input tape output : ℕ) → Outcome) → (call : (order : ℕ) (key input tape output : List ℕ) → Outcome) → Type 0
Foretells preview call =
    (d : ℕ) (k x ts o q : List ℕ) (a : Answer) → outcome a q ≡ call d k x ts o → outcome a [] ≡ preview d (length k) (length x) (length ts) (length o)

-- No answer depends on what a buffer holds: two calls whose order and buffer lengths agree give the same answer, whatever the bytes
abbrev pub AnswersByLength : (call : (order : ℕ) (key input tape output : List ℕ) → Outcome) → Type 0
AnswersByLength call =
    (d : ℕ) (k k' x x' ts ts' o o' q q' : List ℕ) (a a' : Answer)
    → length k ≡ length k' → length x ≡ length x' → length ts ≡ length ts' → length o ≡ length o'
    → outcome a q ≡ call d k x ts o → outcome a' q' ≡ call d k' x' ts' o' → a ≡ a'
