-- The tests of a call of AES on the lengths of its buffers, and asking beforehand: the answer of a call from these alone. Document 01's table decides
-- the tests and their order; for prepared keys document 02, wish 1, for previews wish 4, and that a tape is words wish 6: its length, the needs and
-- the counts are in words. Assumes nothing: these are definitions.
use Rattle.std.specs.Prelude.{List, [], ◌∷◌, ℕ, suc, ◌*◌, ltb, eqb}
use Rattle.outcomes.specs.declared.Refusal.TheVariants.{Order, Key, Input, Output, Tape}
use Rattle.outcomes.specs.Outcome.{Outcome, Test, test, took, settled, served, reaches}
use Rattle.tape_words.specs.Words.{words_for}
use Rattle.cipher.specs.Cipher.{schedule_need, encrypted_with_need, cipher_need}
use Rattle.lengths.specs.Lengths.{key_words, prepared_length, prepared_words}

-- ---- the tests: of each list those of an order that is served (`.._served`), and all

-- whether the key's length gave some words; and all, with the order before it
abbrev pub keyed_served : (nk : ℕ) → List Test → List Test
keyed_served nk ts = test Key (ltb 0 nk) ∷ ts

abbrev pub keyed : (d nk : ℕ) → List Test → List Test
keyed d nk ts = test Order (served d) ∷ keyed_served nk ts

-- of a block: an input and an output of n · 16 bytes, and a tape of so many words
abbrev pub block_tests : (need d input tape output : ℕ) → List Test
block_tests n d x t o = test Input (eqb x (suc d * 16)) ∷ test Output (eqb o (suc d * 16)) ∷ test Tape (reaches t n) ∷ []

-- encryption and decryption by a single call: key shares, and a block
abbrev pub single_served : (order key input tape output : ℕ) → List Test
single_served d k x t o = keyed_served (key_words d k) (block_tests (words_for (cipher_need (key_words d k) d)) d x t o)

abbrev pub single_tests : (order key input tape output : ℕ) → List Test
single_tests d k x t o = test Order (served d) ∷ single_served d k x t o

-- preparation: key shares, and an output of n · 16 · (Nr + 1) bytes; it has no input that could be refused with 3
abbrev pub preparation_served : (order key tape output : ℕ) → List Test
preparation_served d k t o =
    keyed_served (key_words d k)
    (test Output (eqb o (prepared_length (key_words d k) d)) ∷ test Tape (reaches t (words_for (schedule_need (key_words d k) d))) ∷ [])

abbrev pub preparation_tests : (order key tape output : ℕ) → List Test
preparation_tests d k t o = test Order (served d) ∷ preparation_served d k t o

-- encryption from prepared keys, and a block
abbrev pub prepared_served : (order prepared input tape output : ℕ) → List Test
prepared_served d k x t o = keyed_served (prepared_words d k) (block_tests (words_for (encrypted_with_need (prepared_words d k) d)) d x t o)

abbrev pub prepared_tests : (order prepared input tape output : ℕ) → List Test
prepared_tests d k x t o = test Order (served d) ∷ prepared_served d k x t o

-- ---- the previews: each has the order, and the lengths of its call's buffers; there is no output that could change

-- encryption in a single call, from key shares
unfoldable pub encrypt_preview : (order key input tape output : ℕ) → Outcome
encrypt_preview d k x t o = settled (single_tests d k x t o) (took (words_for (cipher_need (key_words d k) d))) [] []

-- decryption: the lengths, the refusals and the count of encryption
unfoldable pub decrypt_preview : (order key input tape output : ℕ) → Outcome
decrypt_preview d k x t o = settled (single_tests d k x t o) (took (words_for (cipher_need (key_words d k) d))) [] []

-- preparation
unfoldable pub prepare_preview : (order key tape output : ℕ) → Outcome
prepare_preview d k t o = settled (preparation_tests d k t o) (took (words_for (schedule_need (key_words d k) d))) [] []

-- encryption from prepared keys
unfoldable pub encrypt_prepared_preview : (order prepared input tape output : ℕ) → Outcome
encrypt_prepared_preview d k x t o = settled (prepared_tests d k x t o) (took (words_for (encrypted_with_need (prepared_words d k) d))) [] []
