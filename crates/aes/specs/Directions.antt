-- Blocks and calls by the direction of the cipher: one name for encryption and decryption, of which the code has one routine. Assumes nothing:
-- these are definitions. Inner contracts: what each name stands for is decided where it is defined.
use Rattle.std.specs.Prelude.{List, ℕ}
use Rattle.gf256.specs.declared.Direction.{Direction}
use Rattle.gf256.specs.declared.Direction.TheVariants.{Forward, Inverse}
use Rattle.outcomes.specs.Outcome.{Outcome}
use Rattle.cipher.specs.Fips197.{cipher, inv_cipher}
use Rattle.cipher.specs.Cipher.{encrypted_laid, decrypted_laid}
use Rattle.aes.specs.Calls.{encrypt_outcome, decrypt_outcome}

-- a block from a key, share after share
abbrev pub laid_of : Direction → (nk d : ℕ) → (key input tape : List ℕ) → List ℕ
laid_of Forward nk d k x ts = encrypted_laid nk d k x ts
laid_of Inverse nk d k x ts = decrypted_laid nk d k x ts

-- FIPS 197's cipher, or its inverse cipher
abbrev pub cipher_of : Direction → (nk : ℕ) → (key input : List ℕ) → List ℕ
cipher_of Forward nk k x = cipher nk k x
cipher_of Inverse nk k x = inv_cipher nk k x

-- a single call
abbrev pub single_outcome : Direction → (order : ℕ) (key input tape output : List ℕ) → Outcome
single_outcome Forward d k x ts o = encrypt_outcome d k x ts o
single_outcome Inverse d k x ts o = decrypt_outcome d k x ts o
