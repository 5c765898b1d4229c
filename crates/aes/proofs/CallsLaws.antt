-- The lengths of a call as the cores count them, and what the cores make as the outcomes name it. Assumes nothing.
use mathlib.Core.Path.{◌≡◌, refl, ap, ap₂, ◌∙◌}
use mathlib.Core.List.{List}
use Prim.Native.Nat.{ℕ, suc, ◌*◌, ◌-◌, ◌≤◌}
use native.Mathlib.Omega.{arith}
use lib.ListN.{length, take, drop}
use Rattle.outcomes.specs.Outcome.{took, settled}
use Rattle.gf256.specs.declared.Direction.{Direction}
use Rattle.gf256.specs.declared.Direction.TheVariants.{Forward, Inverse}
use Rattle.shares.specs.Strings.{Shares, parts, laid}
use Rattle.shares.proofs.StringsLaws.{shared-parts, parts-laid}
use Rattle.tape_words.specs.Words.{bytes_of, words_for}
use Rattle.tape_words.proofs.WordsLaws.{bytes_rest}
use Rattle.cipher.specs.Fips197.{rounds}
use Rattle.cipher.specs.Cipher.{schedule, schedule_need, prepared_laid, encrypted_with, encrypted_with_laid, cipher_need, encrypted, encrypted_laid}
use Rattle.cipher.specs.Cipher.{decrypted, decrypted_laid}
use Rattle.cipher.proofs.Accuracy.{schedule-shared}
use Rattle.rounds.specs.Directions.{with_of}
use Rattle.lengths.specs.Lengths.{key_words, prepared_length}
use Rattle.lengths.specs.Previews.{single_tests}
use Rattle.aes.specs.Calls.{encrypt_outcome, decrypt_outcome}
use Rattle.aes.specs.Directions.{laid_of, single_outcome}

-- ---- lengths, as the cores count them

pub prepared_keys_length : (nk d l : ℕ) → l ≡ prepared_length nk d → l ≡ suc d * (16 * suc (rounds nk))
unfolding prepared_length
prepared_keys_length nk d l e = e

-- ---- what the cores make, as the outcomes name it

pub prepared_made : (nk d : ℕ) (k ts keys : List ℕ) → keys ≡ laid (schedule nk d (parts (suc d) (4 * nk) k) ts) → keys ≡ prepared_laid nk d k ts
unfolding prepared_laid
prepared_made nk d k ts keys e = e

pub encrypted_with-made : (nk d : ℕ) (keys x ts q : List ℕ)
    → q ≡ laid (encrypted_with nk d (parts (suc d) (16 * suc (rounds nk)) keys) (parts (suc d) 16 x) ts) → q ≡ encrypted_with_laid nk d keys x ts
unfolding encrypted_with_laid
encrypted_with-made nk d keys x ts q e = e

-- a block from a key, as the two definitions have it
block_laid : (w : Direction) (nk d : ℕ) (k x ts : List ℕ)
    → laid (with_of w nk d (schedule nk d (parts (suc d) (4 * nk) k) ts) (parts (suc d) 16 x) (drop (schedule_need nk d) ts)) ≡ laid_of w nk d k x ts
unfolding encrypted_laid encrypted decrypted_laid decrypted
block_laid Forward nk d k x ts = refl
block_laid Inverse nk d k x ts = refl

-- a block, from the two calls that make it: the first draws n words
pub block_made : (w : Direction) (nk d n : ℕ) (k x ws keys q : List ℕ) → 1 ≤ nk → length k ≡ suc d * (4 * nk)
    → keys ≡ laid (schedule nk d (parts (suc d) (4 * nk) k) (bytes_of ws)) → 4 * n ≡ schedule_need nk d
    → q ≡ laid (with_of w nk d (parts (suc d) (16 * suc (rounds nk)) keys) (parts (suc d) 16 x) (bytes_of (take (length ws - n) (drop n ws))))
    → q ≡ laid_of w nk d k x (bytes_of ws)
block_made w nk d n k x ws keys q h l e m g =
    let ts = bytes_of ws in
    let back = ap (parts (suc d) (16 * suc (rounds nk))) e ∙ parts-laid (schedule-shared nk ts h (shared-parts d (4 * nk) k (omega arith))) in
    let rest : bytes_of (take (length ws - n) (drop n ws)) ≡ drop (schedule_need nk d) ts = bytes_rest n ws ∙ ap (λ (b : ℕ). drop b ts) m in
    g ∙ ap₂ (λ (ks : Shares) (t : List ℕ). laid (with_of w nk d ks (parts (suc d) 16 x) t)) back rest ∙ block_laid w nk d k x ts

-- ---- either single call, by its direction

pub single_is : (w : Direction) (d : ℕ) (k x ts o : List ℕ)
    → settled (single_tests d (length k) (length x) (length ts) (length o)) (took (words_for (cipher_need (key_words d (length k)) d))) o
    (laid_of w (key_words d (length k)) d k x (bytes_of ts))
    ≡ single_outcome w d k x ts o
unfolding encrypt_outcome decrypt_outcome
single_is Forward d k x ts o = refl
single_is Inverse d k x ts o = refl
