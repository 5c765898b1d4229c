-- Each preview of the C interface returns the status that its call returns on buffers of these lengths, and leaves the same count behind `taken`.
-- The equations with `returned` are the contracts of the two wrappers. Document 02, wish 4, decides. Assumes nothing.
use mathlib.Core.Path.{◌≡◌}
use mathlib.Core.List.{List, []}
use Prim.Native.Nat.{ℕ}
use lib.ListN.{length}
use Rattle.aes.specs.Calls.{encrypt_outcome, decrypt_outcome, prepare_outcome, encrypt_prepared_outcome}
use Rattle.lengths.specs.Previews.{encrypt_preview, decrypt_preview, prepare_preview, encrypt_prepared_preview}
use Rattle.dokkumel_c.specs.Returned.{gives, returned}
use Rattle.dokkumel_c.proofs.ReturnedLaws.{preview_returns}

module _ (d t s n s' n' : ℕ) (k x ts o q : List ℕ) where
  pub preview_encrypt_returns : gives s n q ≡ returned (encrypt_outcome d k x ts o) t
      → gives s' n' [] ≡ returned (encrypt_preview d (length k) (length x) (length ts) (length o)) t → (s ≡ s') × (n ≡ n')
  unfolding encrypt_outcome encrypt_preview
  preview_encrypt_returns = preview_returns _ _ o _ q t s n s' n'

  pub preview_decrypt_returns : gives s n q ≡ returned (decrypt_outcome d k x ts o) t
      → gives s' n' [] ≡ returned (decrypt_preview d (length k) (length x) (length ts) (length o)) t → (s ≡ s') × (n ≡ n')
  unfolding decrypt_outcome decrypt_preview
  preview_decrypt_returns = preview_returns _ _ o _ q t s n s' n'

  pub preview_prepare_returns : gives s n q ≡ returned (prepare_outcome d k ts o) t
      → gives s' n' [] ≡ returned (prepare_preview d (length k) (length ts) (length o)) t → (s ≡ s') × (n ≡ n')
  unfolding prepare_outcome prepare_preview
  preview_prepare_returns = preview_returns _ _ o _ q t s n s' n'

  pub preview_encrypt_prepared_returns : gives s n q ≡ returned (encrypt_prepared_outcome d k x ts o) t
      → gives s' n' [] ≡ returned (encrypt_prepared_preview d (length k) (length x) (length ts) (length o)) t → (s ≡ s') × (n ≡ n')
  unfolding encrypt_prepared_outcome encrypt_prepared_preview
  preview_encrypt_prepared_returns = preview_returns _ _ o _ q t s n s' n'
