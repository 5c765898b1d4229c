-- What the routines of a block ask of their slices. Assumes nothing: these are definitions.
-- Inner contracts: no document decides them.
use Rattle.std.specs.Prelude.{◌≡◌, List, ℕ, suc, ◌*◌, ◌≤◌, length}
use Rattle.cipher.specs.Cipher.{cipher_need}

-- what a block from a key asks
pub record BlockFits (nk d : ℕ) (key x tape out : List ℕ) : Type 0 where
  pub some : 1 ≤ nk
  pub small : nk ≤ 8
  pub long : length key ≡ suc d * (4 * nk)
  pub input : length x ≡ suc d * 16
  pub output : length out ≡ suc d * 16
  pub drawn : cipher_need nk d ≤ length tape
