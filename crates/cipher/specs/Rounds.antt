-- Rounds by the direction of the cipher, counted from 1 up: one name for encryption and decryption, of which the code has one loop. Assumes nothing:
-- these are definitions. `RoundsLaws` ties them to the rounds of `Cipher`.
use Rattle.std.specs.Prelude.{Bool, true, false, List, ℕ, zero, suc, ◌-◌, eqb, drop}
use Rattle.gf256.specs.declared.Direction.{Direction}
use Rattle.gf256.specs.declared.Direction.TheVariants.{Forward, Inverse}
use Rattle.shares.specs.Strings.{Shares}
use Rattle.cipher.specs.Cipher.{round_need, masked_round, masked_last_round, masked_inv_round, masked_inv_last_round}

-- one round; the last has no MixColumns
abbrev pub round_of : Direction → (last : Bool) → (d r : ℕ) → (keys s : Shares) → (tape : List ℕ) → Shares
round_of Forward false d r ks s ts = masked_round d r ks s ts
round_of Forward true d r ks s ts = masked_last_round d r ks s ts
round_of Inverse false d r ks s ts = masked_inv_round d r ks s ts
round_of Inverse true d r ks s ts = masked_inv_last_round d r ks s ts

-- the round key that is added i-th, from 0 on: 0 to nr, or nr down to 0
abbrev pub key_of : Direction → (nr i : ℕ) → ℕ
key_of Forward nr i = i
key_of Inverse nr i = nr - i

-- the i-th round out of nr and those after it, as many as are left
unfoldable pub rounds_of : Direction → (nr left i : ℕ) → (d : ℕ) → (keys s : Shares) → (tape : List ℕ) → Shares
rounds_of w nr zero i d ks s ts = s
rounds_of w nr (suc l) i d ks s ts =
    rounds_of w nr l (suc i) d ks (round_of w (eqb i nr) d (key_of w nr i) ks s ts) (drop (round_need d) ts)
