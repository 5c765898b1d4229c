-- The lengths of keys in shares, and what they say of the key. Document 01, and for prepared keys document 02, wish 1, decide; the three key sizes
-- are FIPS 197's. Assumes nothing: these are definitions.
use Rattle.std.specs.Prelude.{cond, List, [], ◌∷◌, ℕ, suc, ◌*◌, ◌/◌, ◌-◌, eqb}
use Rattle.outcomes.specs.Outcome.{one_of, share_length}
use Rattle.cipher.specs.Fips197.{rounds}

-- how many words the key has, by the length of its n shares: 4, 6 or 8, and 0 where the length is no key's
unfoldable pub key_words : (d bytes : ℕ) → ℕ
key_words d b = share_length (suc d) b / 4

-- the length of prepared keys: n · 16 · (Nr + 1)
unfoldable pub prepared_length : (nk d : ℕ) → ℕ
prepared_length nk d = suc d * (16 * suc (rounds nk))

-- one share of prepared keys: 16 · (Nr + 1) bytes, for 10, 12 or 14 rounds
abbrev pub prepared_lengths : List ℕ
prepared_lengths = 176 ∷ 208 ∷ 240 ∷ []

-- how many words the key behind prepared keys has, by their length: Nr + 1 less 7, and 0 where it is none of the three
unfoldable pub prepared_words : (d bytes : ℕ) → ℕ
prepared_words d b = one_of prepared_lengths (suc d) b / 16 - 7

-- how many S-boxes the expansion of such a key has
unfoldable pub boxes_of : (nk : ℕ) → ℕ
boxes_of nk = cond (eqb nk 4) 40 (cond (eqb nk 6) 32 52)

-- the three sizes of key, in words
pub data KeySize : ℕ → Type 0 where
  four : KeySize 4
  six : KeySize 6
  eight : KeySize 8
