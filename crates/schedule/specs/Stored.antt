-- What a word of the key expansion does to the buffer, and what its routines ask of their slices. Assumes nothing: these are definitions.
-- Inner contracts: no document decides them.
use Rattle.std.specs.Prelude.{List, ◌++◌, map, ◌≡◌, ℕ, suc, ◌+◌, ◌*◌, ◌-◌, ◌/◌, ◌≤◌, length, take, drop}
use Rattle.xor.specs.Sums.{xors}
use Rattle.shares.specs.Strings.{Shares, parts, laid}
use Rattle.cipher.specs.Fips197.{word, kind, rounds}
use Rattle.cipher.specs.States.{each_by}
use Rattle.cipher.specs.Cipher.{subs_need, in_word, words, masked_temp, temp_need, schedule_from_need, schedule_need}

-- word i written into share j, from the shares t of the temporary word
abbrev pub stored : (nk i : ℕ) (t : List ℕ) → ℕ → List ℕ → List ℕ
stored nk i t j k = take (4 * i) k ++ (xors (word k (i - nk)) (take 4 (drop (j * 4) t)) ++ drop (4 * i + 4) k)

-- word i written into all shares of m bytes
unfoldable pub word_stored : (nk d m i : ℕ) (keys tape : List ℕ) → List ℕ
word_stored nk d m i keys tape =
    let t₀ = laid (words (parts (suc d) m keys) (i - 1)) in
    let t₁ = laid (masked_temp d (kind nk i) (i / nk) (parts (suc d) 4 t₀) tape) in
    laid (each_by (stored nk i t₁) 0 (parts (suc d) m keys))

-- the words before word i, of each share, in a buffer with room for the total
abbrev pub written : (d total i : ℕ) (keys : List ℕ) → Shares
written d total i keys = map (take (4 * i)) (parts (suc d) (4 * total) keys)

-- ---- what the routines ask

-- to store a word: its number, and the length of the keys
pub record StoreFits (nk d m i : ℕ) (keys : List ℕ) : Type 0 where
  pub some : 1 ≤ nk
  pub past : nk ≤ i
  pub room : 4 * i + 4 ≤ m
  pub keyed : length keys ≡ suc d * m

-- for the temporary word where i is a multiple of nk, the j-th
pub record TurnedFits (d j : ℕ) (tape t : List ℕ) : Type 0 where
  pub some : 1 ≤ j
  pub long : length t ≡ suc d * 4
  pub drawn : subs_need d in_word ≤ length tape

-- for the temporary word of word i
pub record TempFits (nk d i : ℕ) (tape t : List ℕ) : Type 0 where
  pub some : 1 ≤ nk
  pub past : nk ≤ i
  pub long : length t ≡ suc d * 4
  pub drawn : temp_need d (kind nk i) ≤ length tape

-- for word i
pub record WordFits (nk d m i : ℕ) (keys tape : List ℕ) : Type 0 where
  pub some : 1 ≤ nk
  pub past : nk ≤ i
  pub room : 4 * i + 4 ≤ m
  pub keyed : length keys ≡ suc d * m
  pub drawn : temp_need d (kind nk i) ≤ length tape

-- for all words up to the total
pub record ExpandFits (nk d total : ℕ) (keys tape : List ℕ) : Type 0 where
  pub some : 1 ≤ nk
  pub past : nk ≤ total
  pub small : total ≤ 60
  pub keyed : length keys ≡ suc d * (4 * total)
  pub drawn : schedule_from_need (total - nk) nk nk d ≤ length tape

-- for the whole, from a key
pub record ExpansionFits (nk d : ℕ) (key keys tape : List ℕ) : Type 0 where
  pub some : 1 ≤ nk
  pub small : nk ≤ 8
  pub long : length key ≡ suc d * (4 * nk)
  pub keyed : length keys ≡ suc d * (16 * suc (rounds nk))
  pub drawn : schedule_need nk d ≤ length tape
