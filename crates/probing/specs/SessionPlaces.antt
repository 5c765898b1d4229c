-- The places of a session: a key is prepared once, and then n blocks are encrypted from its round keys, each on what is left of the tape.
-- No document asks for it; document 02, wish 1, decides the calls. Assumes nothing: these are definitions.
use Rattle.std.specs.Prelude.{List, [], ◌++◌, map, ℕ, zero, suc, ◌+◌, ◌*◌, take, drop}
use Rattle.shares.specs.Strings.{Shares}
use Rattle.cipher.specs.Fips197.{rounds}
use Rattle.cipher.specs.Cipher.{schedule, schedule_need, encrypted_with_need}
use Rattle.probing.specs.StringPlaces.{string_sheet, string_count}
use Rattle.probing.specs.SchedulePlaces.{schedule_sheet, schedule_count}
use Rattle.probing.specs.CallPlaces.{encrypted_with_sheet, encrypted_with_count}

-- block j of a string of blocks
abbrev pub block_of : Shares → (j : ℕ) → Shares
block_of xs j = map (λ s. take 16 (drop (16 * j) s)) xs

-- ---- the preparation: the shares of the key, the key expansion, and the round keys as they are put out, each share as a whole and its bytes

-- how many bytes the round keys are
abbrev pub keys_length : (nk : ℕ) → ℕ
keys_length nk = 16 * suc (rounds nk)

-- its places
unfoldable pub preparation_sheet : (nk d : ℕ) → (key : Shares) → (tape : List ℕ) → List ℕ
preparation_sheet nk d k ts =
    string_sheet (4 * nk) k ++ (schedule_sheet nk d k ts ++ string_sheet (keys_length nk) (schedule nk d k ts))

-- how many they are
unfoldable pub preparation_count : (nk d : ℕ) → ℕ
preparation_count nk d = string_count (4 * nk) d + (schedule_count nk d + string_count (keys_length nk) d)

-- ---- the blocks

-- one block: its shares, and its encryption from round keys
unfoldable pub block_sheet : (nk d : ℕ) → (keys input : Shares) → (tape : List ℕ) → List ℕ
block_sheet nk d ks x ts = string_sheet 16 x ++ encrypted_with_sheet nk d ks x ts

-- how many places it has
unfoldable pub block_count : (nk d : ℕ) → ℕ
block_count nk d = string_count 16 d + encrypted_with_count nk d

-- blocks j, j + 1 and so on, as many as are left
unfoldable pub blocks_sheet : (left j : ℕ) → (nk d : ℕ) → (keys blocks : Shares) → (tape : List ℕ) → List ℕ
blocks_sheet zero j nk d ks xs ts = []
blocks_sheet (suc l) j nk d ks xs ts =
    block_sheet nk d ks (block_of xs j) ts ++ blocks_sheet l (suc j) nk d ks xs (drop (encrypted_with_need nk d) ts)

-- how many bytes they draw
unfoldable pub blocks_need : (left nk d : ℕ) → ℕ
blocks_need zero nk d = 0
blocks_need (suc l) nk d = encrypted_with_need nk d + blocks_need l nk d

-- how many places they have
unfoldable pub blocks_count : (left nk d : ℕ) → ℕ
blocks_count zero nk d = 0
blocks_count (suc l) nk d = block_count nk d + blocks_count l nk d

-- ---- THE PLACES OF A SESSION with n blocks

-- the values at all of them (a transcript)
unfoldable pub session_sheet : (n nk d : ℕ) → (key blocks : Shares) → (tape : List ℕ) → List ℕ
session_sheet n nk d k xs ts =
    preparation_sheet nk d k ts ++ blocks_sheet n 0 nk d (schedule nk d k ts) xs (drop (schedule_need nk d) ts)

-- how many bytes it draws
unfoldable pub session_need : (n nk d : ℕ) → ℕ
session_need n nk d = schedule_need nk d + blocks_need n nk d

-- how many places it has
unfoldable pub session_count : (n nk d : ℕ) → ℕ
session_count n nk d = preparation_count nk d + blocks_count n nk d
