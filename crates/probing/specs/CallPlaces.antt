-- The places of a whole masked call, key expansion included: every value that its defined steps compute on the way, in their order (its probes).
-- No document asks for it; documents 01 and 02 decide the steps. Assumes nothing: these are definitions. The steps are those of `Cipher`, and read
-- the same bytes of the tape.
use Rattle.std.specs.Prelude.{List, ◌++◌, ℕ, ◌+◌, ◌*◌, ◌-◌, drop}
use Rattle.gf256.specs.declared.Direction.{Direction}
use Rattle.gf256.specs.declared.Direction.TheVariants.{Forward, Inverse}
use Rattle.shares.specs.Strings.{Shares}
use Rattle.cipher.specs.Fips197.{rounds}
use Rattle.cipher.specs.States.{adds}
use Rattle.cipher.specs.Cipher.{round_keys, schedule, schedule_need, encrypted, decrypted}
use Rattle.probing.specs.StringPlaces.{string_sheet, string_count}
use Rattle.probing.specs.SchedulePlaces.{schedule_sheet, schedule_count}
use Rattle.probing.specs.RoundPlaces.{rounds_sheet, rounds_count, inv_rounds_sheet, inv_rounds_count}

-- ---- from round keys

-- an encryption: the block plus round key 0, and the rounds
unfoldable pub encrypted_with_sheet : (nk d : ℕ) → (keys input : Shares) → (tape : List ℕ) → List ℕ
encrypted_with_sheet nk d ks x ts =
    string_sheet 16 (adds x (round_keys ks 0)) ++ rounds_sheet (rounds nk - 1) 1 d ks (adds x (round_keys ks 0)) ts

-- how many places it has
unfoldable pub encrypted_with_count : (nk d : ℕ) → ℕ
encrypted_with_count nk d = string_count 16 d + rounds_count (rounds nk - 1) d

-- a decryption: the block plus the last round key, and the rounds
unfoldable pub decrypted_with_sheet : (nk d : ℕ) → (keys input : Shares) → (tape : List ℕ) → List ℕ
decrypted_with_sheet nk d ks x ts =
    string_sheet 16 (adds x (round_keys ks (rounds nk))) ++ inv_rounds_sheet (rounds nk - 1) d ks (adds x (round_keys ks (rounds nk))) ts

-- how many places it has
unfoldable pub decrypted_with_count : (nk d : ℕ) → ℕ
decrypted_with_count nk d = string_count 16 d + inv_rounds_count (rounds nk - 1) d

-- ---- THE PLACES OF A CALL: the shares of the key and of the block, the key expansion, the rounds. The last of them are the shares of the output

-- the values at all places of an encryption (a transcript)
unfoldable pub encryption_sheet : (nk d : ℕ) → (key input : Shares) → (tape : List ℕ) → List ℕ
encryption_sheet nk d k x ts =
    string_sheet (4 * nk) k
    ++ (string_sheet 16 x ++ (schedule_sheet nk d k ts ++ encrypted_with_sheet nk d (schedule nk d k ts) x (drop (schedule_need nk d) ts)))

-- how many they are
unfoldable pub encryption_count : (nk d : ℕ) → ℕ
encryption_count nk d = string_count (4 * nk) d + (string_count 16 d + (schedule_count nk d + encrypted_with_count nk d))

-- the values at all places of a decryption
unfoldable pub decryption_sheet : (nk d : ℕ) → (key input : Shares) → (tape : List ℕ) → List ℕ
decryption_sheet nk d k x ts =
    string_sheet (4 * nk) k
    ++ (string_sheet 16 x ++ (schedule_sheet nk d k ts ++ decrypted_with_sheet nk d (schedule nk d k ts) x (drop (schedule_need nk d) ts)))

-- how many they are
unfoldable pub decryption_count : (nk d : ℕ) → ℕ
decryption_count nk d = string_count (4 * nk) d + (string_count 16 d + (schedule_count nk d + decrypted_with_count nk d))

-- ---- by the direction of the cipher

-- the places of a call
abbrev pub call_sheet : Direction → (nk d : ℕ) → (key input : Shares) → (tape : List ℕ) → List ℕ
call_sheet Forward nk d k x ts = encryption_sheet nk d k x ts
call_sheet Inverse nk d k x ts = decryption_sheet nk d k x ts

-- how many they are
abbrev pub call_count : Direction → (nk d : ℕ) → ℕ
call_count Forward nk d = encryption_count nk d
call_count Inverse nk d = decryption_count nk d

-- what a call makes
abbrev pub made : Direction → (nk d : ℕ) → (key input : Shares) → (tape : List ℕ) → Shares
made Forward nk d k x ts = encrypted nk d k x ts
made Inverse nk d k x ts = decrypted nk d k x ts
