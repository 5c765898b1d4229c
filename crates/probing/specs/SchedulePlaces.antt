-- The places of the key expansion over shares: every value that its defined steps compute on the way, in their order (its probes).
-- No document asks for it; document 01 decides the steps. Assumes nothing: these are definitions. The steps are those of `Cipher`, and read the same
-- bytes of the tape. RotWord and the cut into words only move bytes, and have no places of their own.
use Rattle.std.specs.Prelude.{List, [], ◌++◌, ℕ, zero, suc, ◌+◌, ◌-◌, ◌/◌, drop}
use Rattle.gf256.specs.declared.Direction.TheVariants.{Forward}
use Rattle.shares.specs.Strings.{Shares}
use Rattle.cipher.specs.Fips197.{Kind, turned, subbed, plain, kind, total_words}
use Rattle.cipher.specs.States.{behind}
use Rattle.cipher.specs.Cipher.{in_word, masked_temp, temp_need, words, masked_word}
use Rattle.probing.specs.StringPlaces.{string_sheet, string_count, subs_sheet, subs_count}

-- the temporary word: its S-boxes, and where Rcon goes into share 0, the word after it
unfoldable pub temp_sheet : (d : ℕ) → Kind → (j : ℕ) → Shares → (tape : List ℕ) → List ℕ
temp_sheet d turned j ws ts = subs_sheet Forward d in_word ws ts ++ string_sheet 4 (masked_temp d turned j ws ts)
temp_sheet d subbed j ws ts = subs_sheet Forward d in_word ws ts
temp_sheet d plain j ws ts = []

-- how many they are
unfoldable pub temp_count : (d : ℕ) → Kind → ℕ
temp_count d turned = subs_count d in_word + string_count 4 d
temp_count d subbed = subs_count d in_word
temp_count d plain = 0

-- word i: the temporary word, and its sum with word i - nk
unfoldable pub word_sheet : (nk d i : ℕ) → Shares → (tape : List ℕ) → List ℕ
word_sheet nk d i ks ts = temp_sheet d (kind nk i) (i / nk) (words ks (i - 1)) ts ++ string_sheet 4 (masked_word nk d i ks ts)

-- how many they are
unfoldable pub word_count : (nk d i : ℕ) → ℕ
word_count nk d i = temp_count d (kind nk i) + string_count 4 d

-- the words from i on, as many as are left
unfoldable pub schedule_from_sheet : (left i : ℕ) → (nk d : ℕ) → Shares → (tape : List ℕ) → List ℕ
schedule_from_sheet zero i nk d ks ts = []
schedule_from_sheet (suc l) i nk d ks ts =
    word_sheet nk d i ks ts ++ schedule_from_sheet l (suc i) nk d (behind ks (masked_word nk d i ks ts)) (drop (temp_need d (kind nk i)) ts)

-- how many places they have
unfoldable pub schedule_from_count : (left i : ℕ) → (nk d : ℕ) → ℕ
schedule_from_count zero i nk d = 0
schedule_from_count (suc l) i nk d = word_count nk d i + schedule_from_count l (suc i) nk d

-- the places of the key expansion
unfoldable pub schedule_sheet : (nk d : ℕ) → (key : Shares) → (tape : List ℕ) → List ℕ
schedule_sheet nk d k ts = schedule_from_sheet (total_words nk - nk) nk nk d k ts

-- how many they are
unfoldable pub schedule_count : (nk d : ℕ) → ℕ
schedule_count nk d = schedule_from_count (total_words nk - nk) nk nk d
