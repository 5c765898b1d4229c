-- The runs that the hiding rules are proved of: one S-box, a whole call, a session; and a call whose key and block are split on tapes of words too.
-- Document 01 decides how a string is split, and what a choice is. Assumes nothing: these are definitions.
use Rattle.std.specs.Prelude.{◌≡◌, List, ℕ, ◌+◌, ◌*◌, ◌^◌, ◌≤◌, ◌<◌, length, take, drop}
use Rattle.xor.specs.Lists.{All, Below}
use Rattle.gf256.specs.declared.Direction.{Direction}
use Rattle.isw.specs.Hiding.{how_many, factor, same}
use Rattle.tape_words.specs.Words.{bytes_of, words_for}
use Rattle.shares.specs.Strings.{Shares, split, split_need}
use Rattle.sbox.specs.Box.{box_need}
use Rattle.cipher.specs.Cipher.{cipher_need}
use Rattle.probing.specs.BoxPlaces.{box_sheet, box_count}
use Rattle.probing.specs.CallPlaces.{call_sheet, call_count}
use Rattle.probing.specs.SessionPlaces.{session_sheet, session_need, session_count}
use Rattle.probing.specs.Hiding.{Run, View, viewed}

-- a plain string of so many bytes
pub record Plain (l : ℕ) (s : List ℕ) : Type 0 where
  pub long : length s ≡ l
  pub small : Below 256 s

-- ONE S-BOX of order d, or inverse S-box, of a byte with d masks of its own
abbrev pub box_run : Direction → (d : ℕ) → Run
box_run w d =
    record {
      Secret = ℕ;
      good = λ x. x < 256;
      masks = d;
      need = box_need d;
      count = box_count d;
      sheet = λ x ms ts. box_sheet w d (factor x ms) ts;
    }

-- masks for a string of l bytes and one of m bytes: d for each byte, those of the first string in front
unfoldable pub masks_of_two : (d l m : ℕ) → ℕ
masks_of_two d l m = split_need d l + split_need d m

-- a run of order d on two strings of l and of m bytes, each in shares by masks of its own
abbrev pub two_run : (l m d need count : ℕ) (sheet : (first second : Shares) → (tape : List ℕ) → List ℕ) → Run
two_run l m d need count sheet =
    record {
      Secret = List ℕ × List ℕ;
      good = λ s. Plain l s.0 × Plain m s.1;
      masks = masks_of_two d l m;
      need = need;
      count = count;
      sheet = λ s ms ts. sheet (split d s.0 ms) (split d s.1 (drop (split_need d l) ms)) ts;
    }

-- A WHOLE CALL of order d, its key expansion included; the secret is key and block. Keys of 16, 24 and 32 bytes are nk = 4, 6 and 8
abbrev pub call_run : Direction → (nk d : ℕ) → Run
call_run w nk d = two_run (4 * nk) 16 d (cipher_need nk d) (call_count w nk d) (call_sheet w nk d)

-- A SESSION of order d: one key prepared, and n blocks encrypted from it; the secret is the key and all blocks, one behind the other
abbrev pub session_run : (n nk d : ℕ) → Run
session_run n nk d = two_run (4 * nk) (16 * n) d (session_need n nk d) (session_count n nk d) (session_sheet n nk d)

-- ---- A CALL WHOSE KEY AND BLOCK ARE SPLIT BY THE LIBRARY, each of the three calls on words of its own: nothing is free but the words. What a call
-- leaves of its last word, and whole words that it does not take, are read by nobody

-- the sheet that k words for the key, m for the block, and those behind them for the call make of key and block
unfoldable pub split_chosen : Direction → (nk d k m : ℕ) (key block words : List ℕ) → List ℕ
split_chosen w nk d k m key block ws =
    call_sheet w nk d (split d key (bytes_of (take k ws))) (split d block (bytes_of (take m (drop k ws)))) (bytes_of (drop m (drop k ws)))

-- how many choices of all these words give just the reading's values to the views
unfoldable pub split_readings : Direction → (nk d k m n : ℕ) (key block : List ℕ) → List View → (reading : List ℕ) → ℕ
split_readings w nk d k m n key block vs rs =
    how_many (2 ^ 32) (k + (m + n)) (λ ws. same (viewed (split_chosen w nk d k m key block ws) vs) rs)

-- the rule, wherever the words are enough
unfoldable pub SplitCallHides : Direction → Type 0
SplitCallHides w =
    (nk d k m n : ℕ) (views : List View) (reading key block key' block' : List ℕ)
    → words_for (split_need d (4 * nk)) ≤ k → words_for (split_need d 16) ≤ m → words_for (cipher_need nk d) ≤ n
    → length views ≤ d → All (λ v. v.0 < call_count w nk d) views
    → Plain (4 * nk) key → Plain (4 * nk) key' → Plain 16 block → Plain 16 block'
    → split_readings w nk d k m n key block views reading ≡ split_readings w nk d k m n key' block' views reading
