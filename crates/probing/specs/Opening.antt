-- THE HIDING RULE OF A CALL WHOSE RESULT IS OPENED: each byte of the output is refreshed once more, and then all its shares are shown, as they are
-- where the result is joined in the open. Besides them d places say nothing more than the result does.
-- No document asks for it; document 02, wish 7, decides the refresh. Assumes nothing: these are definitions.
use Rattle.std.specs.Prelude.{◌≡◌, ◌&&◌, List, [], ◌∷◌, ◌++◌, ℕ, ◌+◌, ◌*◌, ◌≤◌, ◌<◌, length, drop}
use Rattle.xor.specs.Lists.{All}
use Rattle.gf256.specs.declared.Direction.{Direction}
use Rattle.gf256.specs.declared.Direction.TheVariants.{Forward, Inverse}
use Rattle.isw.specs.Hiding.{same}
use Rattle.tape_words.specs.Words.{bytes_of, words_for}
use Rattle.shares.specs.Strings.{Shares, split, split_need}
use Rattle.refresh.specs.Refresh.{refreshed, refresh_need}
use Rattle.refresh.specs.Places.{refresh_sheet, refresh_count}
use Rattle.choices.specs.Choices.{choices}
use Rattle.cipher.specs.Fips197.{cipher, inv_cipher}
use Rattle.cipher.specs.States.{column}
use Rattle.cipher.specs.Cipher.{cipher_need}
use Rattle.probing.specs.CallPlaces.{made, call_sheet, call_count}
use Rattle.probing.specs.Hiding.{View, viewed}
use Rattle.probing.specs.Runs.{Plain, masks_of_two}

-- what a call makes of plain strings, by the direction of the cipher
abbrev pub result : Direction → (nk : ℕ) (key input : List ℕ) → List ℕ
result Forward nk k x = cipher nk k x
result Inverse nk k x = inv_cipher nk k x

-- ---- a refresh of each listed byte of a string: the places, and the shares that are shown

-- the places
unfoldable pub opening_sheet : (d : ℕ) → (ks : List ℕ) → Shares → (tape : List ℕ) → List ℕ
opening_sheet d [] ss ts = []
opening_sheet d (k ∷ ks) ss ts = refresh_sheet d (column k ss) ts ++ opening_sheet d ks ss (drop (refresh_need d) ts)

-- the shares
unfoldable pub opened : (d : ℕ) → (ks : List ℕ) → Shares → (tape : List ℕ) → List ℕ
opened d [] ss ts = []
opened d (k ∷ ks) ss ts = refreshed d (column k ss) ts ++ opened d ks ss (drop (refresh_need d) ts)

-- how many bytes are drawn
unfoldable pub opening_need : (d : ℕ) → (ks : List ℕ) → ℕ
opening_need d [] = 0
opening_need d (k ∷ ks) = refresh_need d + opening_need d ks

-- how many places there are
unfoldable pub opening_count : (d : ℕ) → (ks : List ℕ) → ℕ
opening_count d [] = 0
opening_count d (k ∷ ks) = refresh_count d + opening_count d ks

-- the bytes of a block
abbrev pub in_block : List ℕ
in_block = 0 ∷ 1 ∷ 2 ∷ 3 ∷ 4 ∷ 5 ∷ 6 ∷ 7 ∷ 8 ∷ 9 ∷ 10 ∷ 11 ∷ 12 ∷ 13 ∷ 14 ∷ 15 ∷ []

-- ---- a call and then the opening

-- how many bytes both draw
unfoldable pub opened_need : (nk d : ℕ) → ℕ
opened_need nk d = cipher_need nk d + opening_need d in_block

-- how many places both have
unfoldable pub opened_count : Direction → (nk d : ℕ) → ℕ
opened_count w nk d = call_count w nk d + opening_count d in_block

-- the places of both, and the shares that are shown, for a key and a block in shares
unfoldable pub opened_run : Direction → (nk d : ℕ) → (key input : Shares) → (tape : List ℕ) → List ℕ × List ℕ
opened_run w nk d k x ts =
    let out = made w nk d k x ts in
    let us = drop (cipher_need nk d) ts in
    (call_sheet w nk d k x ts ++ opening_sheet d in_block out us, opened d in_block out us)

-- for a choice of masks and of the bytes of a tape
unfoldable pub opened_chosen : Direction → (nk d : ℕ) (key block masks tape : List ℕ) → List ℕ × List ℕ
opened_chosen w nk d key block ms ts = opened_run w nk d (split d key ms) (split d block (drop (split_need d (4 * nk)) ms)) ts

-- how many choices of masks and of n words give just the reading's values to the views, and show just these shares
unfoldable pub opened_readings : Direction → (nk d n : ℕ) (key block : List ℕ) → List View → (reading shown : List ℕ) → ℕ
opened_readings w nk d n key block vs rs out =
    choices (masks_of_two d (4 * nk) 16) n (λ ms ws.
    let r = opened_chosen w nk d key block ms (bytes_of ws) in
    same (viewed r.0 vs) rs && same r.1 out)

-- THE RULE: at every order d, on every tape that has the words of both, for at most d views, every reading, every sharing of the result and any two
-- pairs of key and block that have one result, equally many choices give the reading and the sharing
unfoldable pub CallOpens : Direction → Type 0
CallOpens w =
    (nk d n : ℕ) (views : List View) (reading shown key block key' block' : List ℕ) → 1 ≤ nk → words_for (opened_need nk d) ≤ n
    → length views ≤ d → All (λ v. v.0 < opened_count w nk d) views
    → Plain (4 * nk) key → Plain (4 * nk) key' → Plain 16 block → Plain 16 block' → result w nk key block ≡ result w nk key' block'
    → opened_readings w nk d n key block views reading shown ≡ opened_readings w nk d n key' block' views reading shown
