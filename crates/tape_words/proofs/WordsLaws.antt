-- Laws of a tape of words: how long its bytes are, and that the part from word k on is the part from byte 4k on. Assumes nothing.
use Rattle.std.proofs.Common.{◌≡◌, ℕ, zero, suc, ◌+◌, ◌*◌, ◌-◌, ◌/◌, ◌%◌, ◌≤◌, ◌<◌, List, [], ◌∷◌, ◌++◌, length, take, drop, get_or}
use Rattle.std.proofs.Common.{refl, sym, ap, ◌∙◌, append_assoc, length-append, arith}
use Rattle.std.proofs.Math.Seq.{take-nil, drop-nil, take_at, drop_at, drop-drop, length-take-le}
use lib.ListN.{get_or-append}
use Rattle.std.proofs.lemmas.List.{take_more}
use Rattle.std.specs.Int.{to_le_bytes}
use Rattle.std.specs.Int.Width.{w32}
use borrow.Rule.Slice.PartMut.{put_mid}
use Rattle.xor.specs.Lists.{at}
use Rattle.xor.specs.Writes.{front}
use Rattle.xor.proofs.WriteLaws.{part_rest, length-part_rest}
use Rattle.tape_words.specs.Words.{word_bytes, bytes_of, words_for}

-- ---- lengths

length-word : (v : ℕ) → length (word_bytes v) ≡ 4
unfolding word_bytes
length-word v = refl

pub length-bytes : (ws : List ℕ) → length (bytes_of ws) ≡ 4 * length ws
unfolding bytes_of word_bytes
length-bytes [] = refl
length-bytes (v ∷ ws) = omega (arith, length-bytes ws)

-- ---- parts

pub bytes-append : (ws us : List ℕ) → bytes_of (ws ++ us) ≡ bytes_of ws ++ bytes_of us
unfolding bytes_of word_bytes
bytes-append [] us = refl
bytes-append (v ∷ ws) us = ap (λ (l : List ℕ). v % 256 ∷ v / 256 % 256 ∷ v / 256 / 256 % 256 ∷ v / 256 / 256 / 256 % 256 ∷ l) (bytes-append ws us)

-- the part from word k on is the part from byte 4k on
pub bytes_drop : (k : ℕ) (ws : List ℕ) → bytes_of (drop k ws) ≡ drop (4 * k) (bytes_of ws)
unfolding bytes_of word_bytes
bytes_drop zero ws = refl
bytes_drop (suc k) [] = sym (drop-nil (4 * suc k))
bytes_drop (suc k) (v ∷ ws) =
    let e : 4 * suc k ≡ suc (suc (suc (suc (4 * k)))) = omega arith in
    bytes_drop k ws ∙ sym (ap (λ (n : ℕ). drop n (bytes_of (v ∷ ws))) e)

-- the first k words are the first 4k bytes
pub bytes_take : (k : ℕ) (ws : List ℕ) → bytes_of (take k ws) ≡ take (4 * k) (bytes_of ws)
unfolding bytes_of word_bytes
bytes_take zero ws = refl
bytes_take (suc k) [] = sym (take-nil (4 * suc k))
bytes_take (suc k) (v ∷ ws) =
    let e : 4 * suc k ≡ suc (suc (suc (suc (4 * k)))) = omega arith in
    ap (λ (l : List ℕ). v % 256 ∷ v / 256 % 256 ∷ v / 256 / 256 % 256 ∷ v / 256 / 256 / 256 % 256 ∷ l) (bytes_take k ws)
    ∙ sym (ap (λ (n : ℕ). take n (bytes_of (v ∷ ws))) e)

-- the part of the tape that a callee gets from word k on, as bytes
pub bytes_rest : (k : ℕ) (ws : List ℕ) → bytes_of (take (length ws - k) (drop k ws)) ≡ drop (4 * k) (bytes_of ws)
bytes_rest k ws = ap bytes_of (part_rest ws k) ∙ bytes_drop k ws

-- the same part, as bytes that a callee gets from byte 4k on
pub bytes-part : (k : ℕ) (ws : List ℕ)
    → bytes_of (take (length ws - k) (drop k ws)) ≡ take (length (bytes_of ws) - 4 * k) (drop (4 * k) (bytes_of ws))
bytes-part k ws = bytes_rest k ws ∙ sym (part_rest (bytes_of ws) (4 * k))

pub length-bytes_rest : (k : ℕ) (ws : List ℕ) → length (bytes_of (take (length ws - k) (drop k ws))) ≡ 4 * (length ws - k)
length-bytes_rest k ws = length-bytes _ ∙ ap (◌*◌ 4) (length-part_rest ws k)

-- ---- entries

-- byte j of word k
pub bytes-at : (ws : List ℕ) (k j : ℕ) → k < length ws → j < 4 → at (bytes_of ws) (4 * k + j) ≡ at (word_bytes (at ws k)) j
unfolding at bytes_of word_bytes
bytes-at [] k j h l = absurd (omega arith)
bytes-at (v ∷ ws) zero j h l =
    let e : 4 * 0 + j ≡ j = omega arith in
    ap (λ (i : ℕ). get_or (bytes_of (v ∷ ws)) i 0) e ∙ get_or-append (word_bytes v) (bytes_of ws) 0 j l
bytes-at (v ∷ ws) (suc k) j h l =
    let e : 4 * suc k + j ≡ suc (suc (suc (suc (4 * k + j)))) = omega arith in
    ap (λ (i : ℕ). get_or (bytes_of (v ∷ ws)) i 0) e ∙ bytes-at ws k j (omega arith) l

-- ---- unpacking

-- std's bytes of a word are the word's
pub le-bytes : (v : ℕ) → to_le_bytes w32 v ≡ word_bytes v
unfolding word_bytes
le-bytes v =
    let third : v / 65536 ≡ v / 256 / 256 = omega arith in
    let fourth : v / 16777216 ≡ v / 256 / 256 / 256 = omega arith in
    cc

-- the bytes of one word more
bytes_more : (ws : List ℕ) (k : ℕ) → k < length ws → bytes_of (take (k + 1) ws) ≡ bytes_of (take k ws) ++ word_bytes (get_or ws k 0)
unfolding bytes_of word_bytes
bytes_more ws k h = ap bytes_of (take_more ws k 0 h) ∙ bytes-append (take k ws) (get_or ws k 0 ∷ [])

-- the bytes of word k, put behind those of the words before it
pub word_put : (ws y q o : List ℕ) (k : ℕ) → y ≡ front (bytes_of (take k ws)) o → k < length ws → 4 * k + 4 ≤ length o
    → q ≡ to_le_bytes w32 (get_or ws k 0) → put_mid (4 * k) (4 * k + 4 - 4 * k) y q ≡ front (bytes_of (take (k + 1) ws)) o
unfolding front
word_put ws y q o k e h l p =
    let before : List ℕ = bytes_of (take k ws) in
    let w : List ℕ = word_bytes (get_or ws k 0) in
    let n : length before ≡ 4 * k = length-bytes _ ∙ ap (◌*◌ 4) (length-take-le k ws (omega arith)) in
    let r : drop (4 * k) y ≡ drop (4 * k) o = rw (e, n) (drop_at before (drop (4 * k) o) (4 * k) n) in
    let t : take (4 * k) y ≡ before = rw (e, n) (take_at before (drop (4 * k) o) (4 * k) n) in
    let s : length (before ++ w) ≡ 4 * k + 4 = length-append before w ∙ omega (arith, n, length-word (get_or ws k 0)) in
    rw (p ∙ le-bytes (get_or ws k 0), t, r, bytes_more ws k h, append_assoc, s, drop-drop) (ap (λ (m : ℕ). before ++ (w ++ drop m o)) (omega arith))

-- ---- how many words

-- the words for some bytes hold them, and no fewer do
pub words_hold : (n : ℕ) → n ≤ 4 * words_for n
unfolding words_for
words_hold n = omega arith

pub words_least : (n k : ℕ) → n ≤ 4 * k → words_for n ≤ k
unfolding words_for
words_least n k h = omega arith

-- ---- numbers of bytes that fill their words

abbrev pub Whole : (bytes : ℕ) → Type 0
Whole n = 4 * words_for n ≡ n

pub whole_words : (n k : ℕ) → 4 * k ≡ n → k ≡ words_for n
unfolding words_for
whole_words n k h = omega arith

pub whole_four : (k : ℕ) → Whole (4 * k)
unfolding words_for
whole_four k = omega arith

pub whole-add : (a b : ℕ) → Whole a → Whole b → Whole (a + b)
unfolding words_for
whole-add a b u v = omega arith

-- what comes behind them starts at a fresh word
pub words-add : (a b : ℕ) → Whole a → words_for (a + b) ≡ words_for a + words_for b
unfolding words_for
words-add a b u = omega arith

-- ---- a tape

-- a tape that has the words for some bytes has those bytes
pub words_reach : (n : ℕ) (ws : List ℕ) → words_for n ≤ length ws → n ≤ length (bytes_of ws)
words_reach n ws h = omega (arith, length-bytes ws, words_hold n)

-- and a tape that has some bytes has the words for them
pub reach_words : (n : ℕ) (ws : List ℕ) → n ≤ length (bytes_of ws) → words_for n ≤ length ws
reach_words n ws h = words_least n (length ws) (omega (arith, length-bytes ws))
