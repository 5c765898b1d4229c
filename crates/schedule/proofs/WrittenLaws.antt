-- A buffer of key expansion whose first words are written in each share, and one word more: a step of `key_words`. Assumes nothing.
use mathlib.Core.Path.{◌≡◌, refl, sym, ap, ap₂, ◌∙◌}
use mathlib.Core.List.{List, [], ◌∷◌, ◌++◌, map, append_assoc}
use Prim.Native.Nat.{ℕ, zero, suc, ◌+◌, ◌*◌, ◌-◌, ◌/◌, ◌≤◌, ◌<◌}
use native.Mathlib.Nat.{suc-mul, zero-mul, one-mul}
use native.Mathlib.Omega.{arith}
use lib.ListN.{length, take, drop, length-drop, length-append}
use lib.Seq.{drop-drop, take_at, length-take-le}
use Rattle.xor.specs.Sums.{xors}
use Rattle.shares.specs.Strings.{Shares, Shared, alone, more, parts, laid}
use Rattle.shares.proofs.StringsLaws.{laid-length, shared-parts, parts-laid}
use Rattle.cipher.specs.Fips197.{kind, word}
use Rattle.cipher.specs.States.{adds, behind, each_by}
use Rattle.cipher.specs.Cipher.{masked_temp, words, masked_word}
use Rattle.cipher.proofs.CipherLaws.{temp-shared, words-shared}
use Rattle.buffers.proofs.SecondLaws.{word-part}
use Rattle.schedule.specs.Stored.{stored, word_stored, written}
use Rattle.schedule.proofs.WordLaws.{fresh_length}

-- ---- a word of the part that is written

word-front : (i w : ℕ) (k : List ℕ) → suc w ≤ i → word (take (4 * i) k) w ≡ word k w
unfolding word
word-front i w k h =
    let z = zero-mul (4 * i) in
    let e : 4 * w ≡ 0 * (4 * i) + 4 * w = omega arith in
    sym (word-part (4 * i) w 0 (4 * w) 4 k (omega arith) e refl ∙ ap (λ (x : ℕ). word (take (4 * i) (drop x k)) w) z)

words-front : (i w : ℕ) (ss : Shares) → suc w ≤ i → words (map (take (4 * i)) ss) w ≡ words ss w
words-front i w [] h = refl
words-front i w (s ∷ ss) h = ap₂ ◌∷◌ (word-front i w s h) (words-front i w ss h)

-- ---- loops that keep the length of each share

module _ (f : ℕ → List ℕ → List ℕ) (m n : ℕ) (keeps : (i : ℕ) → i < n → (s : List ℕ) → length s ≡ m → length (f i s) ≡ m) where
  pub each_by-shared : (d j : ℕ) (ks : List ℕ) → suc d * m ≤ length ks → j + suc d ≤ n → Shared m d (each_by f j (parts (suc d) m ks))
  unfolding each_by parts
  each_by-shared zero j ks h g =
      let e = one-mul m in
      alone (keeps j (omega arith) (take m ks) (length-take-le m ks (omega arith)))
  each_by-shared (suc d) j ks h g =
      let q = suc-mul (suc d) m in
      let r = length-drop m ks in
      more (keeps j (omega arith) (take m ks) (length-take-le m ks (omega arith))) (each_by-shared d (suc j) (drop m ks) (omega arith) (omega arith))

-- ---- one word written into each share

module _ (nk i : ℕ) (some_words : 1 ≤ nk) (past : nk ≤ i) (n : ℕ) (t : List ℕ) (t_long : length t ≡ n * 4) where
  pub stored-length : (j : ℕ) → j < n → (k : List ℕ) → 4 * i + 4 ≤ length k → length (stored nk i t j k) ≡ length k
  stored-length j g k h =
      let w = xors (word k (i - nk)) (take 4 (drop (j * 4) t)) in
      let f = fresh_length nk i some_words past t k j n g t_long h in
      let a = length-append (take (4 * i) k) (w ++ drop (4 * i + 4) k) in
      let b = length-append w (drop (4 * i + 4) k) in
      let c = length-drop (4 * i + 4) k in
      let e = length-take-le (4 * i) k (omega arith) in
      omega arith

  stored-front : (j : ℕ) → j < n → (k : List ℕ) → 4 * i + 4 ≤ length k
      → take (4 * i + 4) (stored nk i t j k) ≡ take (4 * i) k ++ xors (word k (i - nk)) (take 4 (drop (j * 4) t))
  stored-front j g k h =
      let w = xors (word k (i - nk)) (take 4 (drop (j * 4) t)) in
      let f = fresh_length nk i some_words past t k j n g t_long h in
      let a = length-append (take (4 * i) k) w in
      let e = length-take-le (4 * i) k (omega arith) in
      ap (take (4 * i + 4)) (sym (append_assoc (take (4 * i) k) w (drop (4 * i + 4) k)))
      ∙ take_at (take (4 * i) k ++ w) (drop (4 * i + 4) k) (4 * i + 4) (omega arith)

  module _ (m : ℕ) (fits : 4 * i + 4 ≤ m) where
    stored-shared : (d : ℕ) (keys : List ℕ) → suc d * m ≤ length keys → suc d ≤ n → Shared m d (each_by (stored nk i t) 0 (parts (suc d) m keys))
    stored-shared d keys h g = each_by-shared (stored nk i t) m n (λ j u k e. stored-length j u k (omega arith) ∙ e) d 0 keys h (omega arith)

    -- the written part grows by one word in each share
    grown : (c j : ℕ) (keys : List ℕ) → c * m ≤ length keys → j + c ≤ n
        → map (take (4 * i + 4)) (each_by (stored nk i t) j (parts c m keys))
        ≡ behind (map (take (4 * i)) (parts c m keys)) (adds (words (parts c m keys) (i - nk)) (parts c 4 (drop (j * 4) t)))
    unfolding each_by parts adds behind
    grown zero j keys h g = refl
    grown (suc c) j keys h g =
        let q = suc-mul c m in
        let e = length-take-le m keys (omega arith) in
        let r = length-drop m keys in
        let z : j * 4 + 4 ≡ suc j * 4 = omega arith in
        ap₂ ◌∷◌ (stored-front j (omega arith) (take m keys) (omega arith))
        (grown c (suc j) (drop m keys) (omega arith) (omega arith)
        ∙ ap (λ (u : List ℕ). behind (map (take (4 * i)) (parts c m (drop m keys))) (adds (words (parts c m (drop m keys)) (i - nk)) (parts c 4 u)))
        (sym (drop-drop 4 (j * 4) t ∙ ap (λ (x : ℕ). drop x t) z)))

-- ---- word i written into all shares

module _ (nk d total i : ℕ) (keys tape : List ℕ) {keys' : List ℕ} (some_words : 1 ≤ nk) (past : nk ≤ i) (below : i < total)
    (long : length keys ≡ suc d * (4 * total)) (made : keys' ≡ word_stored nk d (4 * total) i keys tape) where
  abbrev m : ℕ
  m = 4 * total

  abbrev ks : Shares
  ks = parts (suc d) m keys

  -- the temporary word, as the code has it and as the definition has it
  abbrev t : List ℕ
  t = laid (masked_temp d (kind nk i) (i / nk) (parts (suc d) 4 (laid (words ks (i - 1)))) tape)

  abbrev temp : Shares
  temp = masked_temp d (kind nk i) (i / nk) (words ks (i - 1)) tape

  old_shape : Shared 4 d (words ks (i - 1))
  old_shape = words-shared (i - 1) (omega arith) (shared-parts d m keys (omega arith))

  temp_shape : Shared 4 d temp
  temp_shape = temp-shared (kind nk i) (i / nk) tape old_shape

  t_is : t ≡ laid temp
  t_is = ap (λ (p : Shares). laid (masked_temp d (kind nk i) (i / nk) p tape)) (parts-laid old_shape)

  t_long : length t ≡ suc d * 4
  t_long = ap length t_is ∙ laid-length temp_shape

  shape : Shared m d (each_by (stored nk i t) 0 ks)
  shape = stored-shared nk i some_words past (suc d) t t_long m (omega arith) d keys (omega arith) (omega arith)

  pub word_stored-long : length keys' ≡ suc d * (4 * total)
  unfolding word_stored
  word_stored-long = ap length made ∙ laid-length shape

  -- what is written is one word longer, by the word of the definition
  pub word_stored_next : written d total (i + 1) keys' ≡ behind (written d total i keys) (masked_word nk d i (written d total i keys) tape)
  unfolding word_stored masked_word
  word_stored_next =
      let z : 4 * (i + 1) ≡ 4 * i + 4 = omega arith in
      let back : parts (suc d) 4 (drop (0 * 4) t) ≡ temp =
      ap (λ (x : ℕ). parts (suc d) 4 (drop x t)) (zero-mul 4) ∙ ap (parts (suc d) 4) t_is ∙ parts-laid temp_shape
      in
      ap₂ (λ (x : ℕ) (p : Shares). map (take x) p) z (ap (parts (suc d) m) made ∙ parts-laid shape)
      ∙ grown nk i some_words past (suc d) t t_long m (omega arith) (suc d) 0 keys (omega arith) (omega arith)
      ∙ ap (behind (written d total i keys))
      (ap₂ adds (sym (words-front i (i - nk) ks (omega arith)))
      (back ∙ ap (λ (p : Shares). masked_temp d (kind nk i) (i / nk) p tape) (sym (words-front i (i - 1) ks (omega arith)))))
