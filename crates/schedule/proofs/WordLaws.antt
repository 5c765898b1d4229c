-- One word of a key in shares: Rcon, the temporary word, and the word stored. Assumes nothing.
use mathlib.Core.Path.{◌≡◌, refl, sym, ap, ap₂, ◌∙◌}
use mathlib.Core.Bool.{Bool, true, false, cond, ◌&&◌}
use mathlib.Core.List.{List, [], ◌∷◌, ◌++◌, map, append_assoc}
use Prim.Native.Nat.{ℕ, zero, suc, ◌+◌, ◌*◌, ◌-◌, ◌/◌, ◌%◌, ◌≤◌, ◌<◌}
use native.Mathlib.Nat.{div-eq-sub-div, add-zero}
use native.Mathlib.Omega.{arith}
use native.Mathlib.Numerals.{add-one}
use borrow.Author.Tests.{eq-eqb, ne_eqb, lt-ltb}
use lib.Dec.{T, ltb, eqb, ltb→lt, eqb→eq}
use lib.Bits.{bit_xor, xor_zero_r}
use lib.ListN.{length, get_or, set, take, drop, length-append, get_or-append, take-append-drop}
use lib.Seq.{drop-cons, set_at, take-suc, take_all, length-take-le, get_or-take, get_or-drop}
use Rattle.xor.specs.Lists.{at}
use Rattle.xor.specs.Sums.{xors}
use Rattle.xor.proofs.StringLaws.{at-xors, length_both}
use Rattle.std.specs.List.{fold, range_with_len}
use Rattle.gf256.specs.Field.{doubled, power}
use Rattle.gf256.proofs.ProductLaws.{times_two}
use Rattle.shares.specs.Strings.{Shares, Shared, alone, more, parts, laid}
use Rattle.xor.specs.Writes.{front}
use Rattle.shares.proofs.StringsLaws.{shared-parts, parts-laid}
use Rattle.xor.proofs.WriteLaws.{front-all}
use Rattle.cipher.specs.Fips197.{Kind, turned, subbed, plain, kind, word, rot_word, rcon}
use Rattle.cipher.specs.States.{into_first, each_by}
use Rattle.cipher.specs.Cipher.{subs, subs_need, in_word, words, masked_temp, temp_need}
use Rattle.schedule.specs.Stored.{stored, word_stored}
use Rattle.cipher.proofs.StatesLaws.{map-shared}
use Rattle.cipher.proofs.FipsLaws.{word-length, rot_word-length, every}
use Rattle.cipher.proofs.CipherLaws.{subs-shared}
use Rattle.buffers.proofs.PartLaws.{laid-parts-all}
use Rattle.buffers.proofs.SecondLaws.{share_long, word-part, word-long}

-- ---- Rcon

pub doubled_again : (i r : ℕ) → 1 ≤ i → r ≡ power 2 (i - 1) → doubled r ≡ power 2 (i + 1 - 1)
unfolding power
doubled_again i r h e =
    let q : i + 1 - 1 ≡ suc (i - 1) = omega arith in
    ap doubled e ∙ sym (ap (power 2) q ∙ times_two (power 2 (i - 1)))

doubled_on : (m i n : ℕ) → fold (λ a x. doubled a) (power 2 m) (range_with_len i n) ≡ power 2 (m + n)
unfolding power
doubled_on m i zero = ap (power 2) (sym (add-zero m))
doubled_on m i (suc n) =
    ap (λ (a : ℕ). fold (λ a x. doubled a) a (range_with_len (i + 1) n)) (sym (times_two (power 2 m)))
    ∙ doubled_on (suc m) (i + 1) n ∙ ap (power 2) (let e : suc m + n ≡ m + suc n = omega arith in e)

-- 1 doubled at each of n numbers
pub doubled_each : (i n : ℕ) → fold (λ a x. doubled a) 1 (range_with_len i n) ≡ power 2 n
unfolding power
doubled_each i n = doubled_on 0 i n ∙ ap (power 2) (let e : 0 + n ≡ n = omega arith in e)

-- ---- word w of share i, copied

pub word_copied : (m w i n b e : ℕ) (ks p q : List ℕ) → 4 * w + 4 ≤ m → i < n → length ks ≡ n * m → b ≡ i * m + 4 * w → e ≡ 4 → length p ≡ 4
    → q ≡ front (take e (drop b ks)) p → q ≡ word (take m (drop (i * m) ks)) w
word_copied m w i n b e ks p q h u l eb ee lp g =
    g ∙ ap (λ (x : List ℕ). front x p) (word-part m w i b e ks h eb ee)
    ∙ front-all (word (take m (drop (i * m) ks)) w) p (word-long m w i n ks h u l ∙ sym lp)

-- ---- one word written into a share

front-more : (f x₀ x : List ℕ) (i v : ℕ) → x ≡ f ++ drop i x₀ → length f ≡ i → i < length x₀ → set x i v ≡ (f ++ (v ∷ [])) ++ drop (i + 1) x₀
front-more f x₀ x i v e l h =
    ap (λ (y : List ℕ). set y i v) (e ∙ ap (◌++◌ f) (drop-cons x₀ i 0 h))
    ∙ set_at f (get_or x₀ i 0) (drop (suc i) x₀) v i l
    ∙ sym (append_assoc f (v ∷ []) (drop (i + 1) x₀) ∙ ap (λ (n : ℕ). f ++ v ∷ drop n x₀) (add-one i))

module _ (nk i : ℕ) (t k₀ : List ℕ) where
  abbrev fresh : List ℕ
  fresh = xors (word k₀ (i - nk)) t

  -- b bytes of the word are written
  abbrev pub Storing : ℕ → List ℕ → Type 0
  Storing b k = k ≡ (take (4 * i) k₀ ++ take b fresh) ++ drop (4 * i + b) k₀

  pub storing_start : Storing 0 k₀
  storing_start =
      let z : 4 * i ≡ 4 * i + 0 = omega arith in
      sym
      (append_assoc (take (4 * i) k₀) [] (drop (4 * i + 0) k₀)
      ∙ ap (λ (n : ℕ). take (4 * i) k₀ ++ drop n k₀) (sym z)
      ∙ take-append-drop (4 * i) k₀)

  module _ (some : 1 ≤ nk) (past : nk ≤ i) (fits : 4 * i + 4 ≤ length k₀) (t_long : length t ≡ 4) where
    fresh_long : length fresh ≡ 4
    fresh_long = length_both (word k₀ (i - nk)) t (word-length (i - nk) k₀ (omega arith)) t_long

    front_long : (b : ℕ) → b ≤ 4 → length (take (4 * i) k₀ ++ take b fresh) ≡ 4 * i + b
    front_long b h =
        let a = length-append (take (4 * i) k₀) (take b fresh) in
        let c = length-take-le (4 * i) k₀ (omega arith) in
        let e = length-take-le b fresh (omega (arith, fresh_long)) in
        omega arith

    pub storing_more : (b : ℕ) (k : List ℕ) → b < 4 → Storing b k
        → Storing (b + 1) (set k (4 * i + b) (bit_xor (get_or k (4 * (i - nk) + b) 0) (get_or t b 0)))
    unfolding at word
    storing_more b k h e =
        let p = 4 * (i - nk) + b in
        let f = take (4 * i) k₀ ++ take b fresh in
        let fl = front_long b (omega arith) in
        let c = length-take-le (4 * i) k₀ (omega arith) in
        let old : get_or k p 0 ≡ get_or (word k₀ (i - nk)) b 0 =
        ap (λ (y : List ℕ). get_or y p 0) e
        ∙ get_or-append f (drop (4 * i + b) k₀) 0 p (omega arith)
        ∙ get_or-append (take (4 * i) k₀) (take b fresh) 0 p (omega arith)
        ∙ get_or-take (4 * i) k₀ p 0 (omega arith)
        ∙ sym (get_or-take 4 (drop (4 * (i - nk)) k₀) b 0 h ∙ get_or-drop (4 * (i - nk)) k₀ b 0)
        in
        let v = bit_xor (get_or k p 0) (get_or t b 0) in
        let new : v ≡ get_or fresh b 0 = ap (λ (x : ℕ). bit_xor x (get_or t b 0)) old ∙ sym (at-xors (word k₀ (i - nk)) t b) in
        let z : 4 * i + b + 1 ≡ 4 * i + (b + 1) = omega arith in
        let more : take (b + 1) fresh ≡ take b fresh ++ (v ∷ []) =
        ap (λ (n : ℕ). take n fresh) (add-one b)
        ∙ take-suc fresh b 0 (omega (arith, fresh_long))
        ∙ ap (λ (x : ℕ). take b fresh ++ (x ∷ [])) (sym new)
        in
        front-more f k₀ k (4 * i + b) v e fl (omega arith)
        ∙ ap₂ (λ (x : List ℕ) (n : ℕ). x ++ drop n k₀)
        (append_assoc (take (4 * i) k₀) (take b fresh) (v ∷ []) ∙ ap (◌++◌ (take (4 * i) k₀)) (sym more))
        z

    pub storing_done : (b : ℕ) (k : List ℕ) → b ≡ 4 → Storing b k → k ≡ take (4 * i) k₀ ++ (fresh ++ drop (4 * i + 4) k₀)
    storing_done b k q e =
        e ∙ ap (λ (n : ℕ). (take (4 * i) k₀ ++ take n fresh) ++ drop (4 * i + n) k₀) q
        ∙ ap (λ (x : List ℕ). (take (4 * i) k₀ ++ x) ++ drop (4 * i + 4) k₀) (take_all 4 fresh (omega (arith, fresh_long)))
        ∙ append_assoc (take (4 * i) k₀) fresh (drop (4 * i + 4) k₀)

-- a call of it on share j, with share j of the temporary word
pub stored-part : (nk i j b n : ℕ) (t k : List ℕ) → b ≡ j * 4 → n ≡ 4
    → take (4 * i) k ++ (xors (word k (i - nk)) (take n (drop b t)) ++ drop (4 * i + 4) k) ≡ stored nk i t j k
stored-part nk i j b n t k eb en =
    ap₂ (λ (x y : ℕ). take (4 * i) k ++ (xors (word k (i - nk)) (take x (drop y t)) ++ drop (4 * i + 4) k)) en eb

module _ (nk i : ℕ) (some : 1 ≤ nk) (past : nk ≤ i) where
  pub fresh_length : (t k : List ℕ) (j n : ℕ) → j < n → length t ≡ n * 4 → 4 * i + 4 ≤ length k
      → length (xors (word k (i - nk)) (take 4 (drop (j * 4) t))) ≡ 4
  fresh_length t k j n g e h =
      length_both (word k (i - nk)) (take 4 (drop (j * 4) t)) (word-length (i - nk) k (omega arith)) (share_long 4 j n t g e)

-- ---- which kind of word

pub kind_turned : (nk i : ℕ) → i % nk ≡ 0 → kind nk i ≡ turned
unfolding kind
kind_turned nk i h = rw (eq-eqb (i % nk) 0 h)

pub kind_subbed : (nk i : ℕ) → 6 < nk → i % nk ≡ 4 → kind nk i ≡ subbed
unfolding kind
kind_subbed nk i h e = rw (ne_eqb (i % nk) 0 (λ z. omega arith), lt-ltb 6 nk h, eq-eqb (i % nk) 4 e)

pub kind_plain : (nk i : ℕ) → (i % nk ≡ 0 → ⊥) → (6 < nk → i % nk ≡ 4 → ⊥) → kind nk i ≡ plain
unfolding kind
kind_plain nk i n f = rw (ne_eqb (i % nk) 0 n) (go (ltb 6 nk) (eqb (i % nk) 4) (λ t u. f (ltb→lt 6 nk t) (eqb→eq (i % nk) 4 u)))
  where
    go : (a b : Bool) → (T a → T b → ⊥) → cond (a && b) subbed plain ≡ plain
    go false b g = refl
    go true false g = refl
    go true true g = absurd (g tt tt)

-- the turned words are numbered from 1
pub some_turn : (nk i : ℕ) → 1 ≤ nk → nk ≤ i → 1 ≤ i / nk
some_turn nk i some_words past = let e : i / nk ≡ (i - nk) / nk + 1 = div-eq-sub-div some_words past in omega arith

-- ---- the temporary word

-- Rcon is one store
first_xors : (c : ℕ) (s : List ℕ) → length s ≡ 4 → (rest : List ℕ)
    → set (s ++ rest) 0 (bit_xor (get_or (s ++ rest) 0 0) c) ≡ xors s (c ∷ 0 ∷ 0 ∷ 0 ∷ []) ++ rest
unfolding xors
first_xors c =
    every 4 (λ s. (rest : List ℕ) → set (s ++ rest) 0 (bit_xor (get_or (s ++ rest) 0 0) c) ≡ xors s (c ∷ 0 ∷ 0 ∷ 0 ∷ []) ++ rest)
    (λ a b d e rest. simp xor_zero_r)

rcon_store : {d : ℕ} {ss : Shares} (c : ℕ) → Shared 4 d ss
    → set (laid ss) 0 (bit_xor (get_or (laid ss) 0 0) c) ≡ laid (into_first (c ∷ 0 ∷ 0 ∷ 0 ∷ []) ss)
unfolding laid into_first
rcon_store c (alone {s = s} h) = first_xors c s h []
rcon_store c (more {s = s} {ss = ss} h hs) = first_xors c s h (laid ss)

-- S-boxes, RotWord, Rcon
pub turned_is : (d j c : ℕ) (tape t t₁ t₂ : List ℕ) → length t ≡ suc d * 4 → t₁ ≡ laid (subs d in_word (parts (suc d) 4 t) tape)
    → t₂ ≡ laid (map rot_word (parts (suc d) 4 t₁)) → c ≡ power 2 (j - 1)
    → set t₂ 0 (bit_xor (get_or t₂ 0 0) c) ≡ laid (masked_temp d turned j (parts (suc d) 4 t) tape)
unfolding masked_temp rcon
turned_is d j c tape t t₁ t₂ h e₁ e₂ q =
    let shape = subs-shared in_word tape (shared-parts d 4 t (omega arith)) in
    let rotated = map-shared rot_word (λ s e. rot_word-length s) shape in
    let e : t₂ ≡ laid (map rot_word (subs d in_word (parts (suc d) 4 t) tape)) =
    e₂ ∙ ap (λ (p : Shares). laid (map rot_word p)) (ap (parts (suc d) 4) e₁ ∙ parts-laid shape)
    in
    ap₂ (λ (y : List ℕ) (x : ℕ). set y 0 (bit_xor (get_or y 0 0) x)) e q ∙ rcon_store (power 2 (j - 1)) rotated

-- the three answers
pub temp_says : (nk d i : ℕ) (k : Kind) (tape t t' : List ℕ) (r : ℕ) → kind nk i ≡ k → r ≡ temp_need d k
    → t' ≡ laid (masked_temp d k (i / nk) (parts (suc d) 4 t) tape)
    → (r ≡ temp_need d (kind nk i)) × (t' ≡ laid (masked_temp d (kind nk i) (i / nk) (parts (suc d) 4 t) tape))
temp_says nk d i k tape t t' r e n q =
    (n ∙ ap (temp_need d) (sym e), q ∙ ap (λ (x : Kind). laid (masked_temp d x (i / nk) (parts (suc d) 4 t) tape)) (sym e))

pub subbed_says : (nk d i : ℕ) (tape t t' : List ℕ) (r : ℕ) → kind nk i ≡ subbed → r ≡ subs_need d in_word
    → t' ≡ laid (subs d in_word (parts (suc d) 4 t) tape)
    → (r ≡ temp_need d (kind nk i)) × (t' ≡ laid (masked_temp d (kind nk i) (i / nk) (parts (suc d) 4 t) tape))
unfolding temp_need masked_temp
subbed_says nk d i tape t t' r e n q = temp_says nk d i subbed tape t t' r e n q

pub plain_says : (nk d i : ℕ) (tape t : List ℕ) → kind nk i ≡ plain → length t ≡ suc d * 4
    → (0 ≡ temp_need d (kind nk i)) × (t ≡ laid (masked_temp d (kind nk i) (i / nk) (parts (suc d) 4 t) tape))
unfolding temp_need masked_temp
plain_says nk d i tape t e h =
    temp_says nk d i plain tape t t 0 e refl (sym (laid-parts-all (suc d) 4 t h))

pub need_turned : (nk d i n : ℕ) → kind nk i ≡ turned → temp_need d (kind nk i) ≤ n → subs_need d in_word ≤ n
unfolding temp_need
need_turned nk d i n e h = let q : temp_need d (kind nk i) ≡ subs_need d in_word = ap (temp_need d) e in omega arith

pub need_subbed : (nk d i n : ℕ) → kind nk i ≡ subbed → temp_need d (kind nk i) ≤ n → subs_need d in_word ≤ n
unfolding temp_need
need_subbed nk d i n e h = let q : temp_need d (kind nk i) ≡ subs_need d in_word = ap (temp_need d) e in omega arith

-- a word in all shares, from the calls that make it
pub word_is : (nk d m i : ℕ) (keys tape t₀ t₁ keys' : List ℕ) → t₀ ≡ laid (words (parts (suc d) m keys) (i - 1))
    → t₁ ≡ laid (masked_temp d (kind nk i) (i / nk) (parts (suc d) 4 t₀) tape) → keys' ≡ laid (each_by (stored nk i t₁) 0 (parts (suc d) m keys))
    → keys' ≡ word_stored nk d m i keys tape
unfolding word_stored
word_is nk d m i keys tape t₀ t₁ keys' e₀ e₁ e₂ =
    e₂
    ∙ ap (λ (t : List ℕ). laid (each_by (stored nk i t) 0 (parts (suc d) m keys)))
    (e₁ ∙ ap (λ (t : List ℕ). laid (masked_temp d (kind nk i) (i / nk) (parts (suc d) 4 t) tape)) e₀)
