-- Document 03's S-box and cipher over shares are ours, with the refresh of document 02, wish 7: share by share, with the same counts of tape bytes;
-- at order 1 with its own refresh too. Its shared string is a list of shared bytes, ours a list of shares, so the two are compared transposed
-- (`TurnedLaws`). Assumes nothing.
use mathlib.Core.Path.{◌≡◌, refl, sym, ap, ap₂, ◌∙◌, subst}
use mathlib.Core.Bool.{Bool, true, false, cond, ◌&&◌, ◌||◌}
use mathlib.Core.List.{List, [], ◌∷◌, ◌++◌, map, append_assoc, append-nil}
use Prim.Native.Nat.{ℕ, zero, suc, ◌+◌, ◌*◌, ◌-◌, ◌/◌, ◌%◌, ◌≤◌}
use native.Mathlib.Nat.{mod-lt, zero-add, mul-suc, mul_assoc}
use native.Mathlib.Numerals.{add-one}
use native.Mathlib.Omega.{arith}
use lib.Bits.{bit_xor, xor_lt}
use lib.Dec.{lit<, eqb, eqb→eq, eqb-suc-zero}
use lib.ListN.{length, set, drop, length-append, length-map}
use lib.Seq.{drop-drop, get_or-append_seam}
use Rattle.xor.specs.Lists.{at, tab, runs, All, done, ◌&◌, Below}
use Rattle.xor.specs.Pairs.{each_pair, pairs}
use Rattle.xor.proofs.DigitLaws.{two_pos, digit_cases}
use Rattle.xor.proofs.ListsLaws.{tab_cong}
use Rattle.xor.proofs.RunsLaws.{tab_from}
use Rattle.xor.proofs.Tests.{true_T, or_cases}
use Rattle.gf256.specs.declared.Direction.TheVariants.{Forward}
use Rattle.gf256.specs.Field.{times, squared, fourth, sixteenth, affine, constant}
use Rattle.byte_maps.proofs.AffineLaws.{affine_lt}
use Rattle.isw.specs.Place.{product_need}
use Rattle.isw.specs.Document03.{product, product_tape}
use Rattle.isw.proofs.OrderLaws.{twice_need}
use Rattle.isw.proofs.SheetLaws.{length-product}
use Rattle.isw.proofs.Document03Laws.{product_agrees, need_agrees}
use Rattle.refresh.specs.Refresh.{into, pairs_refreshed, refresh_pairs, refreshed, refresh_need}
use Rattle.shares.specs.Strings.{Shares, Shared}
use Rattle.refresh.proofs.RefreshLaws.{length-refreshed}
use Rattle.shares.proofs.StringsLaws.{shared-parts}
use Rattle.power254.specs.Power254.{masked_product, stage_z, stage_y, stage_w, stage_v, stage_last, stage_need, power_254, power_need}
use Rattle.sbox.specs.Box.{corrected, affine_shares, box, box_need}
use Rattle.sbox.proofs.BoxLaws.{length-box_of}
use Rattle.cipher.specs.Fips197.{Kind, turned, subbed, plain, kind, shift_rows, mix_columns, rot_word, rounds, total_words}
use Rattle.cipher.specs.States.{column, put, adds, behind}
use Rattle.cipher.specs.Cipher.{sub_at, subs_of, subs, subs_need, in_word, masked_temp, temp_need, words, masked_word, schedule_from, schedule}
use Rattle.cipher.specs.Cipher.{schedule_need, by_rows, round_keys, masked_round, masked_last_round, round_need, masked_rounds, encrypted_with}
use Rattle.cipher.specs.Cipher.{encrypted, cipher_need, encrypted_laid}
use Rattle.cipher.specs.Document03 as D
use Rattle.cipher.proofs.StatesLaws.{column-length, map-shared, put-shared, adds-shared}
use Rattle.cipher.proofs.FipsLaws.{mix_columns-length, every, in_word_below, by_rows_below}
use Rattle.cipher.proofs.CipherLaws.{temp-shared, words-shared, next_shared, longer_shared, rows-shared, round-shared, round_keys-shared}
use Rattle.cipher.proofs.NeedLaws.{schedule_need_4, schedule_need_6, schedule_need_8, counted}
use Rattle.cipher.proofs.Accuracy.{schedule-shared, encrypted-shared}
use Rattle.cipher.proofs.TurnedLaws.{bytes, bytes-length, bytes-at, bytes-put, word_turned, round_key_turned, add_turned, append_turned}
use Rattle.cipher.proofs.TurnedLaws.{rotated_turned, shifted_turned, mixed_turned, with_rcon_turned, shared_turned, laid_turned}

-- ---- the refresh

each_is : (f : ℕ → ℕ) (xs : List ℕ) → D.each f xs ≡ map f xs
unfolding D.each
each_is f [] = refl
each_is f (x ∷ xs) = ap (◌∷◌ (f x)) (each_is f xs)

set_seam : (ys : List ℕ) (z v : ℕ) (zs : List ℕ) → set (ys ++ z ∷ zs) (length ys) v ≡ ys ++ v ∷ zs
set_seam [] z v zs = refl
set_seam (y ∷ ys) z v zs = ap (◌∷◌ y) (set_seam ys z v zs)

-- t into the first share, and into the one behind ys
pairs_refreshed_once : (x z t : ℕ) (ys zs : List ℕ)
    → into (into (x ∷ (ys ++ z ∷ zs)) 0 t) (suc (length ys)) t ≡ bit_xor x t ∷ ((ys ++ (bit_xor z t ∷ [])) ++ zs)
unfolding into at
pairs_refreshed_once x z t ys zs =
    ap (◌∷◌ (bit_xor x t))
    (ap (λ (v : ℕ). set (ys ++ z ∷ zs) (length ys) (bit_xor v t)) (get_or-append_seam ys z zs 0)
    ∙ set_seam ys z (bit_xor z t) zs ∙ sym (append_assoc ys (bit_xor z t ∷ []) zs))

abbrev pair_at : ℕ → ℕ × ℕ
pair_at k = (0, suc k)

refresh_from_is : (x : ℕ) (zs ts ys : List ℕ)
    → D.refresh_from x zs ts ys ≡ pairs_refreshed (tab (λ k. pair_at (length ys + k)) (length zs)) (x ∷ (ys ++ zs)) ts
unfolding D.refresh_from pairs_refreshed
refresh_from_is x [] ts ys = unfold tab runs in ap (◌∷◌ x) (sym (append-nil ys))
refresh_from_is x (z ∷ zs) ts ys =
    let t = at ts 0 in
    let e : length (ys ++ (bit_xor z t ∷ [])) ≡ suc (length ys) = length-append ys (bit_xor z t ∷ []) ∙ add-one (length ys) in
    refresh_from_is (bit_xor x t) zs (drop 1 ts) (ys ++ (bit_xor z t ∷ []))
    ∙ ap₂ (λ (n : ℕ) (l : List ℕ). pairs_refreshed (tab (λ k. pair_at (n + k)) (length zs)) l (drop 1 ts)) e (sym (pairs_refreshed_once x z t ys zs))
    ∙ sym (ap (λ (ps : List (ℕ × ℕ)). pairs_refreshed ps (x ∷ (ys ++ z ∷ zs)) ts) (tab_from pair_at (length ys) (length zs)))

-- its refresh is ours over other pairs: share 0 with each of the others
pub short-refreshed : (d : ℕ) (xs ts : List ℕ) → length xs ≡ suc d → D.refreshed xs ts ≡ pairs_refreshed (tab pair_at d) xs ts
unfolding D.refreshed
short-refreshed d [] ts e = absurd (omega arith)
short-refreshed d (x ∷ zs) ts e =
    let n : length zs ≡ d = omega arith in
    refresh_from_is x zs ts []
    ∙ ap (λ (ps : List (ℕ × ℕ)). pairs_refreshed ps (x ∷ zs) ts) (tab_cong _ _ (length zs) (λ k h. ap pair_at (zero-add k)) ∙ ap (tab pair_at) n)

-- ---- a refresh that is ours at order d: the same shares from the same tape, and the same count

pub record Same (rf : D.Refresh) (d : ℕ) : Type 0 where
  pub steps_same : (xs ts : List ℕ) → length xs ≡ suc d → rf.steps xs ts ≡ refreshed d xs ts
  pub tape_same : rf.tape d ≡ refresh_need d

-- that of document 02, wish 7, at every order
pub strong-same : (d : ℕ) → Same D.strong d
strong-same d = record {
  steps_same = λ xs ts e. let n : length xs - 1 ≡ d = omega arith in rw n refl;
  tape_same = refl;
}

-- its own at orders 0 and 1, where there is no other pair
pub short-same_0 : Same D.short 0
unfolding refreshed refresh_pairs refresh_need pairs each_pair tab runs
short-same_0 = record { steps_same = λ xs ts e. short-refreshed 0 xs ts e; tape_same = refl }

pub short-same_1 : Same D.short 1
unfolding refreshed refresh_pairs refresh_need pairs each_pair tab runs
short-same_1 = record { steps_same = λ xs ts e. short-refreshed 1 xs ts e; tape_same = refl }

-- what an S-box with its own refresh draws, as document 03 has it
pub short-box_tape : (d : ℕ) → D.box_tape D.short d ≡ 2 * d * d + 4 * d
unfolding D.box_tape
short-box_tape d = omega (arith, need_agrees d, twice_need d, mul-suc d d, mul_assoc 2 d d)

-- ---- its smaller steps, which do not refresh

into_first_is : (ys : List ℕ) → D.into_first 99 ys ≡ into ys 0 constant
unfolding D.into_first into at
into_first_is [] = refl
into_first_is (y ∷ ys) = refl

corrected_is : (d : ℕ) (ys : List ℕ) → cond (eqb (suc d % 2) 0) (D.into_first 99 ys) ys ≡ corrected constant (d % 2) ys
unfolding corrected
corrected_is d ys =
    let e : suc d % 2 ≡ suc (d % 2) % 2 = omega arith in
    rw e (digit_cases (λ (c : ℕ). cond (eqb (suc c % 2) 0) (D.into_first 99 ys) ys ≡ corrected constant c ys) refl (into_first_is ys)
    (d % 2) (mod-lt d two_pos))

-- its bytes
affine_below : (ys : List ℕ) → Below 256 (D.each affine ys)
unfolding D.each
affine_below [] = done
affine_below (y ∷ ys) = affine_lt y & affine_below ys

into_first_below : (ys : List ℕ) → Below 256 ys → Below 256 (D.into_first 99 ys)
unfolding D.into_first
into_first_below [] done = done
into_first_below (y ∷ ys) (h & hs) = xor_lt 8 y 99 h (lit< tt) & hs

cond_below : (c : Bool) {xs ys : List ℕ} → Below 256 xs → Below 256 ys → Below 256 (cond c xs ys)
cond_below true h g = h
cond_below false h g = g

-- by the kind of a word
abbrev by_kind : {A : Type 0} → Kind → A → A → A → A
by_kind turned a b c = a
by_kind subbed a b c = b
by_kind plain a b c = c

by_kind_cond : {A : Type 0} (p q : Bool) (a b c : A) → cond p a (cond q b c) ≡ by_kind (cond p turned (cond q subbed plain)) a b c
by_kind_cond true q a b c = refl
by_kind_cond false true a b c = refl
by_kind_cond false false a b c = refl

by_kind_in : {A B C : Type 0} (f : A → B → C) (k : Kind) (a b c : A) (r t : B)
    → by_kind k (f a r) (f b r) (f c t) ≡ f (by_kind k a b c) (by_kind k r r t)
by_kind_in f turned a b c r t = refl
by_kind_in f subbed a b c r t = refl
by_kind_in f plain a b c r t = refl

-- the three sizes of key
sizes : (P : ℕ → Type 0) → P 4 → P 6 → P 8 → (nk : ℕ) → D.key_words nk ≡ true → P nk
unfolding D.key_words
sizes P a b c nk e =
    or_cases (eqb nk 4) (eqb nk 6 || eqb nk 8) (λ t. subst P (sym (eqb→eq nk 4 t)) a)
    (λ u. or_cases (eqb nk 6) (eqb nk 8) (λ t. subst P (sym (eqb→eq nk 6 t)) b) (λ t. subst P (sym (eqb→eq nk 8 t)) c) u)
    (true_T e)

pub some_words : (nk : ℕ) → D.key_words nk ≡ true → 1 ≤ nk
some_words = sizes (λ nk. 1 ≤ nk) (omega arith) (omega arith) (omega arith)

kind_agrees : {A : Type 0} (nk i : ℕ) (a b c : A) → D.key_words nk ≡ true
    → cond (eqb (i % nk) 0) a (cond (eqb nk 8 && eqb (i % 8) 4) b c) ≡ by_kind (kind nk i) a b c
unfolding kind
kind_agrees nk i a b c =
    sizes (λ nk. cond (eqb (i % nk) 0) a (cond (eqb nk 8 && eqb (i % 8) 4) b c) ≡ by_kind (kind nk i) a b c)
    (by_kind_cond (eqb (i % 4) 0) false a b c) (by_kind_cond (eqb (i % 6) 0) false a b c) (by_kind_cond (eqb (i % 8) 0) (eqb (i % 8) 4) a b c) nk

-- ---- with such a refresh its S-box and its cipher are ours

module _ (rf : D.Refresh) {d : ℕ} (same : Same rf d) where
  -- ---- the S-box

  product_is : {a a' b b' ts us : List ℕ} → length a ≡ suc d → a' ≡ a → b' ≡ b → us ≡ ts → product times a' b' us ≡ masked_product d a b ts
  product_is {a} {b = b} {ts = ts} l p q r = rw (p, q, r) (sym (product_agrees times d a b ts l))

  refreshed_is : (f : ℕ → ℕ) {x x' ts us : List ℕ} → length x ≡ suc d → x' ≡ x → us ≡ ts → rf.steps (D.each f x') us ≡ refreshed d (map f x) ts
  refreshed_is f {x} {ts = ts} l p q = rw (p, q, each_is f x) (same.steps_same (map f x) ts (length-map x f ∙ l))

  length-refreshed-map : (f : ℕ → ℕ) (x ts : List ℕ) → length x ≡ suc d → length (refreshed d (map f x) ts) ≡ suc d
  length-refreshed-map f x ts l = length-refreshed d (map f x) ts ∙ length-map x f ∙ l

  -- the tape from the n-th byte on
  from_byte : {n m : ℕ} (ts : List ℕ) → n ≡ m → drop n ts ≡ drop m ts
  from_byte ts e = ap (λ (k : ℕ). drop k ts) e

  pub power_254_agrees : (x ts : List ℕ) → length x ≡ suc d → D.power_254 rf x ts ≡ power_254 d x ts
  unfolding D.power_254 power_254 stage_z stage_y stage_w stage_v stage_last stage_need
  power_254_agrees x ts l =
      let d' : length x - 1 ≡ d = omega arith in
      let r = refresh_need d in
      let n = refresh_need d + product_need d in
      let z = stage_z d x ts in
      let y = stage_y d x ts in
      let us = drop n ts in
      let w = stage_w d y us in
      let v = stage_v d y us in
      let vs = drop n us in
      let p = product_tape d in
      let k = rf.tape d in
      let c₁ : k ≡ r = same.tape_same in
      let c₂ : k + p ≡ n = omega (arith, same.tape_same, need_agrees d) in
      let c₃ : 2 * k + p ≡ n + r = omega (arith, same.tape_same, need_agrees d) in
      let c₄ : 2 * k + 2 * p ≡ n + n = omega (arith, same.tape_same, need_agrees d) in
      let c₅ : 2 * k + 3 * p ≡ n + (n + product_need d) = omega (arith, same.tape_same, need_agrees d) in
      let t₃ : drop (2 * k + p) ts ≡ drop r us = from_byte ts c₃ ∙ sym (drop-drop r n ts) in
      let t₄ : drop (2 * k + 2 * p) ts ≡ vs = from_byte ts c₄ ∙ sym (drop-drop n n ts) in
      let t₅ : drop (2 * k + 3 * p) ts ≡ drop (product_need d) vs =
      from_byte ts c₅ ∙ sym (drop-drop (product_need d) n us ∙ drop-drop (n + product_need d) n ts) in
      let lz : length z ≡ suc d = length-refreshed-map squared x ts l in
      let ly : length y ≡ suc d = length-product times d z x (drop r ts) in
      let lw : length w ≡ suc d = length-refreshed-map fourth y us ly in
      let lv : length v ≡ suc d = length-product times d y w (drop r us) in
      let z≡ = refreshed_is squared l refl refl in
      let y≡ = product_is lz z≡ refl (from_byte ts c₁) in
      let w≡ = refreshed_is fourth ly y≡ (from_byte ts c₂) in
      let v≡ = product_is ly y≡ w≡ t₃ in
      rw d' (product_is (length-product times d (map sixteenth v) w vs)
      (product_is (length-map v sixteenth ∙ lv) (ap (D.each sixteenth) v≡ ∙ each_is sixteenth v) w≡ t₄) z≡ t₅)

  -- THE S-BOX, share by share
  pub box_agrees : (x ts : List ℕ) → length x ≡ suc d → D.box rf x ts ≡ box d x ts
  unfolding D.box box affine_shares
  box_agrees x ts l =
      let y = each_is affine (D.power_254 rf x ts) ∙ ap (map affine) (power_254_agrees x ts l) in
      rw (l, y) (corrected_is d (map affine (power_254 d x ts)))

  pub box_tape : D.box_tape rf d ≡ box_need d
  unfolding D.box_tape power_need stage_need
  box_tape = omega (arith, same.tape_same, need_agrees d)

  box_below : (x ts : List ℕ) → Below 256 (D.box rf x ts)
  unfolding D.box
  box_below x ts =
      let h = affine_below (D.power_254 rf x ts) in
      cond_below (eqb (length x % 2) 0) (into_first_below (D.each affine (D.power_254 rf x ts)) h) h

  -- ---- S-boxes at the listed bytes

  placed : (ks : List ℕ) → D.Shared → (tape : List ℕ) → D.Shared
  placed [] xs ts = xs
  placed (k ∷ ks) xs ts = placed ks (set xs k (D.box rf (D.sh xs k) ts)) (drop (D.box_tape rf d) ts)

  subs_placed : {l : ℕ} {ss : Shares} {ks : List ℕ} (ts : List ℕ) → Below l ks → Shared l d ss
      → placed ks (bytes l ss) ts ≡ bytes l (subs d ks ss ts)
  unfolding placed subs_of sub_at
  subs_placed ts done hs = refl
  subs_placed {l} {ss} ts (◌&◌ {x = k} {xs = ks} h gs) hs =
      let vs = box d (column k ss) ts in
      let b : D.box rf (D.sh (bytes l ss) k) ts ≡ vs =
      ap (λ (x : List ℕ). D.box rf x ts) (bytes-at l ss k h) ∙ box_agrees (column k ss) ts (column-length k hs) in
      let s : set (bytes l ss) k vs ≡ bytes l (put ss k vs) = sym (bytes-put k vs h (length-box_of Forward d (column k ss) ts) hs) in
      rw (b, s, box_tape) (subs_placed {ss = put ss k vs} (drop (box_need d) ts) gs (put-shared k vs hs))

  placed_word : (ts : List ℕ) (xs : D.Shared) → length xs ≡ 4 → D.boxes rf d xs ts ≡ placed in_word xs ts
  unfolding placed D.boxes D.sh
  placed_word ts = every 4 (λ xs. D.boxes rf d xs ts ≡ placed in_word xs ts) (λ a b c e. refl)

  placed_state : (ts : List ℕ) (xs : D.Shared) → length xs ≡ 16 → D.substituted rf d xs ts ≡ placed by_rows xs ts
  unfolding placed D.boxes D.sh D.substituted D.by_rows
  placed_state ts = every 16 (λ xs. D.substituted rf d xs ts ≡ placed by_rows xs ts) (λ a b c e f g h i j k l m n o p q. refl)

  boxes_turned : {ws : Shares} (ts : List ℕ) → Shared 4 d ws → D.boxes rf d (bytes 4 ws) ts ≡ bytes 4 (subs d in_word ws ts)
  boxes_turned {ws} ts hs = placed_word ts (bytes 4 ws) (bytes-length 4 ws) ∙ subs_placed ts in_word_below hs

  substituted_turned : {s : Shares} (ts : List ℕ) → Shared 16 d s → D.substituted rf d (bytes 16 s) ts ≡ bytes 16 (subs d by_rows s ts)
  substituted_turned {s} ts hs =
      placed_state ts (bytes 16 s) (bytes-length 16 s) ∙ subs_placed ts by_rows_below hs

  -- SubBytes and ShiftRows leave bytes
  rows_below : (ts : List ℕ) (xs : D.Shared) → length xs ≡ 16 → All (Below 256) (D.shifted (D.substituted rf d xs ts))
  unfolding D.shifted D.shifted_from D.substituted D.by_rows D.boxes D.sh
  rows_below ts =
      every 16 (λ xs. All (Below 256) (D.shifted (D.substituted rf d xs ts)))
      (λ a b c e f g h i j k l m n o p q.
      box_below _ _ & box_below _ _ & box_below _ _ & box_below _ _ & box_below _ _ & box_below _ _ & box_below _ _ & box_below _ _
      & box_below _ _ & box_below _ _ & box_below _ _ & box_below _ _ & box_below _ _ & box_below _ _ & box_below _ _ & box_below _ _ & done)

  -- ---- key expansion

  word-need : 4 * D.box_tape rf d ≡ subs_need d in_word
  unfolding subs_need
  word-need = omega (arith, box_tape)

  rest_turned : (k : Kind) (ts : List ℕ) → by_kind k (drop (4 * D.box_tape rf d) ts) (drop (4 * D.box_tape rf d) ts) ts ≡ drop (temp_need d k) ts
  unfolding temp_need
  rest_turned turned ts = ap (λ (n : ℕ). drop n ts) word-need
  rest_turned subbed ts = ap (λ (n : ℕ). drop n ts) word-need
  rest_turned plain ts = refl

  temp_turned : {ws : Shares} (k : Kind) (j : ℕ) (ts : List ℕ) → Shared 4 d ws
      → by_kind k (D.with_rcon (D.rcon (j - 1)) (D.rotated (D.boxes rf d (bytes 4 ws) ts))) (D.boxes rf d (bytes 4 ws) ts) (bytes 4 ws)
      ≡ bytes 4 (masked_temp d k j ws ts)
  unfolding masked_temp
  temp_turned {ws} turned j ts hs =
      rw (boxes_turned ts hs, rotated_turned (subs d in_word ws ts)) (with_rcon_turned j (map rot_word (subs d in_word ws ts)))
  temp_turned subbed j ts hs = boxes_turned ts hs
  temp_turned plain j ts hs = refl

  module _ (nk : ℕ) (size : D.key_words nk ≡ true) where
    next_turned : {ks : Shares} (i : ℕ) (ts : List ℕ) → nk ≤ i → Shared (4 * i) d ks
        → bytes (4 * i) ks ++ D.add (D.word (bytes (4 * i) ks) (i - nk)) (bytes 4 (masked_temp d (kind nk i) (i / nk) (words ks (i - 1)) ts))
        ≡ bytes (4 * suc i) (behind ks (masked_word nk d i ks ts))
    unfolding masked_word
    next_turned {ks} i ts h hs =
        let some = some_words nk size in
        let e : 4 * i + 4 ≡ 4 * suc i = omega arith in
        rw (
          word_turned (4 * i) ks (i - nk) (omega arith),
          add_turned (words-shared (i - nk) (omega arith) hs) (temp-shared (kind nk i) (i / nk) ts (words-shared (i - 1) (omega arith) hs)),
        )
        (append_turned hs (next_shared nk some i ts h hs) ∙ ap (λ (n : ℕ). bytes n (behind ks (masked_word nk d i ks ts))) e)

    expanded_from_turned : {ks : Shares} (left i : ℕ) (ts : List ℕ) → nk ≤ i → Shared (4 * i) d ks
        → D.expanded_from rf left i nk d (bytes (4 * i) ks) ts ≡ bytes (4 * (i + left)) (schedule_from left i nk d ks ts)
    unfolding D.expanded_from schedule_from
    expanded_from_turned {ks} zero i ts h hs = let e : 4 * i ≡ 4 * (i + 0) = omega arith in ap (λ (n : ℕ). bytes n ks) e
    expanded_from_turned {ks} (suc left) i ts h hs =
        let some = some_words nk size in
        let all = bytes (4 * i) ks in
        let old = D.word all (i - nk) in
        let next = behind ks (masked_word nk d i ks ts) in
        let rest = drop (temp_need d (kind nk i)) ts in
        let e : 4 * (suc i + left) ≡ 4 * (i + suc left) = omega arith in
        rw (word_turned (4 * i) ks (i - 1) (omega arith))
        (kind_agrees nk i _ _ _ size
        ∙ by_kind_in (λ (t : D.Shared) (r : List ℕ). D.expanded_from rf left (suc i) nk d (all ++ D.add old t) r) (kind nk i) _ _ _ _ _
        ∙ ap₂ (λ (t : D.Shared) (r : List ℕ). D.expanded_from rf left (suc i) nk d (all ++ D.add old t) r)
        (temp_turned (kind nk i) (i / nk) ts (words-shared (i - 1) (omega arith) hs)) (rest_turned (kind nk i) ts)
        ∙ ap (λ (x : D.Shared). D.expanded_from rf left (suc i) nk d x rest) (next_turned i ts h hs)
        ∙ expanded_from_turned {ks = next} left (suc i) rest (omega arith) (longer_shared nk some i ts h hs)
        ∙ ap (λ (n : ℕ). bytes n (schedule_from left (suc i) nk d next rest)) e)

    expanded_turned : {k : Shares} (ts : List ℕ) → Shared (4 * nk) d k
        → D.expanded rf nk d (bytes (4 * nk) k) ts ≡ bytes (16 * suc (rounds nk)) (schedule nk d k ts)
    unfolding D.expanded D.rounds schedule rounds total_words
    expanded_turned {k} ts hs =
        let e : 4 * (nk + (4 * suc (nk + 6) - nk)) ≡ 16 * suc (nk + 6) = omega arith in
        expanded_from_turned (4 * suc (nk + 6) - nk) nk ts (omega arith) hs
        ∙ ap (λ (n : ℕ). bytes n (schedule_from (4 * suc (nk + 6) - nk) nk nk d k ts)) e

  -- ---- rounds

  round_need_is : 16 * D.box_tape rf d ≡ round_need d
  unfolding subs_need
  round_need_is = omega (arith, box_tape)

  rows_turned : {s : Shares} (ts : List ℕ) → Shared 16 d s
      → D.shifted (D.substituted rf d (bytes 16 s) ts) ≡ bytes 16 (map shift_rows (subs d by_rows s ts))
  rows_turned {s} ts hs = ap D.shifted (substituted_turned ts hs) ∙ shifted_turned (subs d by_rows s ts)

  mixed-rows_turned : {s : Shares} (ts : List ℕ) → Shared 16 d s
      → D.mixed 4 (D.shifted (D.substituted rf d (bytes 16 s) ts)) ≡ bytes 16 (map mix_columns (map shift_rows (subs d by_rows s ts)))
  mixed-rows_turned {s} ts hs =
      let e = rows_turned ts hs in
      ap (D.mixed 4) e
      ∙ mixed_turned (map shift_rows (subs d by_rows s ts)) (subst (All (Below 256)) e (rows_below ts (bytes 16 s) (bytes-length 16 s)))

  module _ {l : ℕ} {ks : Shares} (keys : Shared l d ks) where
    round_turned : {s : Shares} (r : ℕ) (ts : List ℕ) → 16 * r + 16 ≤ l → Shared 16 d s
        → D.add (D.mixed 4 (D.shifted (D.substituted rf d (bytes 16 s) ts))) (D.round_key (bytes l ks) r) ≡ bytes 16 (masked_round d r ks s ts)
    unfolding masked_round
    round_turned r ts h hs =
        ap₂ D.add (mixed-rows_turned ts hs) (round_key_turned l ks r h)
        ∙ add_turned (map-shared mix_columns (λ s e. mix_columns-length s) (rows-shared ts hs)) (round_keys-shared r h keys)

    rounds_turned : {s : Shares} (left r : ℕ) (ts : List ℕ) → 16 * (r + left) + 16 ≤ l → Shared 16 d s
        → D.rounds_from rf (suc left) r d (bytes l ks) (bytes 16 s) ts ≡ bytes 16 (masked_rounds left r d ks s ts)
    unfolding D.rounds_from masked_rounds masked_last_round
    rounds_turned zero r ts h hs =
        ap₂ D.add (rows_turned ts hs) (round_key_turned l ks r (omega arith))
        ∙ add_turned (rows-shared ts hs) (round_keys-shared r (omega arith) keys)
    rounds_turned {s} (suc left) r ts h hs =
        let sub = D.shifted (D.substituted rf d (bytes 16 s) ts) in
        let after = D.rounds_from rf (suc left) (suc r) d (bytes l ks) in
        ap (λ (last : Bool). after (D.add (cond last sub (D.mixed 4 sub)) (D.round_key (bytes l ks) r)) (drop (16 * D.box_tape rf d) ts))
        (eqb-suc-zero left)
        ∙ ap₂ after (round_turned r ts (omega arith) hs) (ap (λ (n : ℕ). drop n ts) round_need_is)
        ∙ rounds_turned {s = masked_round d r ks s ts} left (suc r) (drop (round_need d) ts) (omega arith) (round-shared keys r ts (omega arith) hs)

  -- ---- THE CIPHER

  key_boxes_are : (nk : ℕ) → D.key_words nk ≡ true → D.key_boxes nk * D.box_tape rf d ≡ schedule_need nk d
  unfolding D.key_boxes
  key_boxes_are nk =
      sizes (λ nk. D.key_boxes nk * D.box_tape rf d ≡ schedule_need nk d)
      (omega (arith, box_tape, schedule_need_4 d)) (omega (arith, box_tape, schedule_need_6 d)) (omega (arith, box_tape, schedule_need_8 d)) nk

  pub encrypted_turned : (nk : ℕ) {k x : Shares} (ts : List ℕ) → D.key_words nk ≡ true → Shared (4 * nk) d k → Shared 16 d x
      → D.encrypted rf nk d (bytes (4 * nk) k) (bytes 16 x) ts ≡ bytes 16 (encrypted nk d k x ts)
  unfolding D.encrypted D.rounds encrypted encrypted_with rounds
  encrypted_turned nk {k} {x} ts size hk hx =
      let keys = schedule-shared nk ts (some_words nk size) hk in
      let n : nk + 6 ≡ suc (nk + 6 - 1) = omega arith in
      rw (
        expanded_turned nk size ts hk,
        round_key_turned (16 * suc (nk + 6)) (schedule nk d k ts) 0 (omega arith),
        add_turned hx (round_keys-shared 0 (omega arith) keys),
        key_boxes_are nk size,
      )
      (ap (λ (l : ℕ). D.rounds_from rf l 1 d (bytes (16 * suc (nk + 6)) (schedule nk d k ts)) (bytes 16 (adds x (round_keys (schedule nk d k ts) 0)))
      (drop (schedule_need nk d) ts)) n
      ∙ rounds_turned keys (nk + 6 - 1) 1 (drop (schedule_need nk d) ts) (omega arith) (adds-shared hx (round_keys-shared 0 (omega arith) keys)))

  pub cipher_tape : (nk : ℕ) → D.key_words nk ≡ true → D.cipher_tape rf nk d ≡ cipher_need nk d
  unfolding D.cipher_tape D.key_boxes D.rounds
  cipher_tape nk =
      sizes (λ nk. D.cipher_tape rf nk d ≡ cipher_need nk d) (omega (arith, box_tape, counted d)) (omega (arith, box_tape, counted d))
      (omega (arith, box_tape, counted d)) nk

  -- on the layout of the routines, byte for byte
  pub encrypted_agrees : (nk : ℕ) (k x ts : List ℕ) → D.key_words nk ≡ true → length k ≡ suc d * (4 * nk) → length x ≡ suc d * 16
      → D.laid (suc d) (D.encrypted rf nk d (D.shared (suc d) k) (D.shared (suc d) x) ts) ≡ encrypted_laid nk d k x ts
  unfolding encrypted_laid
  encrypted_agrees nk k x ts size lk lx =
      let hk = shared-parts d (4 * nk) k (omega arith) in
      let hx = shared-parts d 16 x (omega arith) in
      rw (shared_turned d (4 * nk) k lk, shared_turned d 16 x lx, encrypted_turned nk ts size hk hx)
      (laid_turned (encrypted-shared nk ts (some_words nk size) hk hx))
