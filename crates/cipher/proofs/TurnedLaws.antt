-- Strings in shares, transposed: the list of the bytes, each with its shares, as document 03 has them. Its linear steps and its layout are ours
-- on this list. Assumes nothing.
use mathlib.Core.Path.{◌≡◌, refl, sym, ap, ap₂, ◌∙◌, subst}
use mathlib.Core.Logic.{◌≢◌}
use mathlib.Core.List.{List, [], ◌∷◌, ◌++◌, map}
use Prim.Native.Nat.{ℕ, zero, suc, ◌+◌, ◌*◌, ◌-◌, ◌/◌, ◌%◌, ◌≤◌, ◌<◌}
use native.Mathlib.Nat.{zero-add, zero-lt-suc, mul-div_cancel_left}
use native.Mathlib.Omega.{arith}
use lib.Bits.{bit_xor, xor_zero_r}
use lib.ListN.{length, get_or, set, take, drop, length-set, get_or-append}
use lib.Seq.{take_at, drop_at, get_or-append-add, get_or-set_same, get_or-set_other, get_or-take, get_or-drop, ext_get_or}
use Rattle.xor.specs.Lists.{at, tab, runs, All, ◌&◌, Below}
use Rattle.xor.proofs.ListsLaws.{all_get_d, tab_cong, tab_first, length-tab, getD_tab, at-tab, tab-at, map-tab}
use Rattle.xor.proofs.RunsLaws.{runs-split, tab_from}
use Rattle.xor.proofs.StringLaws.{at-xors}
use Rattle.xor.proofs.Tests.{by_eq}
use Rattle.xor.proofs.XorLaws.{xor_regroup}
use Rattle.gf256.specs.Field.{doubled, power, mixed}
use Rattle.gf256.proofs.ProductLaws.{times_two, times_three}
use Rattle.shares.specs.Strings.{Shares, Shared, alone, more, laid, parts}
use Rattle.cipher.specs.Fips197.{cell, state, shift_rows, mix_columns, word, rot_word, rcon, round_key}
use Rattle.cipher.specs.States.{column, put, adds, behind, into_first}
use Rattle.cipher.specs.Cipher.{words, round_keys}
use Rattle.cipher.specs.Document03 as D

-- ---- transposed: the list of the l bytes, each with its shares

unfoldable pub bytes : (l : ℕ) → Shares → D.Shared
bytes l ss = tab (λ k. column k ss) l

pub bytes-length : (l : ℕ) (ss : Shares) → length (bytes l ss) ≡ l
unfolding bytes
bytes-length l ss = length-tab (λ k. column k ss) l

pub bytes-at : (l : ℕ) (ss : Shares) (k : ℕ) → k < l → D.sh (bytes l ss) k ≡ column k ss
unfolding bytes D.sh
bytes-at l ss k h = getD_tab (λ k. column k ss) l k [] h

-- ---- one byte replaced

column-put-same : {l d : ℕ} {ss : Shares} (k : ℕ) (vs : List ℕ) → k < l → length vs ≡ suc d → Shared l d ss → column k (put ss k vs) ≡ vs
unfolding column put at
column-put-same k [] g e hs = absurd (omega arith)
column-put-same k (v ∷ []) g e (alone {s = s} h) = ap (λ (x : ℕ). x ∷ []) (get_or-set_same s k v 0 (omega arith))
column-put-same k (v ∷ w ∷ vs) g e (alone h) = absurd (omega arith)
column-put-same k (v ∷ []) g e (more h hs) = absurd (omega arith)
column-put-same k (v ∷ w ∷ vs) g e (more {s = s} h hs) =
    ap₂ ◌∷◌ (get_or-set_same s k v 0 (omega arith)) (column-put-same k (w ∷ vs) g (omega arith) hs)

column-put-other : (ss : Shares) (j k : ℕ) (vs : List ℕ) → j ≢ k → column j (put ss k vs) ≡ column j ss
unfolding column put at
column-put-other [] j k vs ne = refl
column-put-other (s ∷ ss) j k [] ne = refl
column-put-other (s ∷ ss) j k (v ∷ vs) ne = ap₂ ◌∷◌ (get_or-set_other s k j v 0 ne) (column-put-other ss j k vs ne)

pub bytes-put : {l d : ℕ} {ss : Shares} (k : ℕ) (vs : List ℕ) → k < l → length vs ≡ suc d → Shared l d ss
    → bytes l (put ss k vs) ≡ set (bytes l ss) k vs
unfolding bytes
bytes-put {l} {ss = ss} k vs g e hs =
    let lb = length-tab (λ j. column j (put ss k vs)) l in
    let lc = length-tab (λ j. column j ss) l in
    ext_get_or [] _ _ (lb ∙ sym (length-set (bytes l ss) k vs ∙ lc))
    (λ j h.
    let h' : j < l = omega arith in
    getD_tab (λ j. column j (put ss k vs)) l j [] h'
    ∙ by_eq (λ c. column j (put ss k vs) ≡ get_or (set (tab (λ j. column j ss) l) k vs) j []) j k
    (λ q. rw q (column-put-same k vs g e hs ∙ sym (get_or-set_same (tab (λ j. column j ss) l) k vs [] (omega arith))))
    (λ ne. column-put-other ss j k vs ne ∙ sym (get_or-set_other (tab (λ j. column j ss) l) k j vs [] ne ∙ getD_tab (λ j. column j ss) l j [] h')))

-- ---- cut and put together

tab-split : {A : Type 0} (f : ℕ → A) (i k : ℕ) → tab f (i + k) ≡ tab f i ++ tab (λ m. f (i + m)) k
unfolding tab
tab-split f i k = runs-split (λ i. f i ∷ []) i k

column_cut : (n m k : ℕ) (ss : Shares) → k < n → column (m + k) ss ≡ column k (map (λ s. take n (drop m s)) ss)
unfolding column at
column_cut n m k [] h = refl
column_cut n m k (s ∷ ss) h = ap₂ ◌∷◌ (sym (get_or-take n (drop m s) k 0 h ∙ get_or-drop m s k 0)) (column_cut n m k ss h)

bytes_cut : (n m l : ℕ) (ss : Shares) → m + n ≤ l → take n (drop m (bytes l ss)) ≡ bytes n (map (λ s. take n (drop m s)) ss)
unfolding bytes
bytes_cut n m l ss h =
    let f : ℕ → List ℕ = λ k. column k ss in
    let r = l - (m + n) in
    let e : l ≡ m + (n + r) = omega arith in
    ap (λ (k : ℕ). take n (drop m (tab f k))) e
    ∙ ap (λ (x : D.Shared). take n (drop m x)) (tab-split f m (n + r))
    ∙ ap (take n) (drop_at (tab f m) (tab (λ k. f (m + k)) (n + r)) m (length-tab f m) ∙ tab-split (λ k. f (m + k)) n r)
    ∙ take_at (tab (λ k. f (m + k)) n) _ n (length-tab (λ k. f (m + k)) n)
    ∙ tab_cong _ _ n (λ k g. column_cut n m k ss g)

pub word_turned : (l : ℕ) (ks : Shares) (i : ℕ) → 4 * i + 4 ≤ l → D.word (bytes l ks) i ≡ bytes 4 (words ks i)
unfolding D.word word
word_turned l ks i h = bytes_cut 4 (4 * i) l ks h

pub round_key_turned : (l : ℕ) (ks : Shares) (r : ℕ) → 16 * r + 16 ≤ l → D.round_key (bytes l ks) r ≡ bytes 16 (round_keys ks r)
unfolding D.round_key round_key
round_key_turned l ks r h = bytes_cut 16 (16 * r) l ks h

column-adds : {l d : ℕ} {ss ts : Shares} (k : ℕ) → Shared l d ss → Shared l d ts → D.xors (column k ss) (column k ts) ≡ column k (adds ss ts)
unfolding D.xors column adds
column-adds k (alone {s = s} h) (alone {s = t} g) = ap (λ (x : ℕ). x ∷ []) (sym (at-xors s t k))
column-adds k (more {s = s} h hs) (more {s = t} g gs) = ap₂ ◌∷◌ (sym (at-xors s t k)) (column-adds k hs gs)

column_before : {l m d : ℕ} {ss ts : Shares} (k : ℕ) → k < l → Shared l d ss → Shared m d ts → column k ss ≡ column k (behind ss ts)
unfolding column behind at
column_before k u (alone {s = s} h) (alone {s = t} g) = ap (λ (x : ℕ). x ∷ []) (sym (get_or-append s t 0 k (omega arith)))
column_before k u (more {s = s} h hs) (more {s = t} g gs) = ap₂ ◌∷◌ (sym (get_or-append s t 0 k (omega arith))) (column_before k u hs gs)

column-after : {l m d : ℕ} {ss ts : Shares} (k : ℕ) → Shared l d ss → Shared m d ts → column k ts ≡ column (l + k) (behind ss ts)
unfolding column behind at
column-after k (alone {s = s} h) (alone {s = t} g) =
    ap (λ (x : ℕ). x ∷ []) (sym (ap (λ (n : ℕ). get_or (s ++ t) (n + k) 0) (sym h) ∙ get_or-append-add s t k 0))
column-after k (more {s = s} h hs) (more {s = t} g gs) =
    ap₂ ◌∷◌ (sym (ap (λ (n : ℕ). get_or (s ++ t) (n + k) 0) (sym h) ∙ get_or-append-add s t k 0)) (column-after k hs gs)

add_tabs : (f g : ℕ → List ℕ) (l : ℕ) → D.add (tab f l) (tab g l) ≡ tab (λ k. D.xors (f k) (g k)) l
unfolding D.add
add_tabs f g zero = unfold tab runs in refl
add_tabs f g (suc l) =
    ap₂ D.add (tab_first f l) (tab_first g l) ∙ ap (◌∷◌ (D.xors (f 0) (g 0))) (add_tabs (λ k. f (suc k)) (λ k. g (suc k)) l)
    ∙ sym (tab_first (λ k. D.xors (f k) (g k)) l)

module _ {d l : ℕ} {ss ts : Shares} where
  pub add_turned : Shared l d ss → Shared l d ts → D.add (bytes l ss) (bytes l ts) ≡ bytes l (adds ss ts)
  unfolding bytes
  add_turned hs gs = add_tabs (λ k. column k ss) (λ k. column k ts) l ∙ tab_cong _ _ l (λ k h. column-adds k hs gs)

  pub append_turned : {m : ℕ} → Shared l d ss → Shared m d ts → bytes l ss ++ bytes m ts ≡ bytes (l + m) (behind ss ts)
  unfolding bytes
  append_turned {m} hs gs =
      ap₂ ◌++◌ (tab_cong _ _ l (λ k h. column_before k h hs gs)) (tab_cong _ _ m (λ k h. column-after k hs gs))
      ∙ sym (tab-split (λ k. column k (behind ss ts)) l m)

-- ---- a map of each share, given by the bytes of its value

column-map : (n : ℕ) (f : List ℕ → List ℕ) (g : ℕ → List ℕ → ℕ) → ((s : List ℕ) → f s ≡ tab (λ k. g k s) n)
    → (k : ℕ) → k < n → (ss : Shares) → map (g k) ss ≡ column k (map f ss)
unfolding column
column-map n f g e k h [] = refl
column-map n f g e k h (s ∷ ss) = ap₂ ◌∷◌ (sym (ap (λ (l : List ℕ). at l k) (e s) ∙ at-tab (λ k. g k s) n k h)) (column-map n f g e k h ss)

bytes-map : (n : ℕ) (f : List ℕ → List ℕ) (g : ℕ → List ℕ → ℕ) → ((s : List ℕ) → f s ≡ tab (λ k. g k s) n)
    → (ss : Shares) → tab (λ k. map (g k) ss) n ≡ bytes n (map f ss)
unfolding bytes
bytes-map n f g e ss = tab_cong _ _ n (λ k h. column-map n f g e k h ss)

pub rotated_turned : (ws : Shares) → D.rotated (bytes 4 ws) ≡ bytes 4 (map rot_word ws)
unfolding D.rotated D.sh bytes column tab runs
rotated_turned ws = bytes-map 4 rot_word (λ k w. at w ((k + 1) % 4)) (λ s. unfold rot_word in refl) ws

pub shifted_turned : (ss : Shares) → D.shifted (bytes 16 ss) ≡ bytes 16 (map shift_rows ss)
unfolding D.shifted D.shifted_from D.sh bytes column tab runs cell
shifted_turned ss = bytes-map 16 shift_rows (λ k s. cell s (k % 4) (k / 4 + k % 4)) (λ s. unfold shift_rows state in refl) ss

-- MixColumns, where the bytes are below 256
mixed_is : (a b c e : ℕ) → b < 256 → bit_xor (doubled a) (bit_xor (bit_xor (doubled b) b) (bit_xor c e)) ≡ mixed a b c e
unfolding mixed
mixed_is a b c e h =
    xor_regroup (doubled a) (bit_xor (doubled b) b) c e
    ∙ sym (ap₂ (λ (x y : ℕ). bit_xor (bit_xor (bit_xor x y) c) e) (times_two a) (times_three b h))

column-mixed : (i j k m : ℕ) (ss : Shares) → Below 256 (column j ss)
    → D.mixed_byte (column i ss) (column j ss) (column k ss) (column m ss) ≡ map (λ s. mixed (at s i) (at s j) (at s k) (at s m)) ss
unfolding D.mixed_byte D.xors D.each column
column-mixed i j k m [] h = refl
column-mixed i j k m (s ∷ ss) (h & hs) = ap₂ ◌∷◌ (mixed_is (at s i) (at s j) (at s k) (at s m) h) (column-mixed i j k m ss hs)

-- the byte in row r and column c of a state; byte k's own, and those one, two and three rows below it in its column
abbrev place : (r c : ℕ) → ℕ
place r c = r % 4 + 4 * (c % 4)

abbrev p₀ : (k : ℕ) → ℕ
p₀ k = place (k % 4) (k / 4)

abbrev p₁ : (k : ℕ) → ℕ
p₁ k = place (k % 4 + 1) (k / 4)

abbrev p₂ : (k : ℕ) → ℕ
p₂ k = place (k % 4 + 2) (k / 4)

abbrev p₃ : (k : ℕ) → ℕ
p₃ k = place (k % 4 + 3) (k / 4)

pub mixed_turned : (ss : Shares) → All (Below 256) (bytes 16 ss) → D.mixed 4 (bytes 16 ss) ≡ bytes 16 (map mix_columns ss)
mixed_turned ss h =
    listed ∙ tab_cong _ _ 16 (λ k u. column-mixed (p₀ k) (p₁ k) (p₂ k) (p₃ k) ss (below (p₁ k) (omega arith)))
    ∙ bytes-map 16 mix_columns (λ k s. mixed (at s (p₀ k)) (at s (p₁ k)) (at s (p₂ k)) (at s (p₃ k))) (λ s. unfold mix_columns state cell in refl) ss
  where
    listed : D.mixed 4 (bytes 16 ss) ≡ tab (λ k. D.mixed_byte (column (p₀ k) ss) (column (p₁ k) ss) (column (p₂ k) ss) (column (p₃ k) ss)) 16
    listed = unfold D.mixed D.mixed_column D.sh bytes tab runs in refl

    below : (j : ℕ) → j < 16 → Below 256 (column j ss)
    below j u = subst (Below 256) (bytes-at 16 ss j u) (unfold D.sh in all_get_d [] j (rw (bytes-length 16 ss) u) h)

-- ---- Rcon into share 0

rcon_is : (i : ℕ) → D.rcon i ≡ power 2 i
unfolding D.rcon power
rcon_is zero = refl
rcon_is (suc i) = ap doubled (rcon_is i) ∙ sym (times_two (power 2 i))

into_first_zero : (xs : List ℕ) → D.into_first 0 xs ≡ xs
unfolding D.into_first
into_first_zero [] = refl
into_first_zero (x ∷ xs) = ap (λ (y : ℕ). y ∷ xs) (xor_zero_r x)

column-into_first : (k : ℕ) (t : List ℕ) (ws : Shares) → D.into_first (at t k) (column k ws) ≡ column k (into_first t ws)
unfolding D.into_first column into_first
column-into_first k t [] = refl
column-into_first k t (w ∷ ws) = ap (λ (y : ℕ). y ∷ map (λ s. at s k) ws) (sym (at-xors w t k))

pub with_rcon_turned : (j : ℕ) (ws : Shares) → D.with_rcon (D.rcon (j - 1)) (bytes 4 ws) ≡ bytes 4 (into_first (rcon j) ws)
unfolding bytes
with_rcon_turned j ws = first ∙ tab_cong _ _ 4 (λ k h. column-into_first k (rcon j) ws)
  where
    first : D.with_rcon (D.rcon (j - 1)) (tab (λ k. column k ws) 4) ≡ tab (λ k. D.into_first (at (rcon j) k) (column k ws)) 4
    first = unfold D.with_rcon rcon at tab runs in simp (rcon_is, into_first_zero)

-- ---- the layout

column_shift : (n l i m : ℕ) (bs : List ℕ) → D.column n l (i + m) bs ≡ D.column n l i (drop m bs)
unfolding D.column
column_shift zero l i m bs = refl
column_shift (suc n) l i m bs =
    let e : i + m ≡ m + i = omega arith in
    let f : i + m + l ≡ i + l + m = omega arith in
    ap₂ ◌∷◌ (ap (λ (k : ℕ). get_or bs k 0) e ∙ sym (get_or-drop m bs i 0)) (ap (λ (k : ℕ). D.column n l k bs) f ∙ column_shift n l (i + l) m bs)

column-parts : (n l i : ℕ) (bs : List ℕ) → i < l → D.column n l i bs ≡ column i (parts n l bs)
unfolding D.column column parts at
column-parts zero l i bs h = refl
column-parts (suc n) l i bs h = ap₂ ◌∷◌ (sym (get_or-take l bs i 0 h)) (column_shift n l i l bs ∙ column-parts n l i (drop l bs) h)

shared_from_is : (left i n l : ℕ) (bs : List ℕ) → D.shared_from left i n l bs ≡ tab (λ m. D.column n l (i + m) bs) left
unfolding D.shared_from
shared_from_is zero i n l bs = unfold tab runs in refl
shared_from_is (suc left) i n l bs =
    ap (◌∷◌ (D.column n l i bs)) (shared_from_is left (suc i) n l bs) ∙ sym (tab_from (λ i. D.column n l i bs) i left)

pub shared_turned : (d l : ℕ) (bs : List ℕ) → length bs ≡ suc d * l → D.shared (suc d) bs ≡ bytes l (parts (suc d) l bs)
unfolding D.shared bytes
shared_turned d l bs e =
    let q : length bs / suc d ≡ l = ap (λ (n : ℕ). n / suc d) e ∙ mul-div_cancel_left l (zero-lt-suc d) in
    rw q (shared_from_is l 0 (suc d) l bs
    ∙ tab_cong _ _ l (λ i h. ap (λ (k : ℕ). D.column (suc d) l k bs) (zero-add i) ∙ column-parts (suc d) l i bs h))

pub nth_shares_is : (i : ℕ) (xs : D.Shared) → D.nth_shares i xs ≡ map (λ x. at x i) xs
unfolding D.nth_shares
nth_shares_is i [] = refl
nth_shares_is i (x ∷ xs) = ap (◌∷◌ (at x i)) (nth_shares_is i xs)

nth_turned : (i l : ℕ) (ss : Shares) → D.nth_shares i (bytes l ss) ≡ tab (λ k. at (column k ss) i) l
unfolding bytes
nth_turned i l ss = nth_shares_is i (tab (λ k. column k ss) l) ∙ map-tab (λ x. at x i) (λ k. column k ss) l

-- the first share left out
laid_later : (n i l : ℕ) (s : List ℕ) (ss : Shares) → D.laid_from n (suc i) (bytes l (s ∷ ss)) ≡ D.laid_from n i (bytes l ss)
unfolding D.laid_from
laid_later zero i l s ss = refl
laid_later (suc n) i l s ss =
    let e : tab (λ k. at (column k (s ∷ ss)) (suc i)) l ≡ tab (λ k. at (column k ss) i) l = unfold column at in refl in
    ap₂ ◌++◌ (nth_turned (suc i) l (s ∷ ss) ∙ e ∙ sym (nth_turned i l ss)) (laid_later n (suc i) l s ss)

nth_first : {l : ℕ} (s : List ℕ) (ss : Shares) → length s ≡ l → D.nth_shares 0 (bytes l (s ∷ ss)) ≡ s
nth_first {l} s ss h =
    let e : tab (λ k. at (column k (s ∷ ss)) 0) l ≡ tab (at s) l = unfold column at in refl in
    nth_turned 0 l (s ∷ ss) ∙ e ∙ ap (tab (at s)) (sym h) ∙ tab-at s

pub laid_turned : {l d : ℕ} {ss : Shares} → Shared l d ss → D.laid (suc d) (bytes l ss) ≡ laid ss
unfolding D.laid D.laid_from laid
laid_turned (alone {s = s} h) = ap (λ (x : List ℕ). x ++ []) (nth_first s [] h)
laid_turned {l} (more {d = d} {s = s} {ss = ss} h hs) = ap₂ ◌++◌ (nth_first s ss h) (laid_later (suc d) 0 l s ss ∙ laid_turned hs)
