-- What document 03 states of shares that join, in its own words: the product, its refresh, the S-box, the cipher and splitting; S-box and cipher
-- with the refresh of document 02, wish 7. It compares these two with its own at order 0; both sides join to what FIPS 197 computes. Of its bounds
-- on bytes, order and tape the proofs use one: the tape of a split. Assumes nothing.
use mathlib.Core.Path.{◌≡◌, refl, sym, ap, ap₂, ◌∙◌, subst}
use mathlib.Core.Bool.{true, ◌&&◌}
use mathlib.Core.List.{List, [], ◌∷◌, ◌++◌, map}
use Prim.Native.Nat.{ℕ, zero, suc, ◌*◌, ◌≤◌, ◌<◌}
use native.Mathlib.Nat.{suc-mul}
use native.Mathlib.Omega.{arith}
use lib.Bits.{bit_xor, xor_zero_r}
use lib.Dec.{T, eqb, eqb→eq}
use lib.ListN.{length, get_or, take, drop, length-map, length-drop}
use lib.Seq.{length-take-le, ext_get_or}
use Rattle.xor.specs.Lists.{at, tab, runs, All, done, ◌&◌}
use Rattle.xor.specs.Sums.{joined, xors}
use Rattle.xor.proofs.ListsLaws.{all_get_d, all-tab, tab_cong, tab_first, tab-at, at_map, map-tab}
use Rattle.xor.proofs.StringLaws.{xors_nil_r, xors_assoc, length_both}
use Rattle.xor.proofs.Tests.{true_T, and_left, and_right}
use Rattle.gf256.specs.Field.{times, s_box}
use Rattle.gf256.proofs.ProductLaws.{times-left, times-right}
use Rattle.isw.proofs.JoinLaws.{product_joins_all}
use Rattle.isw.proofs.Document03Laws.{product_agrees}
use Rattle.shares.specs.Strings.{Shares, Shared, alone, more, joined_string, laid, parts, split, split_need}
use Rattle.refresh.proofs.RefreshLaws.{pairs_refreshed_joins}
use Rattle.shares.proofs.StringsLaws.{length-joined, laid-length, parts-laid, shared-split, laid-split, split_joins}
use Rattle.sbox.proofs.BoxLaws.{box_joins}
use Rattle.cipher.specs.Fips197.{cipher}
use Rattle.cipher.specs.States.{column}
use Rattle.cipher.specs.Document03 as D
use Rattle.cipher.proofs.StatesLaws.{column_joins}
use Rattle.cipher.proofs.Accuracy.{encrypted-shared, cipher_joins}
use Rattle.cipher.proofs.TurnedLaws.{bytes, bytes-length, bytes-at, nth_shares_is, shared_turned}
use Rattle.cipher.proofs.Document03Laws.{short-refreshed, Same, strong-same, box_agrees, some_words, encrypted_turned}

-- ---- the product

pub product_joins_document03 : D.ProductJoins
unfolding D.ProductJoins
product_joins_document03 [] b ts ha hb ht same some enough = absurd (omega arith)
product_joins_document03 (x ∷ xs) b ts ha hb ht same some enough =
    ap joined (sym (product_agrees times (length xs) (x ∷ xs) b ts refl))
    ∙ product_joins_all times times-left times-right (length xs) (x ∷ xs) b ts refl (sym same)

-- ---- the refresh: its own, the short one

pub refresh_joins_document03 : D.RefreshJoins
unfolding D.RefreshJoins
refresh_joins_document03 [] ts ha ht enough = unfold D.refreshed in refl
refresh_joins_document03 (x ∷ xs) ts ha ht enough =
    ap joined (short-refreshed (length xs) (x ∷ xs) ts refl)
    ∙ pairs_refreshed_joins (suc (length xs)) (all-tab (λ k. (0, suc k)) (length xs) (λ k l. (omega arith, omega arith))) (x ∷ xs) ts refl

-- ---- the S-box

-- its box joins to the S-box of FIPS 197
pub box_joins_plain : (a ts : List ℕ) → 1 ≤ length a → joined (D.box D.strong a ts) ≡ s_box (joined a)
box_joins_plain [] ts some = absurd (omega arith)
box_joins_plain (x ∷ xs) ts some =
    ap joined (box_agrees D.strong (strong-same (length xs)) (x ∷ xs) ts refl) ∙ box_joins (length xs) (x ∷ xs) ts refl

joined-alone : (x : ℕ) → joined (x ∷ []) ≡ x
unfolding joined
joined-alone x = xor_zero_r x

pub box_joins_document03 : D.BoxJoins D.strong
unfolding D.BoxJoins
box_joins_document03 a ts ha ht some enough =
    box_joins_plain a ts some ∙ sym (box_joins_plain (joined a ∷ []) [] (omega arith) ∙ ap s_box (joined-alone (joined a)))

-- ---- a list of shared bytes is a list of shares, transposed

shares_of : (d : ℕ) → D.Shared → Shares
shares_of d xs = tab (λ i. D.nth_shares i xs) (suc d)

shared-tab : (d l : ℕ) (f : ℕ → List ℕ) → ((i : ℕ) → length (f i) ≡ l) → Shared l d (tab f (suc d))
shared-tab zero l f h = unfold tab runs in alone (h 0)
shared-tab (suc d) l f h = subst (Shared l (suc d)) (sym (tab_first f (suc d))) (more (h 0) (shared-tab d l (λ i. f (suc i)) (λ i. h (suc i))))

shares_shared : (d : ℕ) (xs : D.Shared) → Shared (length xs) d (shares_of d xs)
unfolding shares_of
shares_shared d xs = shared-tab d (length xs) (λ i. D.nth_shares i xs) (λ i. ap length (nth_shares_is i xs) ∙ length-map xs (λ x. at x i))

column-of : (d k : ℕ) (xs : D.Shared) → k < length xs → length (get_or xs k []) ≡ suc d → column k (shares_of d xs) ≡ get_or xs k []
unfolding column shares_of
column-of d k xs h e =
    map-tab (λ s. at s k) (λ i. D.nth_shares i xs) (suc d)
    ∙ tab_cong _ _ (suc d) (λ i g. ap (λ (s : List ℕ). at s k) (nth_shares_is i xs) ∙ at_map (λ x. at x i) xs [] k h)
    ∙ ap (tab (at (get_or xs k []))) (sym e) ∙ tab-at (get_or xs k [])

bytes_of : (d : ℕ) (xs : D.Shared) → All (λ x. length x ≡ suc d) xs → bytes (length xs) (shares_of d xs) ≡ xs
unfolding D.sh
bytes_of d xs hs =
    let ss = shares_of d xs in
    ext_get_or [] _ _ (bytes-length (length xs) ss)
    (λ k h.
    let g : k < length xs = omega (arith, bytes-length (length xs) ss) in
    bytes-at (length xs) ss k g ∙ column-of d k xs g (all_get_d [] k g hs))

lengths : (n : ℕ) (xs : D.Shared) → T (D.all_shared n xs) → All (λ x. length x ≡ n) xs
unfolding D.all_shared
lengths n [] t = done
lengths n (x ∷ xs) t =
    let this = eqb (length x) n && D.all_bytes x in
    eqb→eq (length x) n (and_left (eqb (length x) n) (D.all_bytes x) (and_left this (D.all_shared n xs) t))
    & lengths n xs (and_right this (D.all_shared n xs) t)

-- what they join to

joined_all_is : (xs : D.Shared) → D.joined_all xs ≡ map joined xs
unfolding D.joined_all
joined_all_is [] = refl
joined_all_is (x ∷ xs) = ap (◌∷◌ (joined x)) (joined_all_is xs)

pub joined_all_turned : {l d : ℕ} {ss : Shares} → Shared l d ss → D.joined_all (bytes l ss) ≡ joined_string ss
unfolding bytes
joined_all_turned {l} {ss = ss} hs =
    joined_all_is (tab (λ k. column k ss) l) ∙ map-tab joined (λ k. column k ss) l ∙ tab_cong _ _ l (λ k h. column_joins k ss)
    ∙ ap (tab (at (joined_string ss))) (sym (length-joined hs)) ∙ tab-at (joined_string ss)

length-joined_all : (xs : D.Shared) → length (D.joined_all xs) ≡ length xs
length-joined_all xs = ap length (joined_all_is xs) ∙ length-map xs joined

-- ---- plain bytes: one share each

length-alone : (xs : List ℕ) → length (D.alone xs) ≡ length xs
unfolding D.alone
length-alone [] = refl
length-alone (x ∷ xs) = ap suc (length-alone xs)

alone_lengths : (xs : List ℕ) → All (λ x. length x ≡ 1) (D.alone xs)
unfolding D.alone
alone_lengths [] = done
alone_lengths (x ∷ xs) = refl & alone_lengths xs

joined_all-alone : (xs : List ℕ) → D.joined_all (D.alone xs) ≡ xs
unfolding D.joined_all D.alone
joined_all-alone [] = refl
joined_all-alone (x ∷ xs) = ap₂ ◌∷◌ (joined-alone x) (joined_all-alone xs)

-- ---- the cipher

-- its cipher over shares joins to the cipher of FIPS 197, with any refresh that is ours at that order
module _ (rf : D.Refresh) (nk : ℕ) (size : D.key_words nk ≡ true) where
  turned_joins : {d : ℕ} {k x : Shares} (ts : List ℕ) → Same rf d → Shared (4 * nk) d k → Shared 16 d x
      → D.joined_all (D.encrypted rf nk d (bytes (4 * nk) k) (bytes 16 x) ts) ≡ cipher nk (joined_string k) (joined_string x)
  turned_joins ts same hk hx =
      let some = some_words nk size in
      ap D.joined_all (encrypted_turned rf same nk ts size hk hx) ∙ joined_all_turned (encrypted-shared nk ts some hk hx)
      ∙ cipher_joins nk ts some hk hx

  pub cipher_joins_plain : (d : ℕ) (k x : D.Shared) (ts : List ℕ) → Same rf d → All (λ b. length b ≡ suc d) k → All (λ b. length b ≡ suc d) x
      → length k ≡ 4 * nk → length x ≡ 16 → D.joined_all (D.encrypted rf nk d k x ts) ≡ cipher nk (D.joined_all k) (D.joined_all x)
  cipher_joins_plain d k x ts same hk hx lk lx =
      let sk = shares_shared d k in
      let sx = shares_shared d x in
      let bk = bytes_of d k hk in
      let bx = bytes_of d x hx in
      ap₂ (λ (k x : D.Shared). D.joined_all (D.encrypted rf nk d k x ts))
      (sym bk ∙ ap (λ (l : ℕ). bytes l (shares_of d k)) lk) (sym bx ∙ ap (λ (l : ℕ). bytes l (shares_of d x)) lx)
      ∙ turned_joins ts same (rw lk at sk) (rw lx at sx)
      ∙ ap₂ (cipher nk) (sym (joined_all_turned sk) ∙ ap D.joined_all bk) (sym (joined_all_turned sx) ∙ ap D.joined_all bx)

  -- its AES is FIPS 197
  pub aes_plain : (k x : List ℕ) → Same rf 0 → length k ≡ 4 * nk → length x ≡ 16 → D.aes rf nk k x ≡ cipher nk k x
  unfolding D.aes
  aes_plain k x same lk lx =
      cipher_joins_plain 0 (D.alone k) (D.alone x) [] same (alone_lengths k) (alone_lengths x) (length-alone k ∙ lk) (length-alone x ∙ lx)
      ∙ ap₂ (cipher nk) (joined_all-alone k) (joined_all-alone x)

pub cipher_joins_document03 : D.CipherJoins D.strong
unfolding D.CipherJoins
cipher_joins_document03 nk d k x ts size order hk hx lk lx ht enough =
    cipher_joins_plain D.strong nk size d k x ts (strong-same d) (lengths (suc d) k (true_T hk)) (lengths (suc d) x (true_T hx)) lk lx
    ∙ sym (aes_plain D.strong nk size (D.joined_all k) (D.joined_all x) (strong-same 0) (length-joined_all k ∙ lk) (length-joined_all x ∙ lx))

-- ---- splitting

xors-same : (xs ys : List ℕ) → length ys ≡ length xs → D.xors xs ys ≡ xors xs ys
unfolding D.xors xors
xors-same [] [] e = refl
xors-same [] (y ∷ ys) e = absurd (omega arith)
xors-same (x ∷ xs) [] e = absurd (omega arith)
xors-same (x ∷ xs) (y ∷ ys) e = ap (◌∷◌ (bit_xor x y)) (xors-same xs ys (omega arith))

-- share 0
split_first_is : (d l : ℕ) (xs ts : List ℕ) → length xs ≡ l → d * l ≤ length ts → D.split_first d xs ts ≡ xors xs (joined_string (parts d l ts))
unfolding D.split_first joined_string parts
split_first_is zero l xs ts e h = sym (xors_nil_r xs)
split_first_is (suc d) l xs ts e h =
    let m = suc-mul d l in
    let t : length (take l ts) ≡ l = length-take-le l ts (omega arith) in
    rw (e, xors-same xs (take l ts) (t ∙ sym e))
    (split_first_is d l (xors xs (take l ts)) (drop l ts) (length_both xs (take l ts) e t) (omega (arith, length-drop l ts))
    ∙ xors_assoc xs (take l ts) (joined_string (parts d l (drop l ts))))

-- its split block is ours, laid out
pub split_agrees : (d : ℕ) (xs ts : List ℕ) → d * length xs ≤ length ts → D.split d xs ts ≡ laid (split d xs ts)
unfolding D.split
split_agrees d xs ts h = ap (λ (s : List ℕ). s ++ take (d * length xs) ts) (split_first_is d (length xs) xs ts refl h) ∙ sym (laid-split d xs ts h)

pub split_joins_document03 : D.SplitJoins
unfolding D.SplitJoins split_need
split_joins_document03 d xs ts some hx ht enough =
    let hs = shared-split d xs ts enough in
    ap (λ (bs : List ℕ). D.joined_all (D.shared (suc d) bs)) (split_agrees d xs ts enough)
    ∙ ap D.joined_all (shared_turned d (length xs) (laid (split d xs ts)) (laid-length hs) ∙ ap (bytes (length xs)) (parts-laid hs))
    ∙ joined_all_turned hs ∙ split_joins d xs ts
