-- The refresh: its length, its need, that it joins to the same byte, that bytes stay bytes and surplus tape has no effect; and row by row of the
-- pairs, as the code works. The first two parts hold of any list of pairs. Assumes nothing.
use mathlib.Core.Path.{◌≡◌, refl, sym, ap, ◌∙◌}
use mathlib.Core.List.{List, [], ◌∷◌, ◌++◌, append-nil}
use Prim.Native.Nat.{ℕ, zero, suc, ◌+◌, ◌-◌, ◌*◌, ◌/◌, ◌^◌, ◌≤◌, ◌<◌}
use native.Mathlib.Numerals.{add-one}
use native.Mathlib.Omega.{arith}
use lib.Bits.{bit_xor, xor_lt}
use lib.ListN.{length, get_or, set, drop, length-set}
use lib.Seq.{get_or-drop, get_or-set_same, get_or-set_other, set-get_or, set-set, set_comm, drop-drop}
use Rattle.xor.specs.Lists.{at, tab, runs, All, done, ◌&◌, Below}
use Rattle.xor.specs.Pairs.{each_pair, pairs, before_row, pair_count}
use Rattle.xor.specs.Running.{running, behind_taken, row_taken}
use Rattle.xor.specs.Sums.{joined}
use Rattle.xor.proofs.ListsLaws.{length-tab, all_drop, at_below, tab_last}
use Rattle.xor.proofs.PairsLaws.{length_pairs, pair_count_is, pair_count_bound, length_before, all-each_pair}
use Rattle.xor.proofs.RunningLaws.{length-behind}
use Rattle.xor.proofs.SumsLaws.{joined-set}
use Rattle.xor.proofs.XorLaws.{xor_cancel_r, xor_sums}
use Rattle.refresh.specs.Refresh.{into, pairs_refreshed, refresh_pairs, refreshed, refresh_need}

-- ---- one XOR into a share

pub length-into : (xs : List ℕ) (i t : ℕ) → length (into xs i t) ≡ length xs
unfolding into
length-into xs i t = length-set xs i (bit_xor (at xs i) t)

pub joined-into : (xs : List ℕ) (i t : ℕ) → i < length xs → joined (into xs i t) ≡ bit_xor (joined xs) t
unfolding into at
joined-into xs i t h = joined-set xs i (bit_xor (get_or xs i 0) t) h ∙ goes (joined xs) (get_or xs i 0) t
  where
    goes : (r x t : ℕ) → bit_xor r (bit_xor x (bit_xor x t)) ≡ bit_xor r t
    goes r x t = simp xor_sums

set_below : (m : ℕ) {xs : List ℕ} (i v : ℕ) → v < m → Below m xs → Below m (set xs i v)
set_below m i v g done = done
set_below m zero v g (h & hs) = g & hs
set_below m (suc i) v g (h & hs) = h & set_below m i v g hs

pub into_below : (w : ℕ) {xs : List ℕ} (i t : ℕ) → t < 2 ^ w → Below (2 ^ w) xs → Below (2 ^ w) (into xs i t)
unfolding into
into_below w {xs} i t g hs = set_below (2 ^ w) i (bit_xor (at xs i) t) (xor_lt w (at xs i) t (at_below w hs i) g) hs

-- ---- any list of pairs

-- both shares are among the n
abbrev pub Among : (n : ℕ) → ℕ × ℕ → Type 0
Among n p = (p.0 < n) × (p.1 < n)

pub length-pairs_refreshed : (ps : List (ℕ × ℕ)) (xs ts : List ℕ) → length (pairs_refreshed ps xs ts) ≡ length xs
unfolding pairs_refreshed
length-pairs_refreshed [] xs ts = refl
length-pairs_refreshed (p ∷ ps) xs ts =
    length-pairs_refreshed ps (into (into xs p.0 (at ts 0)) p.1 (at ts 0)) (drop 1 ts)
    ∙ length-into (into xs p.0 (at ts 0)) p.1 (at ts 0) ∙ length-into xs p.0 (at ts 0)

pub pairs_refreshed_joins : (n : ℕ) {ps : List (ℕ × ℕ)} → All (Among n) ps → (xs ts : List ℕ) → length xs ≡ n
    → joined (pairs_refreshed ps xs ts) ≡ joined xs
unfolding pairs_refreshed
pairs_refreshed_joins n done xs ts e = refl
pairs_refreshed_joins n (◌&◌ {x = p} h hs) xs ts e =
    let l₁ = length-into xs p.0 (at ts 0) in
    let l₂ = length-into (into xs p.0 (at ts 0)) p.1 (at ts 0) in
    pairs_refreshed_joins n hs (into (into xs p.0 (at ts 0)) p.1 (at ts 0)) (drop 1 ts) (l₂ ∙ l₁ ∙ e)
    ∙ joined-into (into xs p.0 (at ts 0)) p.1 (at ts 0) (omega arith)
    ∙ ap (λ (x : ℕ). bit_xor x (at ts 0)) (joined-into xs p.0 (at ts 0) (omega arith))
    ∙ xor_cancel_r (joined xs) (at ts 0)

pub pairs_refreshed_below : (w : ℕ) (ps : List (ℕ × ℕ)) {xs ts : List ℕ} → Below (2 ^ w) xs → Below (2 ^ w) ts
    → Below (2 ^ w) (pairs_refreshed ps xs ts)
unfolding pairs_refreshed
pairs_refreshed_below w [] hs gs = hs
pairs_refreshed_below w (p ∷ ps) {xs} {ts} hs gs =
    pairs_refreshed_below w ps (into_below w p.1 (at ts 0) (at_below w gs 0) (into_below w p.0 (at ts 0) (at_below w gs 0) hs)) (all_drop 1 gs)

-- one list of pairs after another, on the tape behind what the first has drawn
pub pairs_refreshed-append : (ps qs : List (ℕ × ℕ)) (xs ts : List ℕ)
    → pairs_refreshed (ps ++ qs) xs ts ≡ pairs_refreshed qs (pairs_refreshed ps xs ts) (drop (length ps) ts)
unfolding pairs_refreshed
pairs_refreshed-append [] qs xs ts = refl
pairs_refreshed-append (p ∷ ps) qs xs ts =
    let e : 1 + length ps ≡ suc (length ps) = omega arith in
    let y = into (into xs p.0 (at ts 0)) p.1 (at ts 0) in
    pairs_refreshed-append ps qs y (drop 1 ts)
    ∙ ap (pairs_refreshed qs (pairs_refreshed ps y (drop 1 ts))) (drop-drop (length ps) 1 ts ∙ ap (λ (k : ℕ). drop k ts) e)

-- one pair more draws the next byte
pairs_refreshed_last : (ps : List (ℕ × ℕ)) (p : ℕ × ℕ) (xs ts : List ℕ) (k : ℕ) → length ps ≡ k
    → pairs_refreshed (ps ++ (p ∷ [])) xs ts ≡ into (into (pairs_refreshed ps xs ts) p.0 (at ts k)) p.1 (at ts k)
unfolding pairs_refreshed at
pairs_refreshed_last ps p xs ts k e =
    let z : length ps + 0 ≡ k = omega arith in
    let y = pairs_refreshed ps xs ts in
    pairs_refreshed-append ps (p ∷ []) xs ts
    ∙ ap (λ (t : ℕ). into (into y p.0 t) p.1 t) (get_or-drop (length ps) ts 0 0 ∙ ap (λ (m : ℕ). get_or ts m 0) z)

pub pairs_refreshed-surplus : (ps : List (ℕ × ℕ)) (xs ts us : List ℕ) → length ps ≤ length ts
    → pairs_refreshed ps xs (ts ++ us) ≡ pairs_refreshed ps xs ts
unfolding pairs_refreshed at
pairs_refreshed-surplus [] xs ts us h = refl
pairs_refreshed-surplus (p ∷ ps) xs [] us h = absurd (omega arith)
pairs_refreshed-surplus (p ∷ ps) xs (t ∷ ts) us h = pairs_refreshed-surplus ps (into (into xs p.0 t) p.1 t) ts us (omega arith)

-- ---- a row of pairs: share i with the w shares behind it

abbrev pub row_at : (i m : ℕ) → ℕ × ℕ
row_at i m = (i, suc i + m)

abbrev pub row-pairs : (i w : ℕ) → List (ℕ × ℕ)
row-pairs i w = tab (row_at i) w

-- one pair, where share i has come to r
row_pair : (i j t r : ℕ) (l : List ℕ) → i < length l → (i ≡ j → ⊥)
    → into (into (set l i r) i t) j t ≡ set (set l j (bit_xor (at l j) t)) i (bit_xor r t)
unfolding into at
row_pair i j t r l h n =
    rw (get_or-set_same l i r 0 h, set-set l i r (bit_xor r t), get_or-set_other l i j (bit_xor r t) 0 (λ e. n (sym e)))
    (set_comm l i j (bit_xor r t) (bit_xor (get_or l j 0) t) n)

-- the row's draws go into share i one after another, and each into a share behind it: what the running sums of a product do with theirs
pub row-refreshed : (i w : ℕ) (xs ts : List ℕ) → i + w < length xs → pairs_refreshed (row-pairs i w) xs ts ≡ row_taken i w (at ts) (at ts) xs
unfolding row_taken running behind_taken
row-refreshed i zero xs ts h = unfold tab runs pairs_refreshed at in sym (set-get_or xs i 0)
row-refreshed i (suc w) xs ts h =
    let j : suc i + w ≡ i + 1 + w = omega arith in
    let b = behind_taken i (at ts) xs w in
    let l = length-behind i (at ts) xs w in
    rw (tab_last (row_at i) w)
    (pairs_refreshed_last (row-pairs i w) (row_at i w) xs ts w (length-tab (row_at i) w)
    ∙ ap (λ (y : List ℕ). into (into y i (at ts w)) (suc i + w) (at ts w)) (row-refreshed i w xs ts (omega arith))
    ∙ row_pair i (suc i + w) (at ts w) (running (at xs i) (at ts) w) b (omega arith) (λ e. omega arith)
    ∙ ap (λ (k : ℕ). set (set b k (bit_xor (at b k) (at ts w))) i (bit_xor (running (at xs i) (at ts) w) (at ts w))) j)

-- ---- the rows before row i, of n shares

unfoldable pub rows-refreshed : (n i : ℕ) (shares tape : List ℕ) → List ℕ
rows-refreshed n i xs ts = pairs_refreshed (runs (λ k. row-pairs k (n - suc k)) i) xs ts

pub length-rows-refreshed : (n i : ℕ) (xs ts : List ℕ) → length (rows-refreshed n i xs ts) ≡ length xs
unfolding rows-refreshed
length-rows-refreshed n i xs ts = length-pairs_refreshed (runs (λ k. row-pairs k (n - suc k)) i) xs ts

pub rows_none : (n : ℕ) (xs ts : List ℕ) → xs ≡ rows-refreshed n 0 xs ts
unfolding rows-refreshed runs pairs_refreshed
rows_none n xs ts = refl

-- one row more, whose draws stand at the front of the tape
pub rows_next : (d i : ℕ) (x y tape xs ts : List ℕ) → i < d → d < length xs → tape ≡ drop (before_row (suc d) i) ts
    → x ≡ rows-refreshed (suc d) i xs ts → y ≡ row_taken i (d - i) (at tape) (at tape) x → y ≡ rows-refreshed (suc d) (i + 1) xs ts
unfolding rows-refreshed runs
rows_next d i x y tape xs ts h l f e g =
    let w : suc d - suc i ≡ d - i = omega arith in
    let ps = runs (λ k. row-pairs k (suc d - suc k)) i in
    let k : length ps ≡ before_row (suc d) i = length_before (suc d) (λ i j. (i, j)) i in
    let q : length x ≡ length xs = ap length e ∙ length-pairs_refreshed ps xs ts in
    g ∙ sym (row-refreshed i (d - i) x tape (omega arith))
    ∙ ap (λ (x : List ℕ). pairs_refreshed (row-pairs i (d - i)) x tape) e
    ∙ ap (pairs_refreshed (row-pairs i (d - i)) (pairs_refreshed ps xs ts)) (f ∙ ap (λ (m : ℕ). drop m ts) (sym k))
    ∙ ap (λ (m : ℕ). pairs_refreshed (row-pairs i m) (pairs_refreshed ps xs ts) (drop (length ps) ts)) (sym w)
    ∙ sym (pairs_refreshed-append ps (row-pairs i (suc d - suc i)) xs ts)
    ∙ ap (λ (m : ℕ). pairs_refreshed (runs (λ k. row-pairs k (suc d - suc k)) m) xs ts) (sym (add-one i))

-- ---- this refresh

-- the last share has no row of its own
pub rows_all : (d : ℕ) (xs ts : List ℕ) → rows-refreshed (suc d) d xs ts ≡ refreshed d xs ts
unfolding rows-refreshed refreshed refresh_pairs pairs each_pair runs
rows_all d xs ts =
    let w : suc d - suc d ≡ 0 = omega arith in
    let ps = runs (λ k. row-pairs k (suc d - suc k)) d in
    let e : row-pairs d (suc d - suc d) ≡ [] = ap (row-pairs d) w ∙ unfold tab in refl in
    ap (λ (qs : List (ℕ × ℕ)). pairs_refreshed qs xs ts) (sym (ap (◌++◌ ps) e ∙ append-nil ps))

pub refresh_need-pairs : (d : ℕ) → refresh_need d ≡ pair_count (suc d)
unfolding refresh_need refresh_pairs
refresh_need-pairs d = length_pairs (suc d)

-- as document 02 has it
pub refresh_need_is : (d : ℕ) → refresh_need d ≡ d * suc d / 2
refresh_need_is d = refresh_need-pairs d ∙ pair_count_is d

pub refresh_need_bound : (d : ℕ) → d ≤ 8 → refresh_need d ≤ 36
refresh_need_bound d h = rw (refresh_need-pairs d) (pair_count_bound d h)

pub length-refreshed : (d : ℕ) (xs ts : List ℕ) → length (refreshed d xs ts) ≡ length xs
unfolding refreshed
length-refreshed d xs ts = length-pairs_refreshed (refresh_pairs d) xs ts

pub refresh_joins : (d : ℕ) (xs ts : List ℕ) → length xs ≡ suc d → joined (refreshed d xs ts) ≡ joined xs
unfolding refreshed refresh_pairs pairs
refresh_joins d xs ts e =
    pairs_refreshed_joins (suc d) (all-each_pair (suc d) (λ i j. (i, j)) (λ i j l h. (omega arith, h))) xs ts e

pub refresh_below : (w d : ℕ) {xs ts : List ℕ} → Below (2 ^ w) xs → Below (2 ^ w) ts → Below (2 ^ w) (refreshed d xs ts)
unfolding refreshed
refresh_below w d hs gs = pairs_refreshed_below w (refresh_pairs d) hs gs

pub refresh_surplus : (d : ℕ) (xs ts us : List ℕ) → refresh_need d ≤ length ts → refreshed d xs (ts ++ us) ≡ refreshed d xs ts
unfolding refreshed refresh_need
refresh_surplus d xs ts us h = pairs_refreshed-surplus (refresh_pairs d) xs ts us h
