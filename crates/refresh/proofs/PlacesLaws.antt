-- The places of a refresh: how many they are, that surplus tape has no effect on them, one list of pairs after another, and what a row of
-- pairs shows, as the code works. Assumes nothing.
use mathlib.Core.Path.{◌≡◌, refl, sym, ap, ap₂, ◌∙◌}
use mathlib.Core.List.{List, [], ◌∷◌, ◌++◌}
use Prim.Native.Nat.{ℕ, zero, suc, ◌+◌, ◌*◌, ◌≤◌, ◌<◌}
use native.Mathlib.Omega.{arith}
use lib.Bits.{bit_xor}
use lib.ListN.{length, get_or, drop}
use lib.Seq.{get_or-drop, get_or-set_same, get_or-set_other, drop-drop}
use Rattle.xor.specs.Lists.{at, tab, runs}
use Rattle.xor.specs.Running.{running, row_taken}
use Rattle.xor.proofs.ListsLaws.{length-tab, tab_last}
use Rattle.xor.proofs.RunningLaws.{length-row_taken, at-row_taken, row_taken-past}
use Rattle.refresh.specs.Refresh.{into, pairs_refreshed, refresh_pairs, refresh_need}
use Rattle.refresh.specs.Places.{pairs_sheet, refresh_sheet, refresh_count}
use Rattle.refresh.proofs.RefreshLaws.{length-into, row_at, row-pairs, row-refreshed}

-- ---- one XOR into a share: that share, and any other

pub at-into_own : (xs : List ℕ) (i t : ℕ) → i < length xs → at (into xs i t) i ≡ bit_xor (at xs i) t
unfolding into at
at-into_own xs i t h = get_or-set_same xs i (bit_xor (get_or xs i 0) t) 0 h

pub at-into_else : (xs : List ℕ) (i j t : ℕ) → (i ≡ j → ⊥) → at (into xs i t) j ≡ at xs j
unfolding into at
at-into_else xs i j t n = get_or-set_other xs i j (bit_xor (get_or xs i 0) t) 0 (λ e. n (sym e))

-- ---- any list of pairs

pub length-pairs_sheet : (ps : List (ℕ × ℕ)) (xs ts : List ℕ) → length (pairs_sheet ps xs ts) ≡ 3 * length ps
unfolding pairs_sheet
length-pairs_sheet [] xs ts = refl
length-pairs_sheet (p ∷ ps) xs ts =
    let ih = length-pairs_sheet ps (into (into xs p.0 (at ts 0)) p.1 (at ts 0)) (drop 1 ts) in omega arith

pub pairs_sheet-surplus : (ps : List (ℕ × ℕ)) (xs ts us : List ℕ) → length ps ≤ length ts → pairs_sheet ps xs (ts ++ us) ≡ pairs_sheet ps xs ts
unfolding pairs_sheet at
pairs_sheet-surplus [] xs ts us h = refl
pairs_sheet-surplus (p ∷ ps) xs [] us h = absurd (omega arith)
pairs_sheet-surplus (p ∷ ps) xs (t ∷ ts) us h =
    ap (λ (l : List ℕ). t ∷ get_or (into xs p.0 t) p.0 0 ∷ get_or (into (into xs p.0 t) p.1 t) p.1 0 ∷ l)
    (pairs_sheet-surplus ps (into (into xs p.0 t) p.1 t) ts us (omega arith))

-- one list of pairs after another, on the tape behind what the first has drawn
pub pairs_sheet-append : (ps qs : List (ℕ × ℕ)) (xs ts : List ℕ)
    → pairs_sheet (ps ++ qs) xs ts ≡ pairs_sheet ps xs ts ++ pairs_sheet qs (pairs_refreshed ps xs ts) (drop (length ps) ts)
unfolding pairs_sheet pairs_refreshed
pairs_sheet-append [] qs xs ts = refl
pairs_sheet-append (p ∷ ps) qs xs ts =
    let e : 1 + length ps ≡ suc (length ps) = omega arith in
    let y = into xs p.0 (at ts 0) in
    let z = into y p.1 (at ts 0) in
    ap (λ (l : List ℕ). at ts 0 ∷ at y p.0 ∷ at z p.1 ∷ l)
    (pairs_sheet-append ps qs z (drop 1 ts)
    ∙ ap (λ (us : List ℕ). pairs_sheet ps z (drop 1 ts) ++ pairs_sheet qs (pairs_refreshed ps z (drop 1 ts)) us)
    (drop-drop (length ps) 1 ts ∙ ap (λ (k : ℕ). drop k ts) e))

-- ---- this refresh

pub length-refresh_sheet : (d : ℕ) (xs ts : List ℕ) → length (refresh_sheet d xs ts) ≡ refresh_count d
unfolding refresh_sheet refresh_count refresh_need
length-refresh_sheet d xs ts = length-pairs_sheet (refresh_pairs d) xs ts

pub refresh_sheet-surplus : (d : ℕ) (xs ts us : List ℕ) → refresh_need d ≤ length ts → refresh_sheet d xs (ts ++ us) ≡ refresh_sheet d xs ts
unfolding refresh_sheet refresh_need
refresh_sheet-surplus d xs ts us h = pairs_sheet-surplus (refresh_pairs d) xs ts us h

-- ---- a row of pairs: share i with the w shares behind it

first_of_rest : (ts us : List ℕ) (k : ℕ) → us ≡ drop k ts → at us 0 ≡ at ts k
unfolding at
first_of_rest ts us k e =
    let z : k + 0 ≡ k = omega arith in
    ap (λ (l : List ℕ). get_or l 0 0) e ∙ get_or-drop k ts 0 0 ∙ ap (λ (m : ℕ). get_or ts m 0) z

-- what one pair shows: the draw, and both shares after it
one_pair_shown : (p : ℕ × ℕ) (xs ts us : List ℕ) (k : ℕ) → us ≡ drop k ts → p.0 < length xs → p.1 < length xs → (p.0 ≡ p.1 → ⊥)
    → pairs_sheet (p ∷ []) xs us ≡ at ts k ∷ bit_xor (at xs p.0) (at ts k) ∷ bit_xor (at xs p.1) (at ts k) ∷ []
unfolding pairs_sheet
one_pair_shown p xs ts us k e h₀ h₁ n =
    let y = into xs p.0 (at ts k) in
    rw (first_of_rest ts us k e)
    (ap₂ (λ (a b : ℕ). at ts k ∷ a ∷ b ∷ []) (at-into_own xs p.0 (at ts k) h₀)
    (at-into_own y p.1 (at ts k) (omega (arith, length-into xs p.0 (at ts k)))
    ∙ ap (λ (x : ℕ). bit_xor x (at ts k)) (at-into_else xs p.0 p.1 (at ts k) n)))

-- of each pair: its draw, share i's own sum with it taken in, and the share behind with it taken in
pub row-shown : (i w : ℕ) (xs ts : List ℕ) → i + w < length xs
    → pairs_sheet (row-pairs i w) xs ts ≡ runs (λ m. at ts m ∷ running (at xs i) (at ts) (suc m) ∷ bit_xor (at xs (suc i + m)) (at ts m) ∷ []) w
unfolding runs running
row-shown i zero xs ts h = unfold tab pairs_sheet in refl
row-shown i (suc w) xs ts h =
    let ps = row-pairs i w in
    let y = row_taken i w (at ts) (at ts) xs in
    let g : i + w < length xs = omega arith in
    let u : i < length y = omega (arith, length-row_taken i w (at ts) (at ts) xs) in
    let v : suc i + w < length y = omega (arith, length-row_taken i w (at ts) (at ts) xs) in
    rw (tab_last (row_at i) w)
    (pairs_sheet-append ps (row_at i w ∷ []) xs ts
    ∙ ap₂ ◌++◌ (row-shown i w xs ts g)
    (ap (λ (l : List ℕ). pairs_sheet (row_at i w ∷ []) l (drop (length ps) ts)) (row-refreshed i w xs ts g)
    ∙ one_pair_shown (row_at i w) y ts (drop (length ps) ts) w (ap (λ (k : ℕ). drop k ts) (length-tab (row_at i) w)) u v (λ e. omega arith)
    ∙ ap₂ (λ (a b : ℕ). at ts w ∷ bit_xor a (at ts w) ∷ bit_xor b (at ts w) ∷ [])
    (at-row_taken i w (at ts) (at ts) xs (omega arith)) (row_taken-past i w (at ts) (at ts) xs (suc i + w) (omega arith))))
