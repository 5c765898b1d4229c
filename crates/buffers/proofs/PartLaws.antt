-- Loops over one byte of every share of a string in shares: read, and written. Assumes nothing.
use mathlib.Core.Path.{◌≡◌, refl, sym, ap, ◌∙◌}
use mathlib.Core.List.{List, [], ◌∷◌, ◌++◌, map, map-append}
use Prim.Native.Nat.{ℕ, zero, suc, ◌+◌, ◌*◌, ◌<◌}
use native.Mathlib.Nat.{suc-mul, zero-mul, mul-le-mul_right}
use native.Mathlib.Omega.{arith}
use lib.ListN.{length, get_or, set, take, drop}
use lib.Seq.{drop-drop, drop-cons, take_all, get_or-take, get_or-drop}
use Rattle.xor.specs.Lists.{at, tab, runs}
use Rattle.xor.proofs.ListsLaws.{tab_last}
use Rattle.shares.specs.Strings.{parts, laid}
use Rattle.shares.proofs.StringsLaws.{laid-parts}
use Rattle.xor.proofs.WriteLaws.{over, over_all}
use Rattle.cipher.specs.States.{column, put, each_by}

-- ---- numbers

-- byte k of share i of n lies within them
pub place_lt : (n l i k : ℕ) → i < n → k < l → i * l + k < n * l
place_lt n l i k h g = omega (arith, suc-mul i l, mul-le-mul_right l h)

-- ---- parts one by one

pub parts-count : (n l : ℕ) (bs : List ℕ) → length (parts n l bs) ≡ n
unfolding parts
parts-count zero l bs = refl
parts-count (suc n) l bs = ap suc (parts-count n l (drop l bs))

pub parts_last : (n l : ℕ) (bs : List ℕ) → parts (suc n) l bs ≡ parts n l bs ++ (take l (drop (n * l) bs) ∷ [])
unfolding parts
parts_last zero l bs = ap (λ (m : ℕ). take l (drop m bs) ∷ []) (sym (zero-mul l))
parts_last (suc n) l bs =
    let e : l + n * l ≡ suc n * l = omega (arith, suc-mul n l) in
    ap (◌∷◌ (take l bs))
    (parts_last n l (drop l bs)
    ∙ ap (λ (y : List ℕ). parts n l (drop l bs) ++ (take l y ∷ [])) (drop-drop (n * l) l bs ∙ ap (λ (m : ℕ). drop m bs) e))

-- the parts that fill a string, laid out, are the string
pub laid-parts-all : (n l : ℕ) (bs : List ℕ) → length bs ≡ n * l → laid (parts n l bs) ≡ bs
laid-parts-all n l bs h = laid-parts n l bs (omega arith) ∙ take_all (n * l) bs (omega arith)

-- ---- one byte of every share, read

column_last : (n l k : ℕ) (bs : List ℕ) → k < l → column k (parts (suc n) l bs) ≡ column k (parts n l bs) ++ (at bs (n * l + k) ∷ [])
unfolding column at
column_last n l k bs h =
    ap (map (λ s. get_or s k 0)) (parts_last n l bs)
    ∙ map-append (λ s. get_or s k 0) (parts n l bs) (take l (drop (n * l) bs) ∷ [])
    ∙ ap (λ (v : ℕ). map (λ s. get_or s k 0) (parts n l bs) ++ (v ∷ [])) (get_or-take l (drop (n * l) bs) k 0 h ∙ get_or-drop (n * l) bs k 0)

pub column-tab : (n l k : ℕ) (bs : List ℕ) → k < l → column k (parts n l bs) ≡ tab (λ i. at bs (i * l + k)) n
column-tab zero l k bs h = unfold column parts tab runs in refl
column-tab (suc n) l k bs h =
    column_last n l k bs h ∙ ap (λ (y : List ℕ). y ++ (at bs (n * l + k) ∷ [])) (column-tab n l k bs h) ∙ sym (tab_last (λ i. at bs (i * l + k)) n)

-- the loop that gathers them is through
pub gathered : (n l k i : ℕ) (s x₀ x : List ℕ) → k < l → i ≡ n → length x₀ ≡ n → x ≡ over (λ i. at s (i * l + k)) i x₀ → x ≡ column k (parts n l s)
gathered n l k i s x₀ x h q g e =
    over_all (λ i. at s (i * l + k)) n x x₀ (e ∙ ap (λ (m : ℕ). over (λ i. at s (i * l + k)) m x₀) q) g ∙ sym (column-tab n l k s h)

-- ---- one byte of every share, written

-- byte k of each share set, to the bytes of x in turn
pub put_each : (k l n j : ℕ) (x bs : List ℕ) → length x ≡ j + n
    → each_by (λ i s. set s k (get_or x i 0)) j (parts n l bs) ≡ put (parts n l bs) k (drop j x)
unfolding each_by parts put
put_each k l zero j x bs h = refl
put_each k l (suc n) j x bs h =
    ap (◌∷◌ (set (take l bs) k (get_or x j 0))) (put_each k l n (suc j) x (drop l bs) (omega arith))
    ∙ ap (put (take l bs ∷ parts n l (drop l bs)) k) (sym (drop-cons x j 0 (omega arith)))
