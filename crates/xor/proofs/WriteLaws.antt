-- Buffers that are written in order, by index and through parts `&mut out[at..]`; parts that are read. Assumes nothing.
use mathlib.Core.Path.{◌≡◌, refl, ap, sym, ◌∙◌}
use mathlib.Core.List.{List, [], ◌∷◌, ◌++◌, append_assoc, append-nil}
use Prim.Native.Nat.{ℕ, suc, ◌+◌, ◌-◌, ◌≤◌, ◌<◌}
use native.Mathlib.Nat.{sub-zero}
use native.Mathlib.Numerals.{add-one}
use native.Mathlib.Omega.{arith}
use borrow.Rule.Slice.PartMut.{put_mid}
use lib.ListN.{length, take, drop, get_or, set, length-drop, length-append, drop_of_length-le, get_or-append}
use lib.Seq.{length-take-le, take_all, take_at, drop_at, drop-drop, drop-cons, set_at, get_or_at}
use Rattle.xor.specs.Lists.{at, runs, tab}
use Rattle.xor.proofs.ListsLaws.{length-tab, getD_tab, tab_last}
use Rattle.xor.specs.Writes.{front}

-- ---- parts that are read

-- a part from k to the end is the list without its first k
pub part_rest : (l : List ℕ) (k : ℕ) → take (length l - k) (drop k l) ≡ drop k l
part_rest l k = take_all (length l - k) (drop k l) (omega (arith, length-drop k l))

-- a part from the start
pub part_first : (l : List ℕ) (k : ℕ) → take (k - 0) (drop 0 l) ≡ take k l
part_first l k = ap (λ (n : ℕ). take n l) (sub-zero k)

pub length-part_first : (l : List ℕ) (k : ℕ) → k ≤ length l → length (take (k - 0) (drop 0 l)) ≡ k
length-part_first l k h = ap length (part_first l k) ∙ length-take-le k l h

pub length-part_rest : (l : List ℕ) (k : ℕ) → length (take (length l - k) (drop k l)) ≡ length l - k
length-part_rest l k = ap length (part_rest l k) ∙ length-drop k l

-- past the end nothing is left
pub part-past : (l : List ℕ) (k : ℕ) → length l ≤ k → take (length l - length l) (drop (length l) l) ≡ drop k l
part-past l k h = part_rest l (length l) ∙ drop_of_length-le l {i = length l} (omega arith) ∙ sym (drop_of_length-le l h)

-- ---- by index

-- o with the entries f 0 to f (k - 1) written over its own
unfoldable pub over : (ℕ → ℕ) → ℕ → List ℕ → List ℕ
over f k o = tab f k ++ drop k o

pub over_none : (f : ℕ → ℕ) (o : List ℕ) → o ≡ over f 0 o
unfolding over tab runs
over_none f o = refl

pub over_more : (f : ℕ → ℕ) (k v : ℕ) (y o : List ℕ) → y ≡ over f k o → v ≡ f k → k < length o → set y k v ≡ over f (k + 1) o
unfolding over
over_more f k v y o e w h =
    rw (e, w, add-one, drop-cons o k 0, set_at (tab f k) (get_or o k 0) (drop (suc k) o) (f k) k (length-tab f k)) (last f k (drop (suc k) o))
  where
    last : (f : ℕ → ℕ) (k : ℕ) (r : List ℕ) → tab f k ++ (f k ∷ r) ≡ tab f (suc k) ++ r
    last f k r = sym (ap (λ (l : List ℕ). l ++ r) (tab_last f k) ∙ append_assoc (tab f k) (f k ∷ []) r)

pub over_all : (f : ℕ → ℕ) (k : ℕ) (y o : List ℕ) → y ≡ over f k o → length o ≡ k → y ≡ tab f k
unfolding over
over_all f k y o e h = rw (e, drop_of_length-le o {i = k} (omega arith), append-nil) refl

-- what stood at the start goes, once that is written over
pub over_first : (f : ℕ → ℕ) (k v : ℕ) (o : List ℕ) → over f (suc k) (set o 0 v) ≡ over f (suc k) o
unfolding over
over_first f k v [] = refl
over_first f k v (x ∷ o) = refl

-- what is not written over yet is as it was
pub over_at : (f : ℕ → ℕ) (k : ℕ) (y o : List ℕ) → y ≡ over f k o → k < length o → get_or y k 0 ≡ get_or o k 0
unfolding over
over_at f k y o e h = rw (e, drop-cons o k 0 h) (get_or_at (tab f k) (get_or o k 0) (drop (suc k) o) 0 k (length-tab f k))

-- ---- over the front

pub length_front : (vs o : List ℕ) → length vs ≤ length o → length (front vs o) ≡ length o
unfolding front
length_front vs o h = simp (length-append, length-drop) (omega arith)

pub front-all : (vs o : List ℕ) → length vs ≡ length o → front vs o ≡ vs
unfolding front
front-all vs o h = rw (drop_of_length-le o {i = length vs} (omega arith), append-nil) refl

pub over_front : (f : ℕ → ℕ) (k : ℕ) (o : List ℕ) → over f k o ≡ front (tab f k) o
unfolding over front
over_front f k o = rw length-tab refl

-- what stands over the front
pub at_front : (f : ℕ → ℕ) (w m : ℕ) (y o : List ℕ) → y ≡ front (tab f w) o → m < w → at y m ≡ f m
unfolding front at
at_front f w m y o e h = rw e (get_or-append (tab f w) _ 0 m (rw length-tab h) ∙ getD_tab f w m 0 h)

-- what a callee wrote over the front of the part from k on, behind the k bytes that are written already
pub front-part : (k : ℕ) (y q o vs before next : List ℕ) → y ≡ front before o → length before ≡ k → k + length vs ≤ length o
    → q ≡ front vs (take (length y - k) (drop k y)) → before ++ vs ≡ next → put_mid k (length y - k) y q ≡ front next o
unfolding front
front-part k y q o vs before next e l h p g =
    let n : length y ≡ length o = rw e (length_front before o (omega arith)) in
    let r : drop k y ≡ drop k o = rw (e, l) (drop_at before (drop k o) k l) in
    let t : take k y ≡ before = rw (e, l) (take_at before (drop k o) k l) in
    let m : length (drop k o) ≤ length y - k = omega (arith, length-drop k o) in
    let s : length next ≡ k + length vs = rw (sym g) (length-append before vs ∙ ap (λ (x : ℕ). x + length vs) l) in
    rw (
      p,
      t,
      r,
      take_all (length y - k) (drop k o) m,
      drop_of_length-le (drop k o) {i = length y - k} m,
      append-nil,
      drop-drop,
      s,
      sym g,
      append_assoc,
    ) refl

-- what a callee made of the bytes that are written already
pub front_first : (k : ℕ) (y q o vs : List ℕ) → y ≡ front vs o → length vs ≡ k → length q ≡ k → put_mid 0 (k - 0) y q ≡ front q o
unfolding front
front_first k y q o vs e l m = rw (e, l, m, sub-zero k) (ap (◌++◌ q) (drop_at vs (drop k o) k l))

-- the first k bytes are those that are written
pub front-taken : (k : ℕ) (y o vs : List ℕ) → y ≡ front vs o → length vs ≡ k → take (k - 0) (drop 0 y) ≡ vs
unfolding front
front-taken k y o vs e l = rw (e, l, sub-zero k) (take_at vs (drop k o) k l)
