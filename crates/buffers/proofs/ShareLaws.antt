-- Loops that make a string in shares anew, share after share. Assumes nothing.
use mathlib.Core.Path.{◌≡◌, refl, sym, ap, ap₂, ◌∙◌}
use mathlib.Core.List.{List, [], ◌∷◌, ◌++◌, map, append_assoc, append-nil}
use Prim.Native.Nat.{ℕ, zero, suc, ◌+◌, ◌*◌, ◌≤◌, ◌<◌}
use native.Mathlib.Nat.{suc-mul, zero-mul, zero-add, add-zero, add-suc, suc-add, mul-le-mul_right}
use native.Mathlib.Omega.{arith}
use native.Mathlib.Numerals.{add-one}
use borrow.Rule.Slice.PartMut.{put_mid}
use lib.ListN.{length, take, drop, length-append, length-drop, drop_of_length-le}
use lib.Seq.{drop-drop, take_at, drop_at, length-take-le}
use Rattle.shares.specs.Strings.{Shares, parts, laid}
use Rattle.xor.specs.Writes.{front}
use Rattle.xor.proofs.WriteLaws.{front-all}
use Rattle.cipher.specs.States.{each_by}
use Rattle.buffers.proofs.PartLaws.{parts-count, parts_last}

laid-append : (a b : Shares) → laid (a ++ b) ≡ laid a ++ laid b
unfolding laid
laid-append [] b = refl
laid-append (s ∷ a) b = ap (◌++◌ s) (laid-append a b) ∙ sym (append_assoc s (laid a) (laid b))

laid_one : (s : List ℕ) → laid (s ∷ []) ≡ s
unfolding laid
laid_one s = append-nil s

each_by_last : (f : ℕ → List ℕ → List ℕ) (i : ℕ) (a : Shares) (s : List ℕ) → each_by f i (a ++ (s ∷ [])) ≡ each_by f i a ++ (f (i + length a) s ∷ [])
unfolding each_by
each_by_last f i [] s = ap (λ (m : ℕ). f m s ∷ []) (sym (add-zero i))
each_by_last f i (x ∷ a) s =
    ap (◌∷◌ (f i x))
    (each_by_last f (suc i) a s
    ∙ ap (λ (m : ℕ). each_by f (suc i) a ++ (f m s ∷ [])) (suc-add i (length a) ∙ sym (add-suc i (length a))))

-- the same function for each share
pub each_by-map : (f : List ℕ → List ℕ) (i : ℕ) (ss : Shares) → each_by (λ i. f) i ss ≡ map f ss
unfolding each_by
each_by-map f i [] = refl
each_by-map f i (s ∷ ss) = ap (◌∷◌ (f s)) (each_by-map f (suc i) ss)

-- the first i shares are made anew, share j by f j
abbrev pub Done : (f : ℕ → List ℕ → List ℕ) (l : ℕ) (s₀ : List ℕ) → ℕ → List ℕ → Type 0
Done f l s₀ i s = s ≡ laid (each_by f 0 (parts i l s₀)) ++ drop (i * l) s₀

pub done_none : (f : ℕ → List ℕ → List ℕ) (l : ℕ) (s₀ : List ℕ) → Done f l s₀ 0 s₀
unfolding laid parts each_by
done_none f l s₀ = ap (λ (m : ℕ). drop m s₀) (sym (zero-mul l))

pub done_all : (f : ℕ → List ℕ → List ℕ) (l : ℕ) (s₀ s : List ℕ) (i n : ℕ) → i ≡ n → length s₀ ≡ n * l → Done f l s₀ i s
    → s ≡ laid (each_by f 0 (parts n l s₀))
done_all f l s₀ s i n q h e =
    let z : drop (n * l) s₀ ≡ [] = (let g : length s₀ ≤ n * l = omega arith in drop_of_length-le s₀ g) in
    e ∙ ap (λ (m : ℕ). laid (each_by f 0 (parts m l s₀)) ++ drop (m * l) s₀) q ∙ ap (◌++◌ (laid (each_by f 0 (parts n l s₀)))) z
    ∙ append-nil (laid (each_by f 0 (parts n l s₀)))

module _ (f : ℕ → List ℕ → List ℕ) (l n : ℕ) (keeps : (i : ℕ) → i < n → (s : List ℕ) → length s ≡ l → length (f i s) ≡ l) where
  made-length : (i j : ℕ) (bs : List ℕ) → j + i ≤ n → i * l ≤ length bs → length (laid (each_by f j (parts i l bs))) ≡ i * l
  unfolding laid parts each_by
  made-length zero j bs u h = sym (zero-mul l)
  made-length (suc i) j bs u h =
      let q = suc-mul i l in
      let e = length-drop l bs in
      length-append (f j (take l bs)) (laid (each_by f (suc j) (parts i l (drop l bs))))
      ∙ ap₂ ◌+◌ (keeps j (omega arith) (take l bs) (length-take-le l bs (omega arith)))
      (made-length i (suc j) (drop l bs) (omega arith) (omega arith))
      ∙ (let g : l + i * l ≡ suc i * l = omega arith in g)

  -- the call that makes share i, on that part of the buffer
  pub done_more : (s₀ s ys : List ℕ) (i a k : ℕ) → a ≡ i * l → k ≡ l → i < n → n * l ≤ length s₀ → Done f l s₀ i s → ys ≡ f i (take k (drop a s))
      → Done f l s₀ (i + 1) (put_mid a k s ys)
  done_more s₀ s ys i a k ea ek u h e ey =
      let w = laid (each_by f 0 (parts i l s₀)) in
      let rest = drop (i * l) s₀ in
      let q : i * l + l ≡ suc i * l = omega (arith, suc-mul i l) in
      let fits : i * l ≤ length s₀ = omega (arith, mul-le-mul_right l u) in
      let fl : length w ≡ i * l = made-length i 0 s₀ (omega arith) fits in
      let before : take a s ≡ w = ap₂ take ea e ∙ take_at w rest (i * l) fl in
      let behind : drop a s ≡ rest = ap₂ drop ea e ∙ drop_at w rest (i * l) fl in
      let done : ys ≡ f i (take l rest) = ey ∙ ap₂ (λ (x : ℕ) (y : List ℕ). f i (take x y)) ek behind in
      let left : drop k (drop a s) ≡ drop (suc i * l) s₀ = ap₂ drop ek behind ∙ drop-drop l (i * l) s₀ ∙ ap (λ (m : ℕ). drop m s₀) q in
      let more : laid (each_by f 0 (parts (suc i) l s₀)) ≡ w ++ f i (take l rest) =
      ap (λ (p : Shares). laid (each_by f 0 p)) (parts_last i l s₀)
      ∙ ap laid (each_by_last f 0 (parts i l s₀) (take l rest))
      ∙ laid-append (each_by f 0 (parts i l s₀)) (f (0 + length (parts i l s₀)) (take l rest) ∷ [])
      ∙ ap (◌++◌ w)
      (laid_one (f (0 + length (parts i l s₀)) (take l rest))
      ∙ ap (λ (m : ℕ). f m (take l rest)) (zero-add (length (parts i l s₀)) ∙ parts-count i l s₀))
      in
      ap₂ ◌++◌ before (ap₂ ◌++◌ done left)
      ∙ sym (append_assoc w (f i (take l rest)) (drop (suc i * l) s₀))
      ∙ ap (λ (y : List ℕ). y ++ drop (suc i * l) s₀) (sym more)
      ∙ ap (λ (m : ℕ). laid (each_by f 0 (parts m l s₀)) ++ drop (m * l) s₀) (sym (add-one i))

-- a part that was copied out before it is written anew
pub copied_made : (f : List ℕ → List ℕ) (t t₀ p q : List ℕ) → t ≡ front p t₀ → length p ≡ length t₀ → q ≡ f t → q ≡ f p
copied_made f t t₀ p q e h g = g ∙ ap f (e ∙ front-all p t₀ h)
