-- Share by share with a second string in shares, whose shares have m bytes: a round key added, a word read. Assumes nothing.
use mathlib.Core.Path.{◌≡◌, refl, sym, ap, ap₂, ◌∙◌}
use mathlib.Core.List.{List, [], ◌∷◌, map}
use Prim.Native.Nat.{ℕ, zero, suc, ◌+◌, ◌*◌, ◌-◌, ◌≤◌, ◌<◌}
use native.Mathlib.Nat.{suc-mul, zero-mul, mul-le-mul_right}
use native.Mathlib.Omega.{arith}
use lib.ListN.{length, take, drop, length-take, length-drop}
use lib.Seq.{drop-drop, take-nil, take-take, length-take-le}
use Rattle.xor.specs.Sums.{xors}
use Rattle.xor.proofs.StringLaws.{length-xors}
use Rattle.shares.specs.Strings.{parts}
use Rattle.cipher.specs.Fips197.{round_key, word}
use Rattle.cipher.specs.States.{adds, each_by}
use Rattle.cipher.proofs.FipsLaws.{word-length}

-- a piece of n bytes, from k on, of share i
piece : (m k n i b e : ℕ) (ks : List ℕ) → k + n ≤ m → b ≡ i * m + k → e ≡ n → take e (drop b ks) ≡ take n (drop k (take m (drop (i * m) ks)))
piece m k n i b e ks h eb ee =
    ap₂ (λ (x y : ℕ). take x (drop y ks)) ee eb
    ∙ ap (take n) (sym (drop-drop k (i * m) ks))
    ∙ sym (ap (take n) (cut k m (drop (i * m) ks)) ∙ take-take n (m - k) (drop k (drop (i * m) ks)) (omega arith))
  where
    cut : (n m : ℕ) (s : List ℕ) → drop n (take m s) ≡ take (m - n) (drop n s)
    cut zero m s = ap (λ (x : ℕ). take x s) (let e : m ≡ m - 0 = omega arith in e)
    cut (suc n) zero s = ap (λ (x : ℕ). take x (drop (suc n) s)) (let e : 0 ≡ 0 - suc n = omega arith in e)
    cut (suc n) (suc m) [] = sym (take-nil (suc m - suc n))
    cut (suc n) (suc m) (x ∷ s) = cut n m s ∙ ap (λ (x : ℕ). take x (drop n s)) (let e : m - n ≡ suc m - suc n = omega arith in e)

each_by-adds : (g : List ℕ → List ℕ) (m l : ℕ) (t : List ℕ) (n j : ℕ) (s : List ℕ)
    → each_by (λ i p. xors p (g (take m (drop (i * m) t)))) j (parts n l s) ≡ adds (parts n l s) (map g (parts n m (drop (j * m) t)))
unfolding each_by parts adds
each_by-adds g m l t zero j s = refl
each_by-adds g m l t (suc n) j s =
    let e : j * m + m ≡ suc j * m = omega (arith, suc-mul j m) in
    ap (◌∷◌ (xors (take l s) (g (take m (drop (j * m) t)))))
    (each_by-adds g m l t n (suc j) (drop l s)
    ∙ ap (λ (u : List ℕ). adds (parts n l (drop l s)) (map g (parts n m u))) (sym (drop-drop m (j * m) t ∙ ap (λ (x : ℕ). drop x t) e)))

each_by_const : (g : List ℕ → List ℕ) (m l : ℕ) (t : List ℕ) (n j : ℕ) (s : List ℕ)
    → each_by (λ i p. g (take m (drop (i * m) t))) j (parts n l s) ≡ map g (parts n m (drop (j * m) t))
unfolding each_by parts
each_by_const g m l t zero j s = refl
each_by_const g m l t (suc n) j s =
    let e : j * m + m ≡ suc j * m = omega (arith, suc-mul j m) in
    ap (◌∷◌ (g (take m (drop (j * m) t))))
    (each_by_const g m l t n (suc j) (drop l s) ∙ ap (λ (u : List ℕ). map g (parts n m u)) (sym (drop-drop m (j * m) t ∙ ap (λ (x : ℕ). drop x t) e)))

-- round key r into share i
abbrev pub with_key : (m r : ℕ) (ks : List ℕ) → ℕ → List ℕ → List ℕ
with_key m r ks i p = xors p (round_key (take m (drop (i * m) ks)) r)

pub with_key_length : (m r : ℕ) (ks : List ℕ) (i : ℕ) (p : List ℕ) → length p ≡ 16 → length (with_key m r ks i p) ≡ 16
unfolding round_key
with_key_length m r ks i p h =
    let e = length-xors p (take 16 (drop (16 * r) (take m (drop (i * m) ks)))) in
    let q = length-take 16 (drop (16 * r) (take m (drop (i * m) ks))) in
    omega arith

pub with_key_part : (m r i b n : ℕ) (ks p : List ℕ) → 16 * r + 16 ≤ m → b ≡ i * m + 16 * r → n ≡ 16
    → xors p (take n (drop b ks)) ≡ with_key m r ks i p
unfolding round_key
with_key_part m r i b n ks p h eb en = ap (xors p) (piece m (16 * r) 16 i b n ks h eb en)

pub with_key_all : (m r n : ℕ) (ks s : List ℕ)
    → each_by (with_key m r ks) 0 (parts n 16 s) ≡ adds (parts n 16 s) (map (λ k. round_key k r) (parts n m ks))
with_key_all m r n ks s =
    each_by-adds (λ k. round_key k r) m 16 ks n 0 s
    ∙ ap (λ (x : ℕ). adds (parts n 16 s) (map (λ k. round_key k r) (parts n m (drop x ks)))) (zero-mul m)

-- word w of share i
pub word-part : (m w i b n : ℕ) (ks : List ℕ) → 4 * w + 4 ≤ m → b ≡ i * m + 4 * w → n ≡ 4 → take n (drop b ks) ≡ word (take m (drop (i * m) ks)) w
unfolding word
word-part m w i b n ks h eb en = piece m (4 * w) 4 i b n ks h eb en

pub word-all : (m w n : ℕ) (ks s : List ℕ) → each_by (λ i p. word (take m (drop (i * m) ks)) w) 0 (parts n 4 s) ≡ map (λ k. word k w) (parts n m ks)
word-all m w n ks s = each_by_const (λ k. word k w) m 4 ks n 0 s ∙ ap (λ (x : ℕ). map (λ k. word k w) (parts n m (drop x ks))) (zero-mul m)

-- share i of n, and its word w, have their lengths
pub share_long : (m i n : ℕ) (ks : List ℕ) → i < n → length ks ≡ n * m → length (take m (drop (i * m) ks)) ≡ m
share_long m i n ks u h =
    let e = length-drop (i * m) ks in
    length-take-le m (drop (i * m) ks) (omega (arith, suc-mul i m, mul-le-mul_right m u))

pub word-long : (m w i n : ℕ) (ks : List ℕ) → 4 * w + 4 ≤ m → i < n → length ks ≡ n * m → length (word (take m (drop (i * m) ks)) w) ≡ 4
word-long m w i n ks h u l = word-length w (take m (drop (i * m) ks)) (let e = share_long m i n ks u l in omega arith)
