-- Counting: sums over the numbers below a bound, and over the lists of a length. A sum over all numbers of w bits stays as it is where each
-- number is moved by a XOR. Assumes nothing.
use mathlib.Core.Path.{◌≡◌, refl, sym, ap, ap₂, ◌∙◌}
use mathlib.Core.Bool.{Bool, true, cond}
use mathlib.Core.List.{List, [], ◌∷◌, ◌++◌}
use Prim.Native.Nat.{ℕ, zero, suc, ◌+◌, ◌*◌, ◌/◌, ◌%◌, ◌^◌, ◌≤◌, ◌<◌}
use native.Mathlib.Nat.{mod-lt, pow-zero, pow-suc, pow-succ', zero-lt-suc, add_comm, add-zero, zero-add, suc-add}
use native.Mathlib.Nat.{suc-mul, zero-mul, mul-zero, one-mul, mul-add, mul_assoc}
use native.Mathlib.Numerals.{add-one}
use native.Mathlib.Omega.{arith}
use lib.Arith.{digits_div, digits_mod, lt-one}
use lib.Bits.{bit_xor, differ, xor_step, xor_zero_r}
use lib.ListN.{length}
use Rattle.xor.specs.Lists.{done, ◌&◌, Below}
use Rattle.xor.specs.Sums.{xors}
use Rattle.xor.proofs.DigitLaws.{two_pos, digit_cases}
use Rattle.xor.proofs.StringLaws.{xors_nil_r}
use Rattle.isw.specs.Hiding.{total, how_many, sums}

-- ---- over the numbers below a bound

pub total_cong : (m : ℕ) (f g : ℕ → ℕ) → ((v : ℕ) → v < m → f v ≡ g v) → total m f ≡ total m g
unfolding total
total_cong zero f g h = refl
total_cong (suc m) f g h = ap₂ ◌+◌ (total_cong m f g (λ v l. h v (omega arith))) (h m (omega arith))

pub total_const : (m c : ℕ) → total m (λ v. c) ≡ m * c
unfolding total
total_const zero c = sym (zero-mul c)
total_const (suc m) c = ap (λ (x : ℕ). x + c) (total_const m c) ∙ sym (suc-mul m c)

total-add : (m : ℕ) (f g : ℕ → ℕ) → total m (λ v. f v + g v) ≡ total m f + total m g
unfolding total
total-add zero f g = refl
total-add (suc m) f g = omega (arith, total-add m f g)

pub total_swap : (m n : ℕ) (f : ℕ → ℕ → ℕ) → total m (λ u. total n (f u)) ≡ total n (λ v. total m (λ u. f u v))
unfolding total
total_swap zero n f = sym (total_const n 0 ∙ mul-zero n)
total_swap (suc m) n f = ap (λ (x : ℕ). x + total n (f m)) (total_swap m n f) ∙ sym (total-add n (λ v. total m (λ u. f u v)) (f m))

pub total-times : (m c : ℕ) (f : ℕ → ℕ) → total m (λ v. c * f v) ≡ c * total m f
unfolding total
total-times zero c f = sym (mul-zero c)
total-times (suc m) c f = ap (λ (x : ℕ). x + c * f m) (total-times m c f) ∙ sym (mul-add c (total m f) (f m))

-- ---- each number moved by a XOR

-- even and odd numbers
total_double : (m : ℕ) (f : ℕ → ℕ) → total (m * 2) f ≡ total m (λ u. f (u * 2 + 0) + f (u * 2 + 1))
unfolding total
total_double zero f = refl
total_double (suc m) f =
    let e : suc m * 2 ≡ suc (suc (m * 2)) = omega arith in
    rw (e, add-one, add-zero) (omega (arith, total_double m f))

total_twice : (w : ℕ) (f : ℕ → ℕ) → total (2 ^ suc w) f ≡ total (2 ^ w) (λ u. f (u * 2 + 0) + f (u * 2 + 1))
total_twice w f = ap (λ (m : ℕ). total m f) (pow-suc 2 w) ∙ total_double (2 ^ w) f

-- what moving by e does to two numbers that differ in the lowest digit only: it moves the pair, and may swap the two
xor_pair : (f : ℕ → ℕ) (u e : ℕ)
    → f (bit_xor (u * 2 + 0) e) + f (bit_xor (u * 2 + 1) e) ≡ f (bit_xor u (e / 2) * 2 + 0) + f (bit_xor u (e / 2) * 2 + 1)
xor_pair f u e =
    ap₂ (λ (x y : ℕ). f x + f y) (step 0 (zero-lt-suc 1)) (step 1 (omega arith))
    ∙ digit_cases (λ c. f (v * 2 + differ 0 c) + f (v * 2 + differ 1 c) ≡ f (v * 2 + 0) + f (v * 2 + 1))
    refl (add_comm (f (v * 2 + 1)) (f (v * 2 + 0))) (e % 2) (mod-lt e two_pos)
  where
    v : ℕ
    v = bit_xor u (e / 2)

    step : (c : ℕ) → c < 2 → bit_xor (u * 2 + c) e ≡ bit_xor u (e / 2) * 2 + differ c (e % 2)
    step c h = xor_step (u * 2 + c) e ∙ ap₂ (λ (x y : ℕ). bit_xor x (e / 2) * 2 + differ y (e % 2)) (digits_div u h) (digits_mod u h)

pub total-xor : (w e : ℕ) (f : ℕ → ℕ) → e < 2 ^ w → total (2 ^ w) f ≡ total (2 ^ w) (λ v. f (bit_xor v e))
total-xor zero e f h = total_cong 1 f (λ v. f (bit_xor v e)) (λ v l. ap f (rw (lt-one h) (sym (xor_zero_r v))))
total-xor (suc w) e f h =
    total_twice w f
    ∙ total-xor w (e / 2) (λ u. f (u * 2 + 0) + f (u * 2 + 1)) (half_lt w h)
    ∙ sym (total_twice w (λ v. f (bit_xor v e)) ∙ total_cong (2 ^ w) _ _ (λ u l. xor_pair f u e))
  where
    half_lt : {a : ℕ} (k : ℕ) → a < 2 ^ suc k → a / 2 < 2 ^ k
    half_lt {a} k l = omega arith

-- ---- over the lists of k numbers below m: the first number is the outermost sum

-- a count is a sum of ones
pub how_many-sums : (m k : ℕ) (test : List ℕ → Bool) → how_many m k test ≡ sums m k (λ vs. cond (test vs) 1 0)
unfolding how_many sums
how_many-sums m zero test = refl
how_many-sums m (suc k) test = total_cong m _ _ (λ v l. how_many-sums m k (λ vs. test (v ∷ vs)))

-- each choice is counted once
pub how_many-all : (m k : ℕ) → how_many m k (λ vs. true) ≡ m ^ k
unfolding how_many
how_many-all m zero = sym (pow-zero m)
how_many-all m (suc k) = total_const m (how_many m k (λ vs. true)) ∙ ap (λ (x : ℕ). m * x) (how_many-all m k) ∙ sym (pow-succ' m k)

pub sums_cong : (m k : ℕ) (f g : List ℕ → ℕ) → ((vs : List ℕ) → length vs ≡ k → Below m vs → f vs ≡ g vs) → sums m k f ≡ sums m k g
unfolding sums
sums_cong m zero f g h = h [] refl done
sums_cong m (suc k) f g h = total_cong m _ _ (λ v l. sums_cong m k _ _ (λ vs e b. h (v ∷ vs) (ap suc e) (l & b)))

-- the first k numbers, and then the rest
pub sums-split : (m k l : ℕ) (f : List ℕ → ℕ) → sums m (k + l) f ≡ sums m k (λ us. sums m l (λ vs. f (us ++ vs)))
unfolding sums
sums-split m zero l f = rw zero-add
sums-split m (suc k) l f = rw suc-add (total_cong m _ _ (λ v h. sums-split m k l (λ vs. f (v ∷ vs))))

-- a factor that all have
pub sums-times : (m k c : ℕ) (f : List ℕ → ℕ) → sums m k (λ vs. c * f vs) ≡ c * sums m k f
unfolding sums
sums-times m zero c f = refl
sums-times m (suc k) c f = total_cong m _ _ (λ v l. sums-times m k c (λ vs. f (v ∷ vs))) ∙ total-times m c (λ v. sums m k (λ vs. f (v ∷ vs)))

-- the same number for each list
pub sums_const : (m k c : ℕ) → sums m k (λ vs. c) ≡ m ^ k * c
unfolding sums
sums_const m zero c = sym (ap (λ (x : ℕ). x * c) (pow-zero m) ∙ one-mul c)
sums_const m (suc k) c =
    total_const m (sums m k (λ vs. c))
    ∙ ap (◌*◌ m) (sums_const m k c)
    ∙ sym (mul_assoc m (m ^ k) c)
    ∙ ap (λ (x : ℕ). x * c) (sym (pow-succ' m k))

-- the last number may as well be the outermost sum
pub sums_last : (m k : ℕ) (f : List ℕ → ℕ) → sums m (suc k) f ≡ total m (λ v. sums m k (λ vs. f (vs ++ (v ∷ []))))
unfolding sums
sums_last m zero f = refl
sums_last m (suc k) f =
    total_cong m _ _ (λ u h. sums_last m k (λ vs. f (u ∷ vs))) ∙ total_swap m m (λ u v. sums m k (λ vs. f (u ∷ vs ++ (v ∷ []))))

-- THE SHIFT LAW: each list moved by a XOR, place by place
pub sums-xors : (w k : ℕ) (es : List ℕ) (f : List ℕ → ℕ) → length es ≤ k → Below (2 ^ w) es
    → sums (2 ^ w) k f ≡ sums (2 ^ w) k (λ vs. f (xors vs es))
unfolding sums xors
sums-xors w k [] f l b = sums_cong (2 ^ w) k _ _ (λ vs e h. ap f (sym (xors_nil_r vs)))
sums-xors w zero (e ∷ es) f l b = absurd (omega arith)
sums-xors w (suc k) (e ∷ es) f l (h & b) =
    total-xor w e (λ v. sums (2 ^ w) k (λ vs. f (v ∷ vs))) h
    ∙ total_cong (2 ^ w) _ _ (λ v u. sums-xors w k es (λ vs. f (bit_xor v e ∷ vs)) (omega arith) b)
