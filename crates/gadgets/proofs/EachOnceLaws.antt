-- Lists of pairs in which every pair stands exactly once: the refresh's is one; where a single pair counts, a sum over such a list is what that pair
-- adds. Assumes nothing.
use mathlib.Core.Path.{◌≡◌, refl, ap, ap₂, ◌∙◌}
use mathlib.Core.Logic.{◌≢◌}
use mathlib.Core.Bool.{cond, ◌&&◌}
use mathlib.Core.List.{List, [], ◌∷◌, ◌++◌, map}
use Prim.Native.Nat.{ℕ, zero, suc, ◌+◌, ◌-◌, ◌<◌}
use native.Mathlib.Decide.{dec_lt}
use native.Mathlib.Omega.{arith}
use lib.Bits.{bit_xor, xor_zero_l, xor_zero_r}
use lib.Dec.{eqb}
use Rattle.xor.specs.Lists.{runs, tab, All, done, ◌&◌}
use Rattle.xor.specs.Pairs.{each_pair, pairs}
use Rattle.xor.specs.Sums.{joined}
use Rattle.xor.proofs.PairsLaws.{all-each_pair}
use Rattle.xor.proofs.Tests.{by_eq, by_if}
use Rattle.refresh.specs.Refresh.{refresh_pairs}
use Rattle.gadgets.specs.EachOnce.{Pair, times_listed, EachOnce}

-- ---- the pairs of the refresh are such a list

pub pairs_among : (d : ℕ) → All (Pair (suc d)) (refresh_pairs d)
unfolding refresh_pairs pairs
pairs_among d = all-each_pair (suc d) (λ i j. (i, j)) (λ i j l h. (l, h))

module _ (i j : ℕ) where
  listed-append : (ps qs : List (ℕ × ℕ)) → times_listed i j (ps ++ qs) ≡ times_listed i j ps + times_listed i j qs
  unfolding times_listed
  listed-append [] qs = omega arith
  listed-append (p ∷ ps) qs =
      by_if (λ c. cond c (suc (times_listed i j (ps ++ qs))) (times_listed i j (ps ++ qs))
      ≡ cond c (suc (times_listed i j ps)) (times_listed i j ps) + times_listed i j qs) (eqb p.0 i && eqb p.1 j)
      (λ t. omega (arith, listed-append ps qs)) (λ t. omega (arith, listed-append ps qs))

  -- lists one after another, of which none has it, or just list k, once
  listed-none : (f : ℕ → List (ℕ × ℕ)) (n : ℕ) → ((m : ℕ) → m < n → times_listed i j (f m) ≡ 0) → times_listed i j (runs f n) ≡ 0
  unfolding runs times_listed
  listed-none f zero h = refl
  listed-none f (suc n) h = listed-append (runs f n) (f n) ∙ ap₂ ◌+◌ (listed-none f n (λ m l. h m (omega arith))) (h n (omega arith))

  listed_one : (f : ℕ → List (ℕ × ℕ)) (n k : ℕ) → k < n → times_listed i j (f k) ≡ 1 → ((m : ℕ) → m ≢ k → times_listed i j (f m) ≡ 0)
      → times_listed i j (runs f n) ≡ 1
  unfolding runs
  listed_one f zero k h one none = absurd (omega arith)
  listed_one f (suc n) k h one none = listed-append (runs f n) (f n) ∙ go (dec_lt k n) (λ l. listed_one f n k l one none)
    where
      go : Dec (k < n) → (k < n → times_listed i j (runs f n) ≡ 1) → times_listed i j (runs f n) + times_listed i j (f n) ≡ 1
      go (yes l) ih = ap₂ ◌+◌ (ih l) (none n (λ e. omega arith))
      go (no l) ih =
          let e : k ≡ n = omega arith in
          ap₂ ◌+◌ (listed-none f n (λ m u. none m (λ e. omega arith))) (rw e at one)

  -- the pair (a, b) alone
  listed_here : (a b : ℕ) → a ≡ i → b ≡ j → times_listed i j ((a, b) ∷ []) ≡ 1
  unfolding times_listed
  listed_here a b e f =
      by_eq (λ c. cond {A = ℕ} (c && eqb b j) 1 0 ≡ 1) a i
      (λ u. by_eq (λ c. cond {A = ℕ} c 1 0 ≡ 1) b j (λ v. refl) (λ n. absurd (n f))) (λ n. absurd (n e))

  listed_not : (a b : ℕ) → (a ≡ i → b ≢ j) → times_listed i j ((a, b) ∷ []) ≡ 0
  unfolding times_listed
  listed_not a b n =
      by_eq (λ c. cond {A = ℕ} (c && eqb b j) 1 0 ≡ 0) a i
      (λ u. by_eq (λ c. cond {A = ℕ} c 1 0 ≡ 0) b j (λ v. absurd (n u v)) (λ v. refl)) (λ u. refl)

pub refresh_pairs_once : (d : ℕ) → EachOnce d (refresh_pairs d)
unfolding EachOnce refresh_pairs pairs each_pair tab
refresh_pairs_once d i j l h =
    listed_one i j _ (suc d) i (omega arith)
    (listed_one i j _ (suc d - suc i) (j - suc i) (omega arith)
    (listed_here i j i (suc i + (j - suc i)) refl (omega arith)) (λ m n. listed_not i j i (suc i + m) (λ e f. n (omega arith))))
    (λ a n. listed-none i j _ (suc d - suc a) (λ m u. listed_not i j a (suc a + m) (λ e. absurd (n e))))

-- ---- a sum over the pairs where only one of them counts

-- n times v, by XOR
several : (n v : ℕ) → ℕ
several zero v = 0
several (suc n) v = bit_xor v (several n v)

module _ (f : ℕ × ℕ → ℕ) (n i j : ℕ) (off : (a b : ℕ) → a < b → (a ≡ i → b ≢ j) → f (a, b) ≡ 0) where
  sum-listed : {ps : List (ℕ × ℕ)} → All (Pair n) ps → joined (map f ps) ≡ several (times_listed i j ps) (f (i, j))
  unfolding joined several times_listed
  sum-listed done = refl
  sum-listed (◌&◌ {x = p} {xs = ps} h hs) =
      let k = times_listed i j ps in
      by_eq (λ c. bit_xor (f p) (joined (map f ps)) ≡ several (cond (c && eqb p.1 j) (suc k) k) (f (i, j))) p.0 i
      (λ e. by_eq (λ c. bit_xor (f p) (joined (map f ps)) ≡ several (cond c (suc k) k) (f (i, j))) p.1 j
      (λ g. ap₂ bit_xor (ap₂ (λ (a b : ℕ). f (a, b)) e g) (sum-listed hs)) (λ u. other p ps h (λ v. u) (sum-listed hs)))
      (λ u. other p ps h (λ v. absurd (u v)) (sum-listed hs))
    where
      other : (p : ℕ × ℕ) (ps : List (ℕ × ℕ)) → Pair n p → (p.0 ≡ i → p.1 ≢ j) → joined (map f ps) ≡ several (times_listed i j ps) (f (i, j))
          → bit_xor (f p) (joined (map f ps)) ≡ several (times_listed i j ps) (f (i, j))
      other p ps h u ih = ap (λ (x : ℕ). bit_xor x (joined (map f ps))) (off p.0 p.1 h.0 u) ∙ xor_zero_l (joined (map f ps)) ∙ ih

pub one_pair : (f : ℕ × ℕ → ℕ) (d : ℕ) {ps : List (ℕ × ℕ)} → EachOnce d ps → All (Pair (suc d)) ps → (i j : ℕ) → i < j → j < suc d
    → ((a b : ℕ) → a < b → (a ≡ i → b ≢ j) → f (a, b) ≡ 0) → joined (map f ps) ≡ f (i, j)
unfolding EachOnce several
one_pair f d once among i j l h off =
    sum-listed f (suc d) i j off among ∙ ap (λ (k : ℕ). several k (f (i, j))) (once i j l h) ∙ xor_zero_r (f (i, j))
