-- Carrying a change over (the routing of a coupling): each share i of a set `moves` hands its change to one share q, through the draw of i and q.
-- Of no other pair does the draw move. Assumes nothing.
use mathlib.Core.Path.{◌≡◌, refl, sym, ap, ap₂, ◌∙◌}
use mathlib.Core.Logic.{◌≢◌}
use mathlib.Core.Bool.{Bool, cond}
use Prim.Native.Nat.{ℕ, zero, suc, ◌-◌, ◌^◌, ◌≤◌, ◌<◌}
use native.Mathlib.Decide.{ℕ_discrete, dec_lt}
use native.Mathlib.Omega.{arith}
use lib.Bits.{bit_xor}
use lib.Dec.{T, eqb}
use lib.Pow.{pow_pos}
use Rattle.xor.proofs.Tests.{by_lt, by_eq, by_if, not_both}
use Rattle.xor.proofs.XorLaws.{xor_sums, xor-four, xor_cancel_r}
use Rattle.xor.specs.Running.{running}
use Rattle.xor.proofs.RunningLaws.{running_cong}
use Rattle.isw.specs.Place.{skip}
use Rattle.isw.proofs.PlaceLaws.{skip_lt, skip_ne, skip-past, skip_before}

-- ---- the carried changes

module _ (moves : ℕ → Bool) (q : ℕ) (change : ℕ → ℕ) where
  -- by what the draw of i and j moves
  unfoldable pub route : (i j : ℕ) → ℕ
  route i j = cond (eqb j q) (cond (moves i) (change i) 0) (cond (eqb i q) (cond (moves j) (change j) 0) 0)

  pub route_off : (i j : ℕ) → (T (moves i) → j ≢ q) → (T (moves j) → i ≢ q) → route i j ≡ 0
  unfolding route
  route_off i j f g =
      by_eq (λ c. cond c (cond (moves i) (change i) 0) (cond (eqb i q) (cond (moves j) (change j) 0) 0) ≡ 0) j q
      (λ u. by_if (λ c. cond c (change i) 0 ≡ 0) (moves i) (λ t. absurd (f t u)) (λ t. refl))
      (λ u. by_eq (λ c. cond c (cond (moves j) (change j) 0) 0 ≡ 0) i q
      (λ v. by_if (λ c. cond c (change j) 0 ≡ 0) (moves j) (λ t. absurd (g t v)) (λ t. refl)) (λ v. refl))

  pub route_own : (i : ℕ) → T (moves i) → route i q ≡ change i
  unfolding route
  route_own i t =
      by_eq (λ c. cond c (cond (moves i) (change i) 0) (cond (eqb i q) (cond (moves q) (change q) 0) 0) ≡ change i) q q
      (λ u. by_if (λ c. cond c (change i) 0 ≡ change i) (moves i) (λ v. refl) (λ v. not_both (moves i) v t)) (λ u. absurd (u refl))

  pub route_sym : (i j : ℕ) → i ≢ j → route i j ≡ route j i
  unfolding route
  route_sym i j ne =
      let x : ℕ = cond (moves i) (change i) 0 in
      let y : ℕ = cond (moves j) (change j) 0 in
      by_eq (λ c. cond c x (cond (eqb i q) y 0) ≡ cond (eqb i q) y (cond c x 0)) j q
      (λ u. by_eq (λ c. x ≡ cond c y x) i q (λ v. absurd (ne (v ∙ sym u))) (λ v. refl)) (λ u. refl)

  pub route_lt : (w : ℕ) → ((i : ℕ) → change i < 2 ^ w) → (i j : ℕ) → route i j < 2 ^ w
  unfolding route
  route_lt w h i j =
      by_eq (λ c. cond c (cond (moves i) (change i) 0) (cond (eqb i q) (cond (moves j) (change j) 0) 0) < 2 ^ w) j q
      (λ u. pick_lt i)
      (λ u. by_eq (λ c. cond c (cond (moves j) (change j) 0) 0 < 2 ^ w) i q (λ v. pick_lt j) (λ v. pow_pos w))
    where
      pick_lt : (k : ℕ) → cond (moves k) (change k) 0 < 2 ^ w
      pick_lt k = by_if (λ c. cond c (change k) 0 < 2 ^ w) (moves k) (λ t. h k) (λ t. pow_pos w)

-- ---- where q stands among the terms of row p

record Stands (p q d : ℕ) : Type 0 where
  term : ℕ
  soon : term < d
  there : skip p term ≡ q
  else : (j : ℕ) → j ≢ term → skip p j ≢ q

stands : (p q d : ℕ) → p ≤ d → q ≤ d → p ≢ q → Stands p q d
unfolding skip
stands p q d hp hq ne = go (dec_lt q p)
  where
    go : Dec (q < p) → Stands p q d
    go (yes l) =
        record {
          term = q;
          soon = omega arith;
          there = skip_before p q l;
          else = λ j n. by_lt (λ c. cond c j (suc j) ≢ q) j p (λ u. n) (λ u. omega arith);
        }
    go (no l) =
        record {
          term = q - 1;
          soon = omega arith;
          there = skip-past p (q - 1) (omega arith) ∙ omega arith;
          else = λ j n. by_lt (λ c. cond c j (suc j) ≢ q) j p (λ u. omega arith) (λ u. omega arith);
        }

-- ---- a start and one term that move alike: the sum moves until the term is taken in, and then it is as before

xor_out : (x e y : ℕ) → bit_xor (bit_xor x e) y ≡ bit_xor (bit_xor x y) e
xor_out x e y = simp xor_sums

both_in : (x e y : ℕ) → bit_xor (bit_xor x e) (bit_xor y e) ≡ bit_xor x y
both_in x e y = simp xor_sums

running_start : (s e : ℕ) (f f' : ℕ → ℕ) (k : ℕ) → ((j : ℕ) → j < k → f j ≡ f' j) → running (bit_xor s e) f' k ≡ bit_xor (running s f k) e
unfolding running
running_start s e f f' zero h = refl
running_start s e f f' (suc k) h =
    ap₂ bit_xor (running_start s e f f' k (λ j l. h j (omega arith))) (sym (h k (omega arith))) ∙ xor_out (running s f k) e (f k)

running_moved : (s e m : ℕ) (f f' : ℕ → ℕ) → f' m ≡ bit_xor (f m) e
    → (k : ℕ) → m < k → ((j : ℕ) → j < k → j ≢ m → f j ≡ f' j) → running s f k ≡ running (bit_xor s e) f' k
unfolding running
running_moved s e m f f' at-m zero l off-m = absurd (omega arith)
running_moved s e m f f' at-m (suc k) l off-m =
    go (ℕ_discrete k m) (λ u. running_moved s e m f f' at-m k u (λ j v. off-m j (omega arith)))
  where
    go : Dec (k ≡ m) → (m < k → running s f k ≡ running (bit_xor s e) f' k)
        → bit_xor (running s f k) (f k) ≡ bit_xor (running (bit_xor s e) f' k) (f' k)
    go (yes q) ih =
        sym (ap₂ bit_xor (running_start s e f f' k (λ j u. off-m j (omega arith) (omega arith))) (rw q at-m) ∙ both_in (running s f k) e (f k))
    go (no q) ih = ap₂ bit_xor (ih (omega arith)) (off-m k (omega arith) q)

-- what a running sum changes by
pub running_differ : (s s' : ℕ) (f f' e : ℕ → ℕ) (k : ℕ) → ((j : ℕ) → j < k → bit_xor (f j) (f' j) ≡ e j)
    → bit_xor (running s f k) (running s' f' k) ≡ running (bit_xor s s') e k
unfolding running
running_differ s s' f f' e zero h = refl
running_differ s s' f f' e (suc k) h =
    xor-four (running s f k) (f k) (running s' f' k) (f' k)
    ∙ ap₂ bit_xor (running_differ s s' f f' e k (λ j l. h j (omega arith))) (h k (omega arith))

-- the terms of row i, of which that of skip q moves by e
pub row_routed : (d i q s e : ℕ) (f f' : ℕ → ℕ) → i ≤ d → q ≤ d → i ≢ q → f' q ≡ bit_xor (f q) e
    → ((j : ℕ) → j ≤ d → i ≢ j → j ≢ q → f j ≡ f' j)
    → bit_xor (running s (λ m. f (skip i m)) d) e ≡ running s (λ m. f' (skip i m)) d
row_routed d i q s e f f' hi hq ne own off =
    let st = stands i q d hi hq ne in
    sym (running_start s e (λ m. f (skip i m)) (λ m. f (skip i m)) d (λ j l. refl))
    ∙ running_moved (bit_xor s e) e st.term (λ m. f (skip i m)) (λ m. f' (skip i m))
    (rw st.there own)
    d st.soon
    (λ j l n. let h : skip i j < suc d = skip_lt i j (omega arith) in off (skip i j) (omega arith) (skip_ne i j) (st.else j n))
    ∙ ap (λ (y : ℕ). running y (λ m. f' (skip i m)) d) (xor_cancel_r s e)

-- the terms of a row that does not move
pub row_still : (d i s k : ℕ) (f f' : ℕ → ℕ) → i ≤ d → k ≤ d → ((j : ℕ) → j ≤ d → i ≢ j → f j ≡ f' j)
    → running s (λ m. f (skip i m)) k ≡ running s (λ m. f' (skip i m)) k
row_still d i s k f f' hi hk off =
    running_cong _ _ k refl (λ j l. let h : skip i j < suc d = skip_lt i j (omega arith) in off (skip i j) (omega arith) (skip_ne i j))
