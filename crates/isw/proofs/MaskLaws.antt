-- A factor and its masks: any one share can take up a change of the factor, and every other share stays. Assumes nothing.
use mathlib.Core.Path.{◌≡◌, refl, sym, ap, ◌∙◌}
use mathlib.Core.Logic.{◌≢◌}
use mathlib.Core.List.{List, [], ◌∷◌}
use Prim.Native.Nat.{ℕ, zero, suc, ◌^◌, ◌<◌}
use lib.Bits.{bit_xor, xor_zero_r, xor_lt}
use lib.ListN.{length}
use lib.Pow.{pow_pos}
use Rattle.xor.specs.Lists.{at, done, ◌&◌, Below}
use Rattle.xor.specs.Sums.{joined, xors}
use Rattle.xor.proofs.XorLaws.{xor_sums}
use Rattle.xor.proofs.SumsLaws.{joined-xors}
use Rattle.xor.proofs.StringLaws.{xors_nil_r, at-xors}
use Rattle.isw.specs.Hiding.{factor}

-- e at place k, after zeros
only : (k e : ℕ) → List ℕ
only zero e = e ∷ []
only (suc k) e = 0 ∷ only k e

joined_only : (k e : ℕ) → joined (only k e) ≡ e
unfolding joined only
joined_only zero e = xor_zero_r e
joined_only (suc k) e = joined_only k e

at_only : (k e i : ℕ) → i ≢ k → at (only k e) i ≡ 0
unfolding at only
at_only zero e zero h = absurd (h refl)
at_only zero e (suc i) h = refl
at_only (suc k) e zero h = refl
at_only (suc k) e (suc i) h = at_only k e i (λ q. h (ap suc q))

-- how the masks move so that share p alone takes up a change: mask p moves by it, and where p is 0 no mask moves
pub taken_up : (p change : ℕ) → List ℕ
taken_up zero e = []
taken_up (suc k) e = only k e

pub length-taken_up : (p e : ℕ) → length (taken_up p e) ≡ p
unfolding taken_up only
length-taken_up zero e = refl
length-taken_up (suc zero) e = refl
length-taken_up (suc (suc k)) e = ap suc (length-taken_up (suc k) e)

-- factor x and factor v: the masks move, and of the shares only share p
pub other_shares : (x v p : ℕ) (ms : List ℕ) (i : ℕ) → i ≢ p → at (factor x ms) i ≡ at (factor v (xors ms (taken_up p (bit_xor x v)))) i
unfolding at factor taken_up
other_shares x v zero ms zero ne = absurd (ne refl)
other_shares x v zero ms (suc i) ne = ap (λ (l : List ℕ). at l i) (sym (xors_nil_r ms))
other_shares x v (suc p) ms zero ne =
    rw (joined-xors ms (only p (bit_xor x v)), joined_only p (bit_xor x v)) (swap x v (joined ms))
  where
    swap : (x v j : ℕ) → bit_xor x j ≡ bit_xor v (bit_xor j (bit_xor x v))
    swap x v j = simp xor_sums
other_shares x v (suc p) ms (suc i) ne =
    sym
    (at-xors ms (only p (bit_xor x v)) i ∙ ap (bit_xor (at ms i)) (at_only p (bit_xor x v) i (λ q. ne (ap suc q))) ∙ xor_zero_r (at ms i))

-- ---- bounds

module _ (w : ℕ) where
  only_below : (k : ℕ) {e : ℕ} → e < 2 ^ w → Below (2 ^ w) (only k e)
  unfolding only
  only_below zero h = h & done
  only_below (suc k) h = pow_pos w & only_below k h

  pub taken_up_below : (p : ℕ) {e : ℕ} → e < 2 ^ w → Below (2 ^ w) (taken_up p e)
  unfolding taken_up
  taken_up_below zero h = done
  taken_up_below (suc k) h = only_below k h

  pub xors_below : {xs ys : List ℕ} → Below (2 ^ w) xs → Below (2 ^ w) ys → Below (2 ^ w) (xors xs ys)
  unfolding xors
  xors_below done g = g
  xors_below (h & hs) done = h & hs
  xors_below (h & hs) (g & gs) = xor_lt w _ _ h g & xors_below hs gs

  joined_lt : {ms : List ℕ} → Below (2 ^ w) ms → joined ms < 2 ^ w
  unfolding joined
  joined_lt done = pow_pos w
  joined_lt (h & hs) = xor_lt w _ _ h (joined_lt hs)

  pub factor_below : {x : ℕ} {ms : List ℕ} → x < 2 ^ w → Below (2 ^ w) ms → Below (2 ^ w) (factor x ms)
  unfolding factor
  factor_below h hs = xor_lt w _ _ h (joined_lt hs) & hs
