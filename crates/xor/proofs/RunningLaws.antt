-- Running sums: a sum is its start and the sum of its terms, so two that agree term by term are equal, and its bound; a row of pairs, one pair after
-- another, and each share after it. Assumes nothing.
use mathlib.Core.Path.{◌≡◌, refl, sym, ap, ap₂, ◌∙◌}
use mathlib.Core.List.{List}
use Prim.Native.Nat.{ℕ, zero, suc, ◌+◌, ◌-◌, ◌^◌, ◌<◌}
use native.Mathlib.Decide.{dec_lt}
use native.Mathlib.Numerals.{add-one}
use native.Mathlib.Omega.{arith}
use lib.Bits.{bit_xor, xor_zero_r, xor_lt}
use lib.ListN.{length, get_or, set, length-set}
use lib.Seq.{get_or-set_same, get_or-set_other}
use Rattle.xor.specs.Lists.{at, tab}
use Rattle.xor.specs.Sums.{sum}
use Rattle.xor.specs.Running.{running, behind_taken, row_taken}
use Rattle.xor.specs.Writes.{front}
use Rattle.xor.proofs.XorLaws.{xor_assoc}
use Rattle.xor.proofs.SumsLaws.{sum_cong, sum_lt}
use Rattle.xor.proofs.WriteLaws.{at_front}

pub running-sum : (s : ℕ) (f : ℕ → ℕ) (k : ℕ) → running s f k ≡ bit_xor s (sum k f)
unfolding running sum
running-sum s f zero = sym (xor_zero_r s)
running-sum s f (suc k) = ap (λ (x : ℕ). bit_xor x (f k)) (running-sum s f k) ∙ xor_assoc s (sum k f) (f k)

pub running_cong : {s s' : ℕ} (f f' : ℕ → ℕ) (k : ℕ) → s ≡ s' → ((j : ℕ) → j < k → f j ≡ f' j) → running s f k ≡ running s' f' k
running_cong {s} {s'} f f' k e h = running-sum s f k ∙ ap₂ bit_xor e (sum_cong k f f' h) ∙ sym (running-sum s' f' k)

pub running_lt : (w s : ℕ) (f : ℕ → ℕ) (k : ℕ) → s < 2 ^ w → ((j : ℕ) → j < k → f j < 2 ^ w) → running s f k < 2 ^ w
running_lt w s f k h g = rw (running-sum s f k) (xor_lt w s (sum k f) h (sum_lt w k f g))

-- ---- a share's own sums over the draws of its row

module _ (start : ℕ) (tape : List ℕ) where
  pub own_next : (m s q : ℕ) → s ≡ running start (at tape) m → q ≡ bit_xor s (at tape m) → q ≡ running start (at tape) (m + 1)
  unfolding running
  own_next m s q e f = rw (f, e, add-one) refl

  -- the last of them stands at the end of their row
  pub own_last : (y o : List ℕ) (w : ℕ) → 0 < w → y ≡ front (tab (λ k. running start (at tape) (k + 1)) w) o
      → at y (w - 1) ≡ running start (at tape) w
  own_last y o w h f =
      let x : w - 1 + 1 ≡ w = omega arith in
      at_front (λ k. running start (at tape) (k + 1)) w (w - 1) y o f (omega arith) ∙ ap (running start (at tape)) x

-- ---- those of the shares behind it

module _ (i : ℕ) (f : ℕ → ℕ) (s : List ℕ) where
  pub length-behind : (m : ℕ) → length (behind_taken i f s m) ≡ length s
  unfolding behind_taken
  length-behind zero = refl
  length-behind (suc m) = length-set (behind_taken i f s m) (i + 1 + m) _ ∙ length-behind m

  pub behind_next : (m v : ℕ) (y : List ℕ) → y ≡ behind_taken i f s m → v ≡ bit_xor (at y (i + 1 + m)) (f m)
      → set y (i + 1 + m) v ≡ behind_taken i f s (m + 1)
  unfolding behind_taken
  behind_next m v y e g = rw (g, e, add-one m) refl

  -- the row's end
  pub row_taken_last : (w v : ℕ) (d : ℕ → ℕ) (y : List ℕ) → y ≡ behind_taken i f s w → v ≡ running (at s i) d w → set y i v ≡ row_taken i w d f s
  unfolding row_taken
  row_taken_last w v d y e g = rw (e, g) refl

pub behind_cong : (i : ℕ) (f g : ℕ → ℕ) (s : List ℕ) (w : ℕ) → ((m : ℕ) → m < w → f m ≡ g m) → behind_taken i f s w ≡ behind_taken i g s w
unfolding behind_taken
behind_cong i f g s zero h = refl
behind_cong i f g s (suc w) h =
    ap₂ (λ (y : List ℕ) (v : ℕ). set y (i + 1 + w) (bit_xor (at y (i + 1 + w)) v))
    (behind_cong i f g s w (λ m l. h m (omega arith))) (h w (omega arith))

-- ---- each share after a row

module _ (i : ℕ) (f : ℕ → ℕ) (s : List ℕ) where
  -- one that the row has not come to
  pub behind-past : (w j : ℕ) → i + w < j → at (behind_taken i f s w) j ≡ at s j
  unfolding behind_taken at
  behind-past zero j h = refl
  behind-past (suc w) j h = get_or-set_other (behind_taken i f s w) (i + 1 + w) j _ 0 (omega arith) ∙ behind-past w j (omega arith)

  -- one that has taken in its term
  pub behind-at : (w m : ℕ) → m < w → i + w < length s → at (behind_taken i f s w) (i + 1 + m) ≡ bit_xor (at s (i + 1 + m)) (f m)
  unfolding behind_taken at
  behind-at zero m h g = absurd (omega arith)
  behind-at (suc w) m h g = go (dec_lt m w) (λ l. behind-at w m l (omega arith))
    where
      go : Dec (m < w) → (m < w → get_or (behind_taken i f s w) (i + 1 + m) 0 ≡ bit_xor (get_or s (i + 1 + m) 0) (f m))
          → get_or (set (behind_taken i f s w) (i + 1 + w) (bit_xor (get_or (behind_taken i f s w) (i + 1 + w) 0) (f w))) (i + 1 + m) 0
          ≡ bit_xor (get_or s (i + 1 + m) 0) (f m)
      go (yes l) ih = get_or-set_other (behind_taken i f s w) (i + 1 + w) (i + 1 + m) _ 0 (omega arith) ∙ ih l
      go (no l) ih =
          let e : m ≡ w = omega arith in
          rw e
          (get_or-set_same (behind_taken i f s w) (i + 1 + w) _ 0 (omega (arith, length-behind i f s w))
          ∙ ap (λ (x : ℕ). bit_xor x (f w)) (behind-past w (i + 1 + w) (omega arith)))

module _ (i w : ℕ) (r f : ℕ → ℕ) (s : List ℕ) where
  pub length-row_taken : length (row_taken i w r f s) ≡ length s
  unfolding row_taken
  length-row_taken = length-set (behind_taken i f s w) i (running (at s i) r w) ∙ length-behind i f s w

  -- share i itself
  pub at-row_taken : i < length s → at (row_taken i w r f s) i ≡ running (at s i) r w
  unfolding row_taken at
  at-row_taken h = get_or-set_same (behind_taken i f s w) i (running (get_or s i 0) r w) 0 (omega (arith, length-behind i f s w))

  -- one that the row has not come to, and one that has taken in its term
  pub row_taken-past : (j : ℕ) → i + w < j → at (row_taken i w r f s) j ≡ at s j
  unfolding row_taken at
  row_taken-past j h = get_or-set_other (behind_taken i f s w) i j (running (get_or s i 0) r w) 0 (omega arith) ∙ behind-past i f s w j h

  pub row_taken-at : (m : ℕ) → m < w → i + w < length s → at (row_taken i w r f s) (i + 1 + m) ≡ bit_xor (at s (i + 1 + m)) (f m)
  unfolding row_taken at
  row_taken-at m h g = get_or-set_other (behind_taken i f s w) i (i + 1 + m) _ 0 (omega arith) ∙ behind-at i f s w m h g
