-- The heart of hiding: some shares may move, and the draws move with them so that no listed place shows it. Of each listed place one share
-- of a and one of b must stay, `seen_a` and `seen_b`; all other shares may become anything. Assumes nothing.
use mathlib.Core.Path.{◌≡◌, sym, ap, ap₂, ◌∙◌}
use mathlib.Core.Logic.{◌≢◌}
use mathlib.Core.Bool.{Bool, true, false, cond, ◌&&◌, ◌||◌}
use mathlib.Core.List.{List, [], ◌∷◌}
use Prim.Native.Nat.{ℕ, ◌<◌}
use native.Mathlib.Omega.{arith}
use lib.Bits.{bit_xor, xor_zero_r}
use lib.Dec.{T, eqb, eqb→eq, eqb_refl}
use Rattle.xor.specs.Lists.{All, done, ◌&◌}
use Rattle.xor.proofs.ListsLaws.{all_map}
use Rattle.xor.proofs.Tests.{by_lt, or_left, or_right, or_cases, and_both, and_left, and_right}
use Rattle.xor.proofs.XorLaws.{xor_sums}
use Rattle.isw.specs.Place.{Place, left, right, draw, cross, half, back, part, skip, half_sum, other, term, row, byte}
use Rattle.xor.proofs.RunningLaws.{running_cong}
use Rattle.isw.proofs.PlaceLaws.{Within, skip_lt, skip_ne}

-- ---- which shares a place sees

-- a place of a row: a share, a draw r(i, j) or r(j, i), a running sum. Its whole row is kept as it is.
unfoldable pub opens : Place → Bool
opens (left i) = true
opens (right i) = true
opens (draw i j) = true
opens (cross i j) = false
opens (half i j) = false
opens (back i j) = true
opens (part i k) = true

unfoldable pub seen_a : Place → ℕ
seen_a (left i) = i
seen_a (right i) = i
seen_a (draw i j) = i
seen_a (cross i j) = i
seen_a (half i j) = i
seen_a (back i j) = j
seen_a (part i k) = i

-- the rows that are kept
abbrev pub holds : Place → ℕ → Bool
holds p i = opens p && eqb (seen_a p) i

unfoldable pub kept_rows : List Place → ℕ → Bool
kept_rows [] i = false
kept_rows (p ∷ ps) i = holds p i || kept_rows ps i

unfoldable pub seen_b : (kept : ℕ → Bool) → Place → ℕ
seen_b s (left i) = i
seen_b s (right i) = i
seen_b s (draw i j) = i
seen_b s (cross i j) = j
seen_b s (half i j) = cond (s i) j i
seen_b s (back i j) = j
seen_b s (part i k) = i

-- ---- how the draws move

-- for i < j, by whether rows i and j are kept, with what the two products change by
unfoldable pub pick : (si sj : Bool) → (ij ji : ℕ) → ℕ
pick true sj x y = 0
pick false true x y = bit_xor x y
pick false false x y = x

-- what the product of a_i and b_j changes by
unfoldable pub change : (op : ℕ → ℕ → ℕ) (a a' b b' : ℕ → ℕ) (i j : ℕ) → ℕ
change op a a' b b' i j = bit_xor (op (a i) (b j)) (op (a' i) (b' j))

-- what r(i, j) moves by, where s are the rows that are kept
unfoldable pub correction : (op : ℕ → ℕ → ℕ) (s : ℕ → Bool) (a a' b b' : ℕ → ℕ) (i j : ℕ) → ℕ
correction op s a a' b b' i j = pick (s i) (s j) (change op a a' b b' i j) (change op a a' b b' j i)

-- ---- the cases, on numbers

draw_case : (si sj : Bool) (r x y : ℕ) → T si → r ≡ bit_xor r (pick si sj x y)
unfolding pick
draw_case true sj r x y t = sym (xor_zero_r r)
draw_case false sj r x y t = absurd t

half_case : (si sj : Bool) (r u u' v v' : ℕ) → (T si → u ≡ u') → (T sj → v ≡ v')
    → bit_xor r u ≡ bit_xor (bit_xor r (pick si sj (bit_xor u u') (bit_xor v v'))) u'
unfolding pick
half_case true sj r u u' v v' f g = rw (f tt) (simp xor_sums)
half_case false true r u u' v v' f g = rw (g tt) (simp xor_sums)
half_case false false r u u' v v' f g = simp xor_sums

back_case : (si sj : Bool) (r u u' v v' : ℕ) → T sj → (T si → u ≡ u') → (T si → v ≡ v')
    → bit_xor (bit_xor r u) v ≡ bit_xor (bit_xor (bit_xor r (pick si sj (bit_xor u u') (bit_xor v v'))) u') v'
unfolding pick
back_case true sj r u u' v v' t f g = rw (f tt, g tt) (simp xor_sums)
back_case false true r u u' v v' t f g = simp xor_sums
back_case false false r u u' v v' t f g = absurd t

module _ (op : ℕ → ℕ → ℕ) (n : ℕ) (s : ℕ → Bool) (a a' b b' : ℕ → ℕ) (r r' : ℕ → ℕ → ℕ)
    (ka : (i : ℕ) → T (s i) → a i ≡ a' i) (kb : (i : ℕ) → T (s i) → b i ≡ b' i)
    (kr : (i j : ℕ) → i < j → j < n → r' i j ≡ bit_xor (r i j) (correction op s a a' b b' i j)) where
  draw-same : (i j : ℕ) → i < j → j < n → T (s i) → r i j ≡ r' i j
  unfolding correction
  draw-same i j l h t = draw_case (s i) (s j) (r i j) _ _ t ∙ sym (kr i j l h)

  back-same : (i j : ℕ) → i < j → j < n → T (s j) → other op a b r i j ≡ other op a' b' r' i j
  unfolding correction change half_sum other
  back-same i j l h t =
      back_case (s i) (s j) (r i j) _ _ _ _ t (λ u. ap₂ op (ka i u) (kb j t)) (λ u. ap₂ op (ka j t) (kb i u))
      ∙ ap (λ (x : ℕ). bit_xor (bit_xor x (op (a' i) (b' j))) (op (a' j) (b' i))) (sym (kr i j l h))

  half-same : (i j : ℕ) → i < j → j < n → a i ≡ a' i → b (cond (s i) j i) ≡ b' (cond (s i) j i) → half_sum op a b r i j ≡ half_sum op a' b' r' i j
  unfolding correction change half_sum
  half-same i j l h p q =
      half_case (s i) (s j) (r i j) _ _ _ _ (λ t. ap₂ op p (at_j (s i) t q)) (λ t. ap₂ op (ka j t) (at_i (s i) (kb i) q))
      ∙ ap (λ (x : ℕ). bit_xor x (op (a' i) (b' j))) (sym (kr i j l h))
    where
      at_j : (c : Bool) → T c → b (cond c j i) ≡ b' (cond c j i) → b j ≡ b' j
      at_j true t e = e
      at_j false t e = absurd t

      at_i : (c : Bool) → (T c → b i ≡ b' i) → b (cond c j i) ≡ b' (cond c j i) → b i ≡ b' i
      at_i true f e = f tt
      at_i false f e = e

  term-same : (i j : ℕ) → i < n → j < n → i ≢ j → T (s i) → term op a b r i j ≡ term op a' b' r' i j
  unfolding term
  term-same i j hi hj ne t =
      by_lt (λ c. cond c (r i j) (other op a b r j i) ≡ cond c (r' i j) (other op a' b' r' j i)) i j
      (λ l. draw-same i j l hj t) (λ l. back-same j i (omega arith) hi t)

  pub row_same : (i k : ℕ) → i < n → k < n → T (s i) → row op a b r i k ≡ row op a' b' r' i k
  unfolding row
  row_same i k hi hk t =
      running_cong _ _ k (ap₂ op (ka i t) (kb i t))
      (λ m l. term-same i (skip i m) hi (skip_lt i m (omega arith)) (skip_ne i m) t)

  pub byte-same : (p : Place) → Within n p → (T (opens p) → T (s (seen_a p))) → a (seen_a p) ≡ a' (seen_a p) → b (seen_b s p) ≡ b' (seen_b s p)
      → byte op a b r p ≡ byte op a' b' r' p
  unfolding opens seen_a seen_b byte
  byte-same (left i) w o x y = x
  byte-same (right i) w o x y = y
  byte-same (draw i j) w o x y = draw-same i j w.0 w.1 (o tt)
  byte-same (cross i j) w o x y = ap₂ op x y
  byte-same (half i j) w o x y = half-same i j w.0 w.1 x y
  byte-same (back i j) w o x y = back-same i j w.0 w.1 (o tt)
  byte-same (part i k) w o x y = row_same i k w.0 w.1 (o tt)

  bytes_same : {ps : List Place} → All (Within n) ps → All (λ p. T (opens p) → T (s (seen_a p))) ps → All (λ p. a (seen_a p) ≡ a' (seen_a p)) ps
      → All (λ p. b (seen_b s p) ≡ b' (seen_b s p)) ps → All (λ p. byte op a b r p ≡ byte op a' b' r' p) ps
  bytes_same done o x y = done
  bytes_same (◌&◌ {x = p} w ws) (o & os) (x & xs) (y & ys) = byte-same p w o x y & bytes_same ws os xs ys

-- ---- the rows of the listed places

-- each place of a row has its row kept
pub opened : (ps : List Place) → All (λ p. T (opens p) → T (kept_rows ps (seen_a p))) ps
unfolding kept_rows
opened [] = done
opened (p ∷ ps) =
    (λ o. or_left (holds p (seen_a p)) (kept_rows ps (seen_a p)) (and_both (opens p) (eqb (seen_a p) (seen_a p)) o (eqb_refl (seen_a p))))
    & all_map (λ q f o. or_right (holds p (seen_a q)) (kept_rows ps (seen_a q)) (f o)) (opened ps)

-- what is known of each place's share is known of each row that is kept
pub known : (f g : ℕ → ℕ) {ps : List Place} → All (λ p. T (opens p) → f (seen_a p) ≡ g (seen_a p)) ps → (i : ℕ) → T (kept_rows ps i) → f i ≡ g i
unfolding kept_rows
known f g done i t = absurd t
known f g (◌&◌ {x = p} {xs = ps} h hs) i t =
    or_cases (holds p i) (kept_rows ps i)
    (λ u. rw (eqb→eq (seen_a p) i (and_right (opens p) (eqb (seen_a p) i) u)) at (h (and_left (opens p) (eqb (seen_a p) i) u)))
    (known f g hs i) t

-- a place of a row sees the same share of b
pub seen_both : (s : ℕ → Bool) (f g : ℕ → ℕ) (p : Place) → f (seen_b s p) ≡ g (seen_b s p) → T (opens p) → f (seen_a p) ≡ g (seen_a p)
unfolding opens seen_a seen_b
seen_both s f g (left i) e o = e
seen_both s f g (right i) e o = e
seen_both s f g (draw i j) e o = e
seen_both s f g (cross i j) e o = absurd o
seen_both s f g (half i j) e o = absurd o
seen_both s f g (back i j) e o = e
seen_both s f g (part i k) e o = e

-- THE CORE: where the shares that the listed places see stay, and the draws move by the correction, every listed place stays
pub unseen : (op : ℕ → ℕ → ℕ) (n : ℕ) (ps : List Place) (a a' b b' : ℕ → ℕ) (r r' : ℕ → ℕ → ℕ)
    → All (Within n) ps → All (λ p. a (seen_a p) ≡ a' (seen_a p)) ps → All (λ p. b (seen_b (kept_rows ps) p) ≡ b' (seen_b (kept_rows ps) p)) ps
    → ((i j : ℕ) → i < j → j < n → r' i j ≡ bit_xor (r i j) (correction op (kept_rows ps) a a' b b' i j))
    → All (λ p. byte op a b r p ≡ byte op a' b' r' p) ps
unseen op n ps a a' b b' r r' w x y m =
    bytes_same op n (kept_rows ps) a a' b b' r r'
    (known a a' (all_map (λ p e o. e) x)) (known b b' (all_map (seen_both (kept_rows ps) b b') y)) m w (opened ps) x y
