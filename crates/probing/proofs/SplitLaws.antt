-- SPLITTING: any one share can take up a change of the string, and every other share stays; so a split string says nothing by any d of its shares.
-- Assumes nothing.
use mathlib.Core.Path.{◌≡◌, refl, sym, ap, ap₂, ◌∙◌}
use mathlib.Core.Logic.{◌≢◌}
use mathlib.Core.List.{List, [], ◌∷◌, ◌++◌}
use Prim.Native.Nat.{ℕ, zero, suc, ◌*◌, ◌≤◌, ◌<◌}
use native.Mathlib.Nat.{suc-mul, mul-le-mul_right}
use native.Mathlib.Omega.{arith}
use lib.Bits.{xor_zero_r}
use lib.ListN.{length, get_or, take, drop, replicate, length-append, length-replicate, length-take, length-drop}
use lib.Pow.{pow_pos}
use lib.Seq.{take_at, drop_at, take_all, drop-length}
use Rattle.xor.specs.Lists.{done, ◌&◌, Below}
use Rattle.xor.specs.Sums.{xors}
use Rattle.xor.proofs.ListsLaws.{all_append}
use Rattle.xor.proofs.StringLaws.{xors_nil_r, xors_comm, xors_assoc, xors-back, length-xors, length_both}
use Rattle.isw.proofs.MaskLaws.{xors_below}
use Rattle.shares.specs.Strings.{Shares, Shared, joined_string, parts, split, split_need}
use Rattle.shares.proofs.StringsLaws.{shared-split, split-surplus}
use Rattle.cipher.proofs.StringLaws.{take-xors, drop-xors}
use Rattle.gadgets.specs.Coupling.{Coupled}
use Rattle.gadgets.proofs.CouplingLaws.{coupled_by, coupled-map, coupled_then, coupled_within}
use Rattle.probing.specs.Runs.{Plain, masks_of_two}

-- zeros change nothing
xors_zeros : (l : ℕ) (s : List ℕ) → l ≤ length s → xors s (replicate l 0) ≡ s
unfolding xors
xors_zeros zero s h = xors_nil_r s
xors_zeros (suc l) [] h = absurd (omega arith)
xors_zeros (suc l) (x ∷ s) h = ap₂ ◌∷◌ (xor_zero_r x) (xors_zeros l s (omega arith))

-- how a tape moves so that mask k alone, of l bytes, moves by e
lift : (k l : ℕ) (e : List ℕ) → List ℕ
lift zero l e = e
lift (suc k) l e = replicate l 0 ++ lift k l e

length_lift : (k l : ℕ) (e : List ℕ) → length e ≡ l → length (lift k l e) ≡ suc k * l
unfolding lift
length_lift zero l e h = omega (arith, suc-mul 0 l)
length_lift (suc k) l e h =
    length-append (replicate l 0) (lift k l e) ∙ omega (arith, length-replicate {A = ℕ} l 0, length_lift k l e h, suc-mul (suc k) l)

zeros_below : (l : ℕ) → Below 256 (replicate l 0)
zeros_below zero = done
zeros_below (suc l) = pow_pos 8 & zeros_below l

lift_below : (k l : ℕ) {e : List ℕ} → Below 256 e → Below 256 (lift k l e)
unfolding lift
lift_below zero l h = h
lift_below (suc k) l h = all_append (zeros_below l) (lift_below k l h)

module _ (l : ℕ) (e : List ℕ) (long : length e ≡ l) where
  own_take : (ts : List ℕ) → take l (xors ts e) ≡ xors (take l ts) e
  own_take ts = take-xors l ts e ∙ ap (xors (take l ts)) (take_all l e (omega arith))

  own_drop : (ts : List ℕ) → drop l (xors ts e) ≡ drop l ts
  own_drop ts = drop-xors l ts e ∙ ap (xors (drop l ts)) (rw long at (drop-length e)) ∙ xors_nil_r (drop l ts)

  other-take : (ts es : List ℕ) → l ≤ length (take l ts) → take l (xors ts (replicate l 0 ++ es)) ≡ take l ts
  other-take ts es h =
      take-xors l ts (replicate l 0 ++ es) ∙ ap (xors (take l ts)) (take_at (replicate l 0) es l (length-replicate l 0)) ∙ xors_zeros l (take l ts) h

  other-drop : (ts es : List ℕ) → drop l (xors ts (replicate l 0 ++ es)) ≡ xors (drop l ts) es
  other-drop ts es = drop-xors l ts (replicate l 0 ++ es) ∙ ap (xors (drop l ts)) (drop_at (replicate l 0) es l (length-replicate l 0))

  take_long : (ts : List ℕ) → l ≤ length ts → l ≤ length (take l ts)
  take_long ts h = omega (arith, length-take l ts)

  -- the other masks stay
  masks_stay : (n k : ℕ) (ts : List ℕ) → k < n → n * l ≤ length ts → (j : ℕ) → j ≢ k
      → get_or (parts n l (xors ts (lift k l e))) j [] ≡ get_or (parts n l ts) j []
  unfolding parts lift
  masks_stay zero k ts h g j ne = absurd (omega arith)
  masks_stay (suc n) zero ts h g zero ne = absurd (ne refl)
  masks_stay (suc n) zero ts h g (suc j) ne = ap (λ (us : List ℕ). get_or (parts n l us) j []) (own_drop ts)
  masks_stay (suc n) (suc k) ts h g zero ne = other-take ts (lift k l e) (take_long ts (omega (arith, suc-mul n l)))
  masks_stay (suc n) (suc k) ts h g (suc j) ne =
      ap (λ (us : List ℕ). get_or (parts n l us) j []) (other-drop ts (lift k l e))
      ∙ masks_stay n k (drop l ts) (omega arith) (omega (arith, suc-mul n l, length-drop l ts)) j (λ q. ne (ap suc q))

  -- and what all masks join to moves by e
  masks_join : (n k : ℕ) (ts : List ℕ) → k < n → n * l ≤ length ts
      → joined_string (parts n l (xors ts (lift k l e))) ≡ xors (joined_string (parts n l ts)) e
  unfolding parts lift joined_string
  masks_join zero k ts h g = absurd (omega arith)
  masks_join (suc n) zero ts h g =
      ap₂ (λ (u v : List ℕ). xors u (joined_string (parts n l v))) (own_take ts) (own_drop ts)
      ∙ xors_assoc (take l ts) e (joined_string (parts n l (drop l ts)))
      ∙ ap (xors (take l ts)) (xors_comm e (joined_string (parts n l (drop l ts))))
      ∙ sym (xors_assoc (take l ts) (joined_string (parts n l (drop l ts))) e)
  masks_join (suc n) (suc k) ts h g =
      ap₂ (λ (u v : List ℕ). xors u (joined_string (parts n l v)))
      (other-take ts (lift k l e) (take_long ts (omega (arith, suc-mul n l)))) (other-drop ts (lift k l e))
      ∙ ap (xors (take l ts)) (masks_join n k (drop l ts) (omega arith) (omega (arith, suc-mul n l, length-drop l ts)))
      ∙ sym (xors_assoc (take l ts) (joined_string (parts n l (drop l ts))) e)

length-parts : (n l : ℕ) (ts : List ℕ) → length (parts n l ts) ≡ n
unfolding parts
length-parts zero l ts = refl
length-parts (suc n) l ts = ap suc (length-parts n l (drop l ts))

pub length-split : (d : ℕ) (xs ts : List ℕ) → length (split d xs ts) ≡ suc d
unfolding split
length-split d xs ts = ap suc (length-parts d (length xs) ts)

-- two split strings have all shares in common but share q
pub record AllBut (d q : ℕ) (ss ss' : Shares) : Type 0 where
  pub as_many : length ss ≡ suc d
  pub as_many' : length ss' ≡ suc d
  pub others : (i : ℕ) → i ≢ q → get_or ss i [] ≡ get_or ss' i []

module _ (d l : ℕ) (xs xs' : List ℕ) (h : length xs ≡ l) (h' : length xs' ≡ l) where
  move : (q : ℕ) → List ℕ
  move zero = []
  move (suc k) = lift k l (xors xs xs')

  swap : (u v j : List ℕ) → length v ≤ length (xors u j) → xors v (xors j (xors u v)) ≡ xors u j
  swap u v j g =
      xors_comm v (xors j (xors u v))
      ∙ ap (λ (s : List ℕ). xors s v) (sym (xors_assoc j u v) ∙ ap (λ (s : List ℕ). xors s v) (xors_comm j u))
      ∙ xors-back (xors u j) v g

  split_moved : (q : ℕ) → q ≤ d → (ts : List ℕ) → split_need d l ≤ length ts → AllBut d q (split d xs ts) (split d xs' (xors ts (move q)))
  unfolding move split split_need
  split_moved zero g ts long =
      record {
        as_many = ap suc (length-parts d (length xs) ts);
        as_many' = ap suc (length-parts d (length xs') (xors ts []));
        others = λ i ne. rest i ne;
      }
    where
      rest : (i : ℕ) → i ≢ 0 → get_or (xors xs (joined_string (parts d (length xs) ts)) ∷ parts d (length xs) ts) i []
          ≡ get_or (xors xs' (joined_string (parts d (length xs') (xors ts []))) ∷ parts d (length xs') (xors ts [])) i []
      rest zero ne = absurd (ne refl)
      rest (suc i) ne = ap₂ (λ (n : ℕ) (us : List ℕ). get_or (parts d n us) i []) (h ∙ sym h') (sym (xors_nil_r ts))
  split_moved (suc k) g ts long =
      record {
        as_many = ap suc (length-parts d (length xs) ts);
        as_many' = ap suc (length-parts d (length xs') (xors ts (lift k l (xors xs xs'))));
        others = λ i ne. rest i ne;
      }
    where
      e_long : length (xors xs xs') ≡ l
      e_long = length_both xs xs' h h'

      J : List ℕ
      J = joined_string (parts d (length xs) ts)

      joins : joined_string (parts d (length xs') (xors ts (lift k l (xors xs xs')))) ≡ xors J (xors xs xs')
      joins =
          ap (λ (n : ℕ). joined_string (parts d n (xors ts (lift k l (xors xs xs'))))) h'
          ∙ masks_join l (xors xs xs') e_long d k ts (omega arith) long
          ∙ ap (λ (n : ℕ). xors (joined_string (parts d n ts)) (xors xs xs')) (sym h)

      rest : (i : ℕ) → i ≢ suc k → get_or (xors xs (joined_string (parts d (length xs) ts)) ∷ parts d (length xs) ts) i []
          ≡ get_or (xors xs' (joined_string (parts d (length xs') (xors ts (lift k l (xors xs xs')))))
          ∷ parts d (length xs') (xors ts (lift k l (xors xs xs')))) i []
      rest zero ne = sym (ap (xors xs') joins ∙ swap xs xs' J (omega (arith, length-xors xs J)))
      rest (suc i) ne =
          ap (λ (n : ℕ). get_or (parts d n ts) i []) h
          ∙ sym (masks_stay l (xors xs xs') e_long d k ts (omega arith) long i (λ q. ne (ap suc q)))
          ∙ ap (λ (n : ℕ). get_or (parts d n (xors ts (lift k l (xors xs xs')))) i []) (sym h')

  move_fits : (q : ℕ) → q ≤ d → length (move q) ≤ split_need d l
  unfolding move split_need
  move_fits zero g = omega arith
  move_fits (suc k) g = omega (arith, length_lift k l (xors xs xs') (length_both xs xs' h h'), mul-le-mul_right l g)

  move_below : (q : ℕ) → Below 256 xs → Below 256 xs' → Below 256 (move q)
  unfolding move
  move_below zero b b' = done
  move_below (suc k) b b' = lift_below k l (xors_below 8 b b')

-- a plain string, split
pub split-shared : (d l : ℕ) {xs : List ℕ} → Plain l xs → (ts : List ℕ) → split_need d l ≤ length ts → Shared l d (split d xs ts)
split-shared d l {xs} p ts h = rw p.long at (shared-split d xs ts (rw p.long h))

-- splitting heeds no surplus
pub split-more : (d l : ℕ) {xs : List ℕ} → Plain l xs → (us vs : List ℕ) → split_need d l ≤ length us → split d xs (us ++ vs) ≡ split d xs us
split-more d l {xs} p us vs h = split-surplus d xs us vs (rw p.long h)

-- splitting two strings, on any tape that is long enough, couples all shares but any one
pub split-coupled : (d l n : ℕ) {xs xs' : List ℕ} → Plain l xs → Plain l xs' → (q : ℕ) → q ≤ d → split_need d l ≤ n
    → Coupled 8 n (AllBut d q) (split d xs) (split d xs')
split-coupled d l n {xs} {xs'} p p' q g enough =
    coupled_within 8 (split_need d l) n (AllBut d q) (split d xs) (split d xs') (split-more d l p) (split-more d l p') enough
    (coupled_by 8 (split_need d l) (AllBut d q) (split d xs) (split d xs') (move d l xs xs' p.long p'.long q)
    (move_fits d l xs xs' p.long p'.long q g) (move_below d l xs xs' p.long p'.long q p.small p'.small)
    (λ ts long. split_moved d l xs xs' p.long p'.long q g ts (omega arith)))

-- two strings, the second split on what the first leaves of the masks
pub record BothBut (d q : ℕ) (s s' : Shares × Shares) : Type 0 where
  pub first : AllBut d q s.0 s'.0
  pub second : AllBut d q s.1 s'.1

unfoldable pub two_split : (d l : ℕ) (xs ys ms : List ℕ) → Shares × Shares
two_split d l xs ys ms = (split d xs ms, split d ys (drop (split_need d l) ms))

pub two_split-coupled : (d l m : ℕ) {xs xs' ys ys' : List ℕ} → Plain l xs → Plain l xs' → Plain m ys → Plain m ys' → (q : ℕ) → q ≤ d
    → Coupled 8 (masks_of_two d l m) (BothBut d q) (two_split d l xs ys) (two_split d l xs' ys')
unfolding masks_of_two two_split
two_split-coupled d l m {xs} {xs'} {ys} {ys'} p p' r r' q g =
    coupled_then 8 (split_need d l) (split_need d m) (AllBut d q) (BothBut d q) (split d xs) (split d xs')
    (λ k us. (k, split d ys us)) (λ k us. (k, split d ys' us)) (split-more d l p) (split-more d l p')
    (split-coupled d l (split_need d l) p p' q g (omega arith))
    (λ us us' t t' a.
    coupled-map 8 (split_need d m) (AllBut d q) (BothBut d q) (split d ys) (split d ys') (λ x. (split d xs us, x)) (λ x. (split d xs' us', x))
    (λ x x' b. record { first = a; second = b }) (split-coupled d m (split_need d m) r r' q g (omega arith)))
