-- STRONG NON-INTERFERENCE OF A REFRESH by any list of pairs in which every pair of shares stands once: one draw for each pair, which both take in.
-- An output whose share no place sees hands that share's change to one share q that nothing sees, through the draw of the two. So every two shares
-- must have a draw of their own, in whatever order. The refresh of document 02, wish 7, goes by such a list. Assumes nothing.
use mathlib.Core.Path.{◌≡◌, refl, sym, ap, ap₂, ◌∙◌}
use mathlib.Core.Logic.{◌≢◌}
use mathlib.Core.Bool.{Bool, true, false, cond, not, ◌&&◌}
use mathlib.Core.List.{List, [], ◌∷◌, ◌++◌, map}
use Prim.Native.Nat.{ℕ, zero, suc, ◌+◌, ◌*◌, ◌^◌, ◌≤◌, ◌<◌}
use native.Mathlib.Decide.{dec_lt}
use native.Mathlib.Omega.{arith}
use lib.Bits.{bit_xor, xor_zero_l, xor_zero_r, xor_self, xor_lt}
use lib.Dec.{T, eqb}
use lib.ListN.{length, get_or, drop, length-map, length-append}
use Rattle.xor.specs.Lists.{at, All, done, ◌&◌, Below}
use Rattle.xor.specs.Sums.{joined, xors}
use Rattle.xor.proofs.ListsLaws.{all_map, all_of_map, all_to_map, all_with, all-front, all_rest, at_map, at_below}
use Rattle.xor.proofs.StringLaws.{at-xors}
use Rattle.xor.proofs.Tests.{by_eq, by_if, not_both, and_both, and_left, and_right}
use Rattle.xor.proofs.XorLaws.{xor_sums, xor_cancel}
use Rattle.isw.proofs.Missed.{miss}
use Rattle.refresh.specs.Refresh.{into, pairs_refreshed, refresh_pairs, refreshed, refresh_need}
use Rattle.refresh.specs.Places.{pairs_sheet, refresh_sheet, refresh_count}
use Rattle.refresh.proofs.RefreshLaws.{length-into, length-pairs_refreshed, pairs_refreshed-surplus}
use Rattle.refresh.proofs.PlacesLaws.{at-into_own, at-into_else, length-pairs_sheet, pairs_sheet-surplus}
use Rattle.gadgets.specs.Coupling.{Coupled}
use Rattle.gadgets.specs.Steps.{Agree}
use Rattle.gadgets.specs.Gadgets.{bytes, Gadget, Kept}
use Rattle.gadgets.specs.EachOnce.{Pair, EachOnce}
use Rattle.gadgets.proofs.PicksLaws.{has, all_has, has_all}
use Rattle.gadgets.proofs.CouplingLaws.{coupled_by}
use Rattle.gadgets.proofs.EachOnceLaws.{pairs_among, refresh_pairs_once, one_pair}
use Rattle.gadgets.proofs.RouteLaws.{route, route_off, route_own, route_sym, route_lt}

-- ---- one XOR into a share

at_into : (xs : List ℕ) (i t j : ℕ) → i < length xs → at (into xs i t) j ≡ bit_xor (at xs j) (cond (eqb i j) t 0)
at_into xs i t j h =
    by_eq (λ c. at (into xs i t) j ≡ bit_xor (at xs j) (cond c t 0)) i j
    (λ e. rw (← e) (at-into_own xs i t h)) (λ n. at-into_else xs i j t n ∙ sym (xor_zero_r (at xs j)))

-- both XORs of a pair
stir : List ℕ → (p : ℕ × ℕ) (t : ℕ) → List ℕ
stir xs p t = into (into xs p.0 t) p.1 t

length_stir : (xs : List ℕ) (p : ℕ × ℕ) (t : ℕ) → length (stir xs p t) ≡ length xs
unfolding stir
length_stir xs p t = length-into (into xs p.0 t) p.1 t ∙ length-into xs p.0 t

at_stir : (n : ℕ) (xs : List ℕ) (p : ℕ × ℕ) (t j : ℕ) → length xs ≡ n → Pair n p
    → at (stir xs p t) j ≡ bit_xor (bit_xor (at xs j) (cond (eqb p.0 j) t 0)) (cond (eqb p.1 j) t 0)
unfolding stir
at_stir n xs p t j l h =
    at_into (into xs p.0 t) p.1 t j (omega (arith, length-into xs p.0 t))
    ∙ ap (λ (x : ℕ). bit_xor x (cond (eqb p.1 j) t 0)) (at_into xs p.0 t j (omega arith))

-- behind the three places of a pair
past_three : (a b c a' b' c' : ℕ) (l l' : List ℕ) (k : ℕ) → at l k ≡ at l' k
    → at (a ∷ b ∷ c ∷ l) (suc (suc (suc k))) ≡ at (a' ∷ b' ∷ c' ∷ l') (suc (suc (suc k)))
unfolding at
past_three a b c a' b' c' l l' k e = e

-- ---- the share that a place sees

unfoldable pub seen : List (ℕ × ℕ) → ℕ → ℕ
seen [] k = 0
seen (p ∷ ps) zero = p.0
seen (p ∷ ps) (suc zero) = p.0
seen (p ∷ ps) (suc (suc zero)) = p.1
seen (p ∷ ps) (suc (suc (suc k))) = seen ps k

pub seen_lt : (n : ℕ) {ps : List (ℕ × ℕ)} → All (Pair (suc n)) ps → (k : ℕ) → seen ps k < suc n
unfolding seen
seen_lt n done k = omega arith
seen_lt n (h & hs) zero = omega arith
seen_lt n (h & hs) (suc zero) = omega arith
seen_lt n (h & hs) (suc (suc zero)) = omega arith
seen_lt n (h & hs) (suc (suc (suc k))) = seen_lt n hs k

-- ---- the tape moves by z at each pair

module _ (z : ℕ → ℕ → ℕ) where
  -- by how much a pair's draw moves share i
  touch : ℕ → ℕ × ℕ → ℕ
  touch i p = bit_xor (cond (eqb p.0 i) (z p.0 p.1) 0) (cond (eqb p.1 i) (z p.0 p.1) 0)

  -- what the tape moves by
  moved_by : List (ℕ × ℕ) → List ℕ
  moved_by ps = map (λ p. z p.0 p.1) ps

  -- by how much all draws together move share i
  pull : List (ℕ × ℕ) → ℕ → ℕ
  pull ps i = joined (map (touch i) ps)

  first_draw : (ts es : List ℕ) (e : ℕ) → at (xors ts (e ∷ es)) 0 ≡ bit_xor (at ts 0) e
  first_draw ts es e = at-xors ts (e ∷ es) 0 ∙ (unfold at in refl)

  later_draws : (ts es : List ℕ) (e : ℕ) → drop 1 (xors ts (e ∷ es)) ≡ xors (drop 1 ts) es
  unfolding xors
  later_draws [] es e = refl
  later_draws (t ∷ ts) es e = refl

  -- a share that is behind by what the draws to come will move it
  Due : List (ℕ × ℕ) → ℕ → (xs xs' : List ℕ) → Type 0
  Due ps i xs xs' = bit_xor (at xs i) (at xs' i) ≡ pull ps i

  two : (c : Bool) (t e : ℕ) → bit_xor (cond c t 0) (cond c (bit_xor t e) 0) ≡ cond c e 0
  two true t e = xor_cancel t e
  two false t e = xor_self 0

  regroup : (x x' a a' b b' : ℕ)
      → bit_xor (bit_xor (bit_xor x a) b) (bit_xor (bit_xor x' a') b') ≡ bit_xor (bit_xor x x') (bit_xor (bit_xor a a') (bit_xor b b'))
  regroup x x' a a' b b' = simp xor_sums

  pay : (u p : ℕ) → bit_xor (bit_xor u p) u ≡ p
  pay u p = simp xor_sums

  due_step : (n : ℕ) (p : ℕ × ℕ) (ps : List (ℕ × ℕ)) (i t : ℕ) (xs xs' : List ℕ) → length xs ≡ n → length xs' ≡ n → Pair n p
      → Due (p ∷ ps) i xs xs' → Due ps i (stir xs p t) (stir xs' p (bit_xor t (z p.0 p.1)))
  unfolding Due pull joined touch
  due_step n p ps i t xs xs' l l' h e =
      let u = z p.0 p.1 in
      ap₂ bit_xor (at_stir n xs p t i l h) (at_stir n xs' p (bit_xor t u) i l' h)
      ∙ regroup (at xs i) (at xs' i) (cond (eqb p.0 i) t 0) (cond (eqb p.0 i) (bit_xor t u) 0)
      (cond (eqb p.1 i) t 0) (cond (eqb p.1 i) (bit_xor t u) 0)
      ∙ ap₂ bit_xor e (ap₂ bit_xor (two (eqb p.0 i) t u) (two (eqb p.1 i) t u))
      ∙ pay (bit_xor (cond (eqb p.0 i) u 0) (cond (eqb p.1 i) u 0)) (joined (map (touch i) ps))

  equal : (x y : ℕ) → bit_xor x y ≡ 0 → x ≡ y
  equal x y e = sym (xor_zero_r x) ∙ ap (bit_xor x) (sym e) ∙ xor_cancel x y

  outputs_stay : (n : ℕ) {ps : List (ℕ × ℕ)} → All (Pair n) ps → (i : ℕ) (xs xs' ts : List ℕ) → length xs ≡ n → length xs' ≡ n → Due ps i xs xs'
      → at (pairs_refreshed ps xs ts) i ≡ at (pairs_refreshed ps xs' (xors ts (moved_by ps))) i
  unfolding pairs_refreshed moved_by stir
  outputs_stay n done i xs xs' ts l l' e = unfold Due pull joined in equal (at xs i) (at xs' i) e
  outputs_stay n (◌&◌ {x = p} {xs = ps} h hs) i xs xs' ts l l' e =
      rw (first_draw ts (moved_by ps) (z p.0 p.1), later_draws ts (moved_by ps) (z p.0 p.1))
      (outputs_stay n hs i (stir xs p (at ts 0)) (stir xs' p (bit_xor (at ts 0) (z p.0 p.1))) (drop 1 ts)
      (length_stir xs p (at ts 0) ∙ l) (length_stir xs' p (bit_xor (at ts 0) (z p.0 p.1)) ∙ l') (due_step n p ps i (at ts 0) xs xs' l l' h e))

  -- ---- places: a share whose draws do not move

  abbrev Quiet : ℕ → Type 0
  Quiet i = ((j : ℕ) → i ≢ j → z i j ≡ 0) × ((j : ℕ) → i ≢ j → z j i ≡ 0)

  zeros : (n : ℕ) {ps : List (ℕ × ℕ)} → All (Pair n) ps → (i : ℕ) → Quiet i → joined (map (touch i) ps) ≡ 0
  unfolding joined touch
  zeros n done i k = refl
  zeros n (◌&◌ {x = p} h hs) i k =
      ap₂ bit_xor
      (ap₂ bit_xor
      (by_eq (λ c. cond c (z p.0 p.1) 0 ≡ 0) p.0 i (λ e. ap (λ (x : ℕ). z x p.1) e ∙ k.0 p.1 (omega arith)) (λ n. refl))
      (by_eq (λ c. cond c (z p.0 p.1) 0 ≡ 0) p.1 i (λ e. ap (z p.0) e ∙ k.1 p.0 (omega arith)) (λ n. refl)))
      (zeros n hs i k)

  due_quiet : (n : ℕ) {ps : List (ℕ × ℕ)} → All (Pair n) ps → (i : ℕ) → Quiet i → (xs xs' : List ℕ) → at xs i ≡ at xs' i → Due ps i xs xs'
  unfolding Due pull
  due_quiet n h i k xs xs' e = ap (λ (x : ℕ). bit_xor x (at xs' i)) e ∙ xor_self (at xs' i) ∙ sym (zeros n h i k)

  -- a quiet share of a pair: its draw stays
  still_left : (n : ℕ) (p : ℕ × ℕ) (t : ℕ) → Pair n p → Quiet p.0 → bit_xor t (z p.0 p.1) ≡ t
  still_left n p t h k = ap (bit_xor t) (k.0 p.1 (omega arith)) ∙ xor_zero_r t

  still_right : (n : ℕ) (p : ℕ × ℕ) (t : ℕ) → Pair n p → Quiet p.1 → bit_xor t (z p.0 p.1) ≡ t
  still_right n p t h k = ap (bit_xor t) (k.1 p.0 (omega arith)) ∙ xor_zero_r t

  -- a quiet share stays
  quiet_step : (n : ℕ) (p : ℕ × ℕ) (i t : ℕ) (xs xs' : List ℕ) → length xs ≡ n → length xs' ≡ n → Pair n p → Quiet i
      → at xs i ≡ at xs' i → at (stir xs p t) i ≡ at (stir xs' p (bit_xor t (z p.0 p.1))) i
  quiet_step n p i t xs xs' l l' h k e =
      at_stir n xs p t i l h
      ∙ ap₂ bit_xor (ap₂ bit_xor e
      (by_eq (λ c. cond c t 0 ≡ cond c (bit_xor t (z p.0 p.1)) 0) p.0 i (λ q. sym (still_left n p t h (rw q k))) (λ q. refl)))
      (by_eq (λ c. cond c t 0 ≡ cond c (bit_xor t (z p.0 p.1)) 0) p.1 i (λ q. sym (still_right n p t h (rw q k))) (λ q. refl))
      ∙ sym (at_stir n xs' p (bit_xor t (z p.0 p.1)) i l' h)

  module _ (n : ℕ) (p : ℕ × ℕ) (ps : List (ℕ × ℕ)) (h : Pair n p) (xs xs' ts : List ℕ) (l : length xs ≡ n) (l' : length xs' ≡ n) where
    abbrev t : ℕ
    t = at ts 0

    abbrev t' : ℕ
    t' = bit_xor t (z p.0 p.1)

    place_one : Quiet p.0 → at xs p.0 ≡ at xs' p.0 → at (into xs p.0 t) p.0 ≡ at (into xs' p.0 t') p.0
    place_one k e =
        at_into xs p.0 t p.0 (omega arith)
        ∙ ap₂ (λ (x y : ℕ). bit_xor x (cond (eqb p.0 p.0) y 0)) e (sym (still_left n p t h k))
        ∙ sym (at_into xs' p.0 t' p.0 (omega arith))

    place_two : Quiet p.1 → at xs p.1 ≡ at xs' p.1
        → at (into (into xs p.0 t) p.1 t) p.1 ≡ at (into (into xs' p.0 t') p.1 t') p.1
    place_two k e = unfold stir in quiet_step n p p.1 t xs xs' l l' h k e

  place_stays : (n : ℕ) {ps : List (ℕ × ℕ)} → All (Pair n) ps → (k : ℕ) (xs xs' ts : List ℕ) → length xs ≡ n → length xs' ≡ n
      → Quiet (seen ps k) → at xs (seen ps k) ≡ at xs' (seen ps k)
      → at (pairs_sheet ps xs ts) k ≡ at (pairs_sheet ps xs' (xors ts (moved_by ps))) k
  unfolding pairs_sheet moved_by stir seen
  place_stays n done k xs xs' ts l l' q e = refl
  place_stays n (◌&◌ {x = p} {xs = ps} h hs) zero xs xs' ts l l' q e =
      rw (first_draw ts (moved_by ps) (z p.0 p.1)) (unfold at in sym (still_left n p (get_or ts 0 0) h q))
  place_stays n (◌&◌ {x = p} {xs = ps} h hs) (suc zero) xs xs' ts l l' q e =
      rw (first_draw ts (moved_by ps) (z p.0 p.1)) (unfold at in place_one n p ps h xs xs' ts l l' q e)
  place_stays n (◌&◌ {x = p} {xs = ps} h hs) (suc (suc zero)) xs xs' ts l l' q e =
      rw (first_draw ts (moved_by ps) (z p.0 p.1)) (unfold at in place_two n p ps h xs xs' ts l l' q e)
  place_stays n (◌&◌ {x = p} {xs = ps} h hs) (suc (suc (suc k))) xs xs' ts l l' q e =
      rw (first_draw ts (moved_by ps) (z p.0 p.1), later_draws ts (moved_by ps) (z p.0 p.1))
      (past_three _ _ _ _ _ _ _ _ k (place_stays n hs k (stir xs p (at ts 0)) (stir xs' p (bit_xor (at ts 0) (z p.0 p.1))) (drop 1 ts)
      (length_stir xs p (at ts 0) ∙ l) (length_stir xs' p (bit_xor (at ts 0) (z p.0 p.1)) ∙ l') q
      (quiet_step n p (seen ps k) (at ts 0) xs xs' l l' h q e)))

-- ---- the changes carried over

module _ (d : ℕ) (list : List (ℕ × ℕ)) (once : EachOnce d list) (among : All (Pair (suc d)) list)
    (ps os kept : List ℕ) (sees : All (λ k. T (has kept (seen list k))) ps) (os_in : Below (suc d) os)
    (q : ℕ) (q_le : q ≤ d) (q_os : All (λ x. x ≢ q) os) (q_kept : All (λ x. x ≢ q) kept)
    (xs xs' : List ℕ) (l : length xs ≡ suc d) (l' : length xs' ≡ suc d) (same : All (λ i. at xs i ≡ at xs' i) kept) where
  moves : ℕ → Bool
  moves i = has os i && not (has kept i)

  moves_ne : (i : ℕ) → T (moves i) → i ≢ q
  unfolding moves
  moves_ne i t = all_has (λ x. x ≢ q) q_os i (and_left (has os i) (not (has kept i)) t)

  moves_in : (i : ℕ) → T (moves i) → i < suc d
  unfolding moves
  moves_in i t = all_has (λ x. x < suc d) os_in i (and_left (has os i) (not (has kept i)) t)

  z : ℕ → ℕ → ℕ
  z = route moves q (λ i. bit_xor (at xs i) (at xs' i))

  quiet : (i : ℕ) → T (has kept i) → Quiet z i
  unfolding z moves
  quiet i t = (
    λ j n. off i t j,
    λ j n. route_sym moves q _ j i (λ e. n (sym e)) ∙ off i t j,
  )
    where
      off : (i : ℕ) → T (has kept i) → (j : ℕ) → route moves q (λ i. bit_xor (at xs i) (at xs' i)) i j ≡ 0
      off i t j =
          route_off moves q _ i j (λ m. not_both (has kept i) (and_right (has os i) (not (has kept i)) m) t) (λ m. all_has (λ x. x ≢ q) q_kept i t)

  z_off : (a b : ℕ) → (T (moves a) → b ≢ q) → (T (moves b) → a ≢ q) → z a b ≡ 0
  unfolding z
  z_off a b f g = route_off moves q _ a b f g

  z_own : (i : ℕ) → T (moves i) → z i q ≡ bit_xor (at xs i) (at xs' i)
  unfolding z
  z_own i t = route_own moves q _ i t

  z_own' : (i : ℕ) → T (moves i) → z q i ≡ bit_xor (at xs i) (at xs' i)
  unfolding z
  z_own' i t = route_sym moves q _ q i (λ r. moves_ne i t (sym r)) ∙ route_own moves q _ i t

  -- only the draw of i and q moves share i
  off_pair : (i : ℕ) → T (moves i) → (a b : ℕ) → a < b → (a ≡ i → b ≢ q) → (b ≡ i → a ≢ q) → touch z i (a, b) ≡ 0
  unfolding touch
  off_pair i t a b u f g =
      ap₂ bit_xor
      (by_eq (λ c. cond c (z a b) 0 ≡ 0) a i (λ e. z_off a b (λ m. f e) (λ m r. moves_ne i t (sym e ∙ r))) (λ n. refl))
      (by_eq (λ c. cond c (z a b) 0 ≡ 0) b i (λ e. z_off a b (λ m r. moves_ne i t (sym e ∙ r)) (λ m. g e)) (λ n. refl))

  own_pair : (i : ℕ) → T (moves i) → touch z i (i, q) ≡ bit_xor (at xs i) (at xs' i)
  unfolding touch
  own_pair i t =
      ap₂ bit_xor
      (by_eq (λ c. cond c (z i q) 0 ≡ bit_xor (at xs i) (at xs' i)) i i (λ e. z_own i t) (λ n. absurd (n refl)))
      (by_eq (λ c. cond c (z i q) 0 ≡ 0) q i (λ e. absurd (moves_ne i t (sym e))) (λ n. refl))
      ∙ xor_zero_r (bit_xor (at xs i) (at xs' i))

  own_pair' : (i : ℕ) → T (moves i) → touch z i (q, i) ≡ bit_xor (at xs i) (at xs' i)
  unfolding touch
  own_pair' i t =
      ap₂ bit_xor
      (by_eq (λ c. cond c (z q i) 0 ≡ 0) q i (λ e. absurd (moves_ne i t (sym e))) (λ n. refl))
      (by_eq (λ c. cond c (z q i) 0 ≡ bit_xor (at xs i) (at xs' i)) i i (λ e. z_own' i t) (λ n. absurd (n refl)))
      ∙ xor_zero_l (bit_xor (at xs i) (at xs' i))

  due : (i : ℕ) → T (moves i) → Due z list i xs xs'
  unfolding Due pull
  due i t = go (dec_lt i q)
    where
      go : Dec (i < q) → bit_xor (at xs i) (at xs' i) ≡ joined (map (touch z i) list)
      go (yes u) =
          sym (one_pair (touch z i) d once among i q u (omega arith) (λ a b v f. off_pair i t a b v f (λ e r. absurd (omega arith))) ∙ own_pair i t)
      go (no u) =
          let n : i ≢ q = moves_ne i t in
          let w : i < suc d = moves_in i t in
          sym
          (one_pair (touch z i) d once among q i (omega arith) w (λ a b v f. off_pair i t a b v (λ e r. absurd (omega arith)) (λ e r. f r e))
          ∙ own_pair' i t)

  abbrev moved : List ℕ → List ℕ
  moved ts = xors ts (moved_by z list)

  output_stays : (ts : List ℕ) (i : ℕ) → T (has os i) → at (pairs_refreshed list xs ts) i ≡ at (pairs_refreshed list xs' (moved ts)) i
  output_stays ts i o =
      by_if (λ c. at (pairs_refreshed list xs ts) i ≡ at (pairs_refreshed list xs' (moved ts)) i) (has kept i)
      (λ t. outputs_stay z (suc d) among i xs xs' ts l l'
      (due_quiet z (suc d) among i (quiet i t) xs xs' (all_has (λ i. at xs i ≡ at xs' i) same i t)))
      (λ t. let m : T (moves i) = unfold moves in and_both (has os i) (not (has kept i)) o t in
      outputs_stay z (suc d) among i xs xs' ts l l' (due i m))

  place_again : (ts : List ℕ) (k : ℕ) → T (has kept (seen list k)) → at (pairs_sheet list xs ts) k ≡ at (pairs_sheet list xs' (moved ts)) k
  place_again ts k t =
      place_stays z (suc d) among k xs xs' ts l l' (quiet (seen list k) t) (all_has (λ i. at xs i ≡ at xs' i) same (seen list k) t)

  moved_below : (width : ℕ) → ((i : ℕ) → at xs i < 2 ^ width) → ((i : ℕ) → at xs' i < 2 ^ width) → Below (2 ^ width) (moved_by z list)
  unfolding moved_by z
  moved_below width b b' =
      all_to_map _ (all_map (λ p h.
      route_lt moves q (λ i. bit_xor (at xs i) (at xs' i)) width (λ i. xor_lt width (at xs i) (at xs' i) (b i) (b' i)) p.0 p.1) among)

  moved_fits : length (moved_by z list) ≤ length list
  unfolding moved_by
  moved_fits = rw length-map (omega arith)

  -- the places ps and the shares os of the output stay, where no place sees share q and os has not q
  pub runs-coupled : (width : ℕ) → ((i : ℕ) → at xs i < 2 ^ width) → ((i : ℕ) → at xs' i < 2 ^ width)
      → Coupled width (length list) (Agree (bytes d) (3 * length list) ps (λ v. os))
      (λ ts. (pairs_sheet list xs ts, pairs_refreshed list xs ts)) (λ ts. (pairs_sheet list xs' ts, pairs_refreshed list xs' ts))
  runs-coupled width b b' =
      coupled_by width (length list) (Agree (bytes d) (3 * length list) ps (λ v. os)) _ _ (moved_by z list) moved_fits (moved_below width b b')
      (λ ts long. record {
        shown = all_map (λ k t. place_again ts k t) sees;
        alike = λ v. all_map (λ i t. output_stays ts i t) (has_all os);
        long = length-pairs_sheet list xs ts;
        long' = length-pairs_sheet list xs' (moved ts);
        fine = length-pairs_refreshed list xs ts ∙ l;
        fine' = length-pairs_refreshed list xs' (moved ts) ∙ l';
      })

-- ---- the statement: a refresh of a function of each share; a second input is not read

-- a share of f of each share
pub at_each : (f : ℕ → ℕ) (n : ℕ) (a a' : List ℕ) → length a ≡ n → length a' ≡ n → (i : ℕ) → i < n → at a i ≡ at a' i
    → at (map f a) i ≡ at (map f a') i
unfolding at
at_each f n a a' l l' i h e = at_map f a 0 i (omega arith) ∙ ap f e ∙ sym (at_map f a' 0 i (omega arith))

module _ (width : ℕ) (f : ℕ → ℕ) (f_lt : (x : ℕ) → f x < 2 ^ width) (d : ℕ) where
  map_below : (a : List ℕ) → Below (2 ^ width) (map f a)
  map_below [] = done
  map_below (x ∷ a) = f_lt x & map_below a

  module _ (list : List (ℕ × ℕ)) (once : EachOnce d list) (among : All (Pair (suc d)) list) where
    refresh_kept : (ps os : List ℕ) → Below (3 * length list) ps → Below (suc d) os → length ps + length os ≤ d
        → Kept width d (length list) (3 * length list) (λ a b ts. pairs_sheet list (map f a) ts) (λ a b ts. pairs_refreshed list (map f a) ts) ps os
    refresh_kept ps os below os_in few =
        let kept = map (seen list) ps in
        let kept_in : Below (suc d) kept = all_to_map (seen list) (all_map (λ p l. seen_lt d among p) below) in
        let (q, q_le, q_free) = miss d (os ++ kept) (simp (length-append, length-map) (omega arith)) in
        record {
          of_a = kept;
          of_b = [];
          few_a = rw length-map (omega arith);
          few_b = omega arith;
          in_a = kept_in;
          in_b = done;
          coupled = λ a a' b b' la la' lb lb' ka kb.
              runs-coupled d list once among ps os kept (all_of_map (seen list) ps (has_all kept)) os_in
              q q_le (all-front os kept q_free) (all_rest os kept q_free) (map f a) (map f a')
              (length-map a f ∙ la) (length-map a' f ∙ la') (all_with (λ i u e. at_each f (suc d) a a' la la' i u e) kept_in ka)
              width (at_below width (map_below a)) (at_below width (map_below a'));
        }

    pub refresh_gadget_by :
        Gadget width d (length list) (3 * length list) (λ a b ts. pairs_sheet list (map f a) ts) (λ a b ts. pairs_refreshed list (map f a) ts)
    refresh_gadget_by =
        record {
          sheet_surplus = λ a b ts us h. pairs_sheet-surplus list (map f a) ts us h;
          out_surplus = λ a b ts us h. pairs_refreshed-surplus list (map f a) ts us h;
          sheet_length = λ a b ts h. length-pairs_sheet list (map f a) ts;
          out_length = λ a b ts h. length-pairs_refreshed list (map f a) ts ∙ length-map a f ∙ h;
          sni = refresh_kept;
        }

  pub refresh_gadget :
      Gadget width d (refresh_need d) (refresh_count d) (λ a b ts. refresh_sheet d (map f a) ts) (λ a b ts. refreshed d (map f a) ts)
  unfolding refresh_need refresh_count refresh_sheet refreshed
  refresh_gadget = refresh_gadget_by (refresh_pairs d) (refresh_pairs_once d) (pairs_among d)
