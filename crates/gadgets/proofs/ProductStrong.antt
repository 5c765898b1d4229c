-- STRONG NON-INTERFERENCE OF THE MASKED PRODUCT. Besides the listed places some outputs are to stay: the last sums of the rows in a list `os`.
-- Places and outputs together are at most d; the shares of a and b that must stay are as many as the places, whatever the outputs.
-- An output whose row no place opens is kept by the draw of its row and one row q, which no place and no output sees. Assumes nothing.
use mathlib.Core.Path.{◌≡◌, refl, sym, ap, ◌∙◌}
use mathlib.Core.Logic.{◌≢◌}
use mathlib.Core.Bool.{Bool, cond, not, ◌&&◌}
use mathlib.Core.List.{List, ◌++◌, map}
use Prim.Native.Nat.{ℕ, suc, ◌+◌, ◌^◌, ◌≤◌, ◌<◌}
use native.Mathlib.Omega.{arith}
use lib.Bits.{bit_xor, xor_zero_r, xor_lt}
use lib.Dec.{T, ltb, eqb}
use lib.ListN.{length, length-map, length-append}
use Rattle.xor.specs.Lists.{at, All, Below}
use Rattle.xor.specs.Pairs.{each_pair}
use Rattle.xor.specs.Running.{running}
use Rattle.xor.specs.Sums.{xors}
use Rattle.xor.proofs.ListsLaws.{all_map, all_of_map, all_to_map, all_with, all-front, all_rest, at_map}
use Rattle.xor.proofs.PairsLaws.{length-each_pair, all-each_pair}
use Rattle.xor.proofs.RunningLaws.{running_lt}
use Rattle.xor.proofs.Tests.{by_lt, by_eq, by_if, not_both, and_both, and_left, and_right}
use Rattle.xor.proofs.XorLaws.{xor_sums, xor_assoc, xor_cancel}
use Rattle.isw.specs.Place.{Place, left, right, draw, cross, half, back, part, skip, half_sum, other, term, row, byte, places, place_count}
use Rattle.isw.specs.Place.{drawn, product_need, value, sheet, product}
use Rattle.isw.proofs.PlaceLaws.{Within, length-places}
use Rattle.isw.proofs.OrderLaws.{drawn_moved}
use Rattle.isw.proofs.Missed.{miss}
use Rattle.isw.proofs.Unseen.{opens, seen_a, seen_b, kept_rows, change, correction, row_same, opened, known, seen_both, unseen}
use Rattle.isw.proofs.Hiding.{pick_lt, named, named_within}
use Rattle.isw.proofs.SheetLaws.{length-sheet, length-product, product_at, sheet_surplus, product-surplus}
use Rattle.gadgets.specs.Steps.{Agree}
use Rattle.gadgets.specs.Gadgets.{bytes, Gadget, Kept}
use Rattle.gadgets.proofs.PicksLaws.{has, all_has, has_all}
use Rattle.gadgets.proofs.CouplingLaws.{coupled_by}
use Rattle.gadgets.proofs.RouteLaws.{route, route_off, route_own, route_sym, route_lt, running_differ, row_routed, row_still}

seen_a_lt : {n : ℕ} (p : Place) → Within n p → seen_a p < n
unfolding seen_a
seen_a_lt (left i) w = w
seen_a_lt (right i) w = w
seen_a_lt (draw i j) w = omega arith
seen_a_lt (cross i j) w = w.0
seen_a_lt (half i j) w = omega arith
seen_a_lt (back i j) w = w.1
seen_a_lt (part i k) w = w.0

-- ---- the shares stay and the draws move

in_third : (x z u v : ℕ) → bit_xor (bit_xor (bit_xor x z) u) v ≡ bit_xor (bit_xor (bit_xor x u) v) z
in_third x z u v = simp xor_sums

-- of the places that no row holds only `half i j` needs its draw to stay
abbrev Calm : (z : ℕ → ℕ → ℕ) → Place → Type 0
Calm z (left i) = Unit {0}
Calm z (right i) = Unit {0}
Calm z (draw i j) = Unit {0}
Calm z (cross i j) = Unit {0}
Calm z (half i j) = z i j ≡ 0
Calm z (back i j) = Unit {0}
Calm z (part i k) = Unit {0}

module _ (op : ℕ → ℕ → ℕ) (d : ℕ) (a b : ℕ → ℕ) (r r' z : ℕ → ℕ → ℕ) (kz : (i j : ℕ) → i ≢ j → z i j ≡ z j i)
    (kr : (i j : ℕ) → i < j → j < suc d → r' i j ≡ bit_xor (r i j) (z i j)) where
  draw_still : (i j : ℕ) → i < j → j < suc d → z i j ≡ 0 → r i j ≡ r' i j
  draw_still i j l h e = sym (kr i j l h ∙ ap (bit_xor (r i j)) e ∙ xor_zero_r (r i j))

  other_shift : (i j : ℕ) → i < j → j < suc d → other op a b r' i j ≡ bit_xor (other op a b r i j) (z i j)
  unfolding other half_sum
  other_shift i j l h =
      ap (λ (x : ℕ). bit_xor (bit_xor x (op (a i) (b j))) (op (a j) (b i))) (kr i j l h) ∙ in_third (r i j) (z i j) (op (a i) (b j)) (op (a j) (b i))

  term_shift : (i j : ℕ) → i < suc d → j < suc d → i ≢ j → term op a b r' i j ≡ bit_xor (term op a b r i j) (z i j)
  unfolding term
  term_shift i j hi hj ne =
      by_lt (λ c. cond c (r' i j) (other op a b r' j i) ≡ bit_xor (cond c (r i j) (other op a b r j i)) (z i j)) i j
      (λ l. kr i j l hj)
      (λ l. other_shift j i (omega arith) hi ∙ ap (bit_xor (other op a b r j i)) (kz j i (λ e. ne (sym e))))

  term_still : (i j : ℕ) → i < suc d → j < suc d → i ≢ j → z i j ≡ 0 → term op a b r i j ≡ term op a b r' i j
  term_still i j hi hj ne e = sym (term_shift i j hi hj ne ∙ ap (bit_xor (term op a b r i j)) e ∙ xor_zero_r (term op a b r i j))

  row_calm : (i k : ℕ) → i < suc d → k < suc d → ((j : ℕ) → i ≢ j → z i j ≡ 0) → row op a b r i k ≡ row op a b r' i k
  unfolding row
  row_calm i k hi hk e =
      row_still d i _ k (term op a b r i) (term op a b r' i) (omega arith) (omega arith) (λ j hj ne. term_still i j hi (omega arith) ne (e j ne))

  row_moved : (i q e : ℕ) → i < suc d → q < suc d → i ≢ q → z i q ≡ e → ((j : ℕ) → i ≢ j → j ≢ q → z i j ≡ 0)
      → bit_xor (row op a b r i d) e ≡ row op a b r' i d
  unfolding row
  row_moved i q e hi hq ne own off =
      row_routed d i q _ e (term op a b r i) (term op a b r' i) (omega arith) (omega arith) ne
      (term_shift i q hi hq ne ∙ ap (bit_xor (term op a b r i q)) own)
      (λ j hj n m. term_still i j hi (omega arith) n (off j n m))

  byte_still : (p : Place) → Within (suc d) p → (T (opens p) → (j : ℕ) → seen_a p ≢ j → z (seen_a p) j ≡ 0) → Calm z p
      → byte op a b r p ≡ byte op a b r' p
  unfolding opens seen_a byte half_sum
  byte_still (left i) w o h = refl
  byte_still (right i) w o h = refl
  byte_still (draw i j) w o h = draw_still i j w.0 w.1 (o tt j (omega arith))
  byte_still (cross i j) w o h = refl
  byte_still (half i j) w o h = ap (λ (x : ℕ). bit_xor x (op (a i) (b j))) (draw_still i j w.0 w.1 h)
  byte_still (back i j) w o h =
      sym
      (other_shift i j w.0 w.1
      ∙ ap (bit_xor (other op a b r i j)) (kz i j (omega arith) ∙ o tt i (omega arith))
      ∙ xor_zero_r (other op a b r i j))
  byte_still (part i k) w o h = row_calm i k w.0 w.1 (o tt)

-- ---- what a row changes by, where the shares move and the draws by the correction

apart_back : (r c u v u' v' : ℕ)
    → bit_xor (bit_xor (bit_xor r u) v) (bit_xor (bit_xor (bit_xor r c) u') v') ≡ bit_xor c (bit_xor (bit_xor u u') (bit_xor v v'))
apart_back r c u v u' v' = simp xor_sums

over : (x y e : ℕ) → bit_xor x y ≡ e → x ≡ bit_xor y e
over x y e h = rw (← h) (simp xor_sums)

module _ (op : ℕ → ℕ → ℕ) (s : ℕ → Bool) (a a' b b' : ℕ → ℕ) where
  -- what r(i, j) changes by, for j < i
  abbrev back_moved : (i j : ℕ) → ℕ
  back_moved i j = bit_xor (correction op s a a' b b' j i) (bit_xor (change op a a' b b' j i) (change op a a' b b' i j))

  -- and for any i and j that differ
  unfoldable moved : (i j : ℕ) → ℕ
  moved i j = cond (ltb i j) (correction op s a a' b b' i j) (back_moved i j)

  -- what the whole row changes by
  unfoldable gap : (d i : ℕ) → ℕ
  gap d i = running (change op a a' b b' i i) (λ m. moved i (skip i m)) d

  -- the draws after that
  unfoldable first : (r : ℕ → ℕ → ℕ) (i j : ℕ) → ℕ
  first r i j = bit_xor (r i j) (correction op s a a' b b' i j)

  term_change : (r : ℕ → ℕ → ℕ) (i j : ℕ) → bit_xor (term op a b r i j) (term op a' b' (first r) i j) ≡ moved i j
  unfolding term moved first other half_sum change
  term_change r i j =
      by_lt (λ c. bit_xor (cond c (r i j) (other op a b r j i)) (cond c (first r i j) (other op a' b' (first r) j i))
      ≡ cond c (correction op s a a' b b' i j) (back_moved i j)) i j
      (λ l. xor_cancel (r i j) _) (λ l. apart_back (r j i) _ _ _ _ _)

  gap_row : (r : ℕ → ℕ → ℕ) (d i : ℕ) → row op a b r i d ≡ bit_xor (row op a' b' (first r) i d) (gap d i)
  unfolding row gap change
  gap_row r d i = over _ _ _ (running_differ _ _ _ _ (λ m. moved i (skip i m)) d (λ m l. term_change r i (skip i m)))

  module _ (w : ℕ) (closed : (x y : ℕ) → op x y < 2 ^ w) where
    change_lt : (i j : ℕ) → change op a a' b b' i j < 2 ^ w
    unfolding change
    change_lt i j = xor_lt w _ _ (closed _ _) (closed _ _)

    correction_lt : (i j : ℕ) → correction op s a a' b b' i j < 2 ^ w
    unfolding correction
    correction_lt i j = pick_lt w (s i) (s j) _ _ (change_lt i j) (change_lt j i)

    moved_lt : (i j : ℕ) → moved i j < 2 ^ w
    unfolding moved
    moved_lt i j =
        by_lt (λ c. cond c (correction op s a a' b b' i j) (back_moved i j) < 2 ^ w) i j
        (λ l. correction_lt i j) (λ l. xor_lt w _ _ (correction_lt j i) (xor_lt w _ _ (change_lt j i) (change_lt i j)))

    gap_lt : (d i : ℕ) → gap d i < 2 ^ w
    unfolding gap
    gap_lt d i = running_lt w _ _ d (change_lt i i) (λ m l. moved_lt i (skip i m))

-- ---- the row that takes up what the outputs change by

-- one share for each place: of `half i j` the one that is no output, or j where i is one
unfoldable blocks : (os : List ℕ) → Place → ℕ
blocks os (left i) = i
blocks os (right i) = i
blocks os (draw i j) = i
blocks os (cross i j) = i
blocks os (half i j) = cond (has os i) j i
blocks os (back i j) = j
blocks os (part i k) = i

blocks_row : (os : List ℕ) (q : ℕ) (p : Place) → blocks os p ≢ q → T (opens p) → seen_a p ≢ q
unfolding blocks opens seen_a
blocks_row os q (left i) h o = h
blocks_row os q (right i) h o = h
blocks_row os q (draw i j) h o = h
blocks_row os q (cross i j) h o = absurd o
blocks_row os q (half i j) h o = absurd o
blocks_row os q (back i j) h o = h
blocks_row os q (part i k) h o = h

seen_b_lt : {n : ℕ} (s : ℕ → Bool) (p : Place) → Within n p → seen_b s p < n
unfolding seen_b
seen_b_lt s (left i) w = w
seen_b_lt s (right i) w = w
seen_b_lt s (draw i j) w = omega arith
seen_b_lt s (cross i j) w = w.1
seen_b_lt {n} s (half i j) w = by_if (λ c. cond c j i < n) (s i) (λ t. w.1) (λ t. omega arith)
seen_b_lt s (back i j) w = w.1
seen_b_lt s (part i k) w = w.0

-- 1 at q, and 0 elsewhere
mark : (q x : ℕ) → ℕ
mark q x = cond (eqb x q) 1 0

marked : (x q : ℕ) → x ≢ q → mark q x ≡ 0
unfolding mark
marked x q n = by_eq (λ c. ◌≡◌ {A = ℕ} (cond c 1 0) 0) x q (λ e. absurd (n e)) (λ m. refl)

unmarked : (x q : ℕ) → mark q x ≡ 0 → x ≢ q
unfolding mark
unmarked x q = by_eq (λ c. ◌≡◌ {A = ℕ} (cond c 1 0) 0 → x ≢ q) x q (λ e z. let one : ◌≡◌ {A = ℕ} 1 0 = z in absurd (omega arith)) (λ n z. n)

module _ (op : ℕ → ℕ → ℕ) (d : ℕ) (ps : List Place) (os : List ℕ) (within : All (Within (suc d)) ps) (os_in : All (λ i. i < suc d) os)
    (q : ℕ) (q_le : q ≤ d) (q_os : All (λ x. x ≢ q) os) (q_ps : All (λ p. blocks os p ≢ q) ps) where
  -- the outputs whose rows no place opens
  moves : ℕ → Bool
  moves i = has os i && not (kept_rows ps i)

  moves_ne : (i : ℕ) → T (moves i) → i ≢ q
  unfolding moves
  moves_ne i t = all_has (λ x. x ≢ q) q_os i (and_left (has os i) (not (kept_rows ps i)) t)

  moves_shut : {P : Type 0} (i : ℕ) → T (kept_rows ps i) → T (moves i) → P
  unfolding moves
  moves_shut i t m = not_both (kept_rows ps i) (and_right (has os i) (not (kept_rows ps i)) m) t

  rows_ne : (i : ℕ) → T (kept_rows ps i) → i ≢ q
  rows_ne i t = unmarked i q (known (mark q) (λ x. 0) (all_map (λ p n o. marked (seen_a p) q (blocks_row os q p n o)) q_ps) i t)

  module _ (D : ℕ → ℕ) where
    kept_off : (i : ℕ) → T (kept_rows ps i) → (j : ℕ) → route moves q D i j ≡ 0
    kept_off i t j = route_off moves q D i j (λ m. moves_shut i t m) (λ m. rows_ne i t)

    calm : (p : Place) → blocks os p ≢ q → Calm (route moves q D) p
    unfolding blocks moves
    calm (left i) h = tt
    calm (right i) h = tt
    calm (draw i j) h = tt
    calm (cross i j) h = tt
    calm (half i j) h =
        route_off moves q D i j
        (λ m. by_if (λ c. cond c j i ≢ q → j ≢ q) (has os i)
        (λ t n. n) (λ t n. not_both (has os i) t (and_left (has os i) (not (kept_rows ps i)) m)) h)
        (λ m. by_if (λ c. cond c j i ≢ q → i ≢ q) (has os i) (λ t n. all_has (λ x. x ≢ q) q_os i t) (λ t n. n) h)
    calm (back i j) h = tt
    calm (part i k) h = tt

  module _ (a a' b b' : ℕ → ℕ) (ka : All (λ p. a (seen_a p) ≡ a' (seen_a p)) ps)
      (kb : All (λ p. b (seen_b (kept_rows ps) p) ≡ b' (seen_b (kept_rows ps) p)) ps) where
    abbrev z : (i j : ℕ) → ℕ
    z = route moves q (gap op (kept_rows ps) a a' b b' d)

    shift : (i j : ℕ) → ℕ
    shift i j = bit_xor (correction op (kept_rows ps) a a' b b' i j) (z i j)

    module _ (r r' : ℕ → ℕ → ℕ) (kr : (i j : ℕ) → i < j → j < suc d → r' i j ≡ bit_xor (r i j) (shift i j)) where
      abbrev r₁ : (i j : ℕ) → ℕ
      r₁ = first op (kept_rows ps) a a' b b' r

      kr₁ : (i j : ℕ) → i < j → j < suc d → r₁ i j ≡ bit_xor (r i j) (correction op (kept_rows ps) a a' b b' i j)
      unfolding first
      kr₁ i j l h = refl

      kr₂ : (i j : ℕ) → i < j → j < suc d → r' i j ≡ bit_xor (r₁ i j) (z i j)
      unfolding first shift
      kr₂ i j l h = kr i j l h ∙ sym (xor_assoc (r i j) (correction op (kept_rows ps) a a' b b' i j) (z i j))

      Still : Place → Type 0
      Still p = byte op a' b' r₁ p ≡ byte op a' b' r' p

      still : (p : Place) → (T (opens p) → T (kept_rows ps (seen_a p))) → Within (suc d) p → blocks os p ≢ q → Still p
      unfolding Still
      still p o w n = byte_still op d a' b' r₁ r' z (route_sym moves q _) kr₂ p w (λ t j m. kept_off _ (seen_a p) (o t) j) (calm _ p n)

      places_stay : All (λ p. byte op a b r p ≡ byte op a' b' r' p) ps
      unfolding Still
      places_stay =
          let all-still : All Still ps = all_with (λ p f n. f n) (all_with still (opened ps) within) q_ps in
          all_with (λ p e f. e ∙ f) (unseen op (suc d) ps a a' b b' r r₁ within ka kb kr₁) all-still

      output_stays : (i : ℕ) → T (has os i) → i < suc d → row op a b r i d ≡ row op a' b' r' i d
      output_stays i t hi =
          by_if (λ c. row op a b r i d ≡ row op a' b' r' i d) (kept_rows ps i)
          (λ s. row_same op (suc d) (kept_rows ps) a a' b b' r r₁
          (known a a' (all_map (λ p e o. e) ka)) (known b b' (all_map (seen_both (kept_rows ps) b b') kb)) kr₁ i d hi (omega arith) s
          ∙ row_calm op d a' b' r₁ r' z (route_sym moves q _) kr₂ i d hi (omega arith) (λ j ne. kept_off _ i s j))
          (λ s. let m : T (moves i) = unfold moves in and_both (has os i) (not (kept_rows ps i)) t s in
          gap_row op (kept_rows ps) a a' b b' r d i
          ∙ row_moved op d a' b' r₁ r' z (route_sym moves q _) kr₂ i q _ hi (omega arith) (moves_ne i m) (route_own moves q _ i m)
          (λ j n e. route_off moves q _ i j (λ u. e) (λ u. moves_ne i m)))

      outputs_stay : All (λ i. row op a b r i d ≡ row op a' b' r' i d) os
      outputs_stay = all_with (λ i t h. output_stays i t h) (has_all os) os_in

    shift_below : (w : ℕ) → ((x y : ℕ) → op x y < 2 ^ w) → Below (2 ^ w) (each_pair (suc d) shift)
    unfolding shift
    shift_below w closed =
        all-each_pair (suc d) shift (λ i j l u.
        xor_lt w _ _ (correction_lt op (kept_rows ps) a a' b b' w closed i j)
        (route_lt moves q _ w (gap_lt op (kept_rows ps) a a' b b' w closed d) i j))

-- ---- the statement

module _ (width : ℕ) (op : ℕ → ℕ → ℕ) (closed : (x y : ℕ) → op x y < 2 ^ width) (d : ℕ) where
  -- places by name, and outputs, on the lists
  shown_again : (a a' b b' ts ts' ps : List ℕ) → Below (place_count d) ps
      → All (λ p. byte op (at a) (at b) (drawn (suc d) ts) p ≡ byte op (at a') (at b') (drawn (suc d) ts') p) (named d ps)
      → All (λ p. at (sheet op d a b ts) p ≡ at (sheet op d a' b' ts') p) ps
  unfolding named sheet value
  shown_again a a' b b' ts ts' ps below h =
      all_with (λ p l e.
      let u : p < length (places (suc d)) = rw (length-places d) l in
      at_map _ (places (suc d)) (left 0) p u ∙ e ∙ sym (at_map _ (places (suc d)) (left 0) p u)) below (all_of_map _ ps h)

  made_again : (a a' b b' ts ts' os : List ℕ) → Below (suc d) os
      → All (λ i. row op (at a) (at b) (drawn (suc d) ts) i d ≡ row op (at a') (at b') (drawn (suc d) ts') i d) os
      → All (λ i. at (product op d a b ts) i ≡ at (product op d a' b' ts') i) os
  unfolding value byte
  made_again a a' b b' ts ts' os os_in h =
      all_with (λ i l e. product_at op d a b ts i (omega arith) ∙ e ∙ sym (product_at op d a' b' ts' i (omega arith))) os_in h

  length_named : (ns : List ℕ) → length (named d ns) ≡ length ns
  unfolding named
  length_named ns = length-map ns _

  moves_fit : (c : ℕ → ℕ → ℕ) → length (each_pair (suc d) c) ≤ product_need d
  unfolding product_need
  moves_fit c = omega (arith, length-each_pair (suc d) c)

  product_kept : (ns os : List ℕ) → Below (place_count d) ns → Below (suc d) os → length ns + length os ≤ d
      → Kept width d (product_need d) (place_count d) (sheet op d) (product op d) ns os
  product_kept ns os below os_in few =
      let ps = named d ns in
      let within = named_within d below in
      let short : length ps ≡ length ns = length_named ns in
      let (q, q_le, q_free) = miss d (os ++ map (blocks os) ps) (simp (length-append, length-map) (omega arith)) in
      let q_os = all-front os (map (blocks os) ps) q_free in
      let q_ps = all_of_map (blocks os) ps (all_rest os (map (blocks os) ps) q_free) in
      record {
        of_a = map seen_a ps;
        of_b = map (seen_b (kept_rows ps)) ps;
        few_a = rw length-map (omega arith);
        few_b = rw length-map (omega arith);
        in_a = all_to_map seen_a (all_map seen_a_lt within);
        in_b = all_to_map (seen_b (kept_rows ps)) (all_map (seen_b_lt (kept_rows ps)) within);
        coupled = λ a a' b b' la la' lb lb' ka kb.
            let ka' = all_of_map seen_a ps ka in
            let kb' = all_of_map (seen_b (kept_rows ps)) ps kb in
            let move = shift op d ps os within os_in q q_le q_os q_ps (at a) (at a') (at b) (at b') ka' kb' in
            let es = each_pair (suc d) move in
            coupled_by width (product_need d) (Agree (bytes d) (place_count d) ns (λ v. os))
            (λ ts. (sheet op d a b ts, product op d a b ts)) (λ ts. (sheet op d a' b' ts, product op d a' b' ts)) es (moves_fit move)
            (shift_below op d ps os within os_in q q_le q_os q_ps (at a) (at a') (at b) (at b') ka' kb' width closed)
            (λ ts long.
            let kr = drawn_moved (suc d) ts move in
            record {
              shown = shown_again a a' b b' ts (xors ts es) ns below
                  (places_stay op d ps os within os_in q q_le q_os q_ps (at a) (at a') (at b) (at b') ka' kb' _ _ kr);
              alike = λ v. made_again a a' b b' ts (xors ts es) os os_in
                  (outputs_stay op d ps os within os_in q q_le q_os q_ps (at a) (at a') (at b) (at b') ka' kb' _ _ kr);
              long = length-sheet op d a b ts;
              long' = length-sheet op d a' b' (xors ts es);
              fine = length-product op d a b ts;
              fine' = length-product op d a' b' (xors ts es);
            });
      }

  pub product_gadget : Gadget width d (product_need d) (place_count d) (sheet op d) (product op d)
  product_gadget =
      record {
        sheet_surplus = λ a b ts us h. sheet_surplus op d a b ts us h;
        out_surplus = λ a b ts us h. product-surplus op d a b ts us h;
        sheet_length = λ a b ts h. length-sheet op d a b ts;
        out_length = λ a b ts h. length-product op d a b ts;
        sni = product_kept;
      }
