-- A REFRESH WHOSE OUTPUT IS ALL SHOWN, of two inputs that join to one byte: any d places and all shares of the output are decided by as many shares
-- of the input as there are places, and by what they join to. Assumes nothing.
use mathlib.Core.Path.{◌≡◌, refl, sym, ap, ap₂, ◌∙◌}
use mathlib.Core.Logic.{◌≢◌}
use mathlib.Core.Bool.{cond, ◌||◌}
use mathlib.Core.List.{List, [], ◌∷◌, map}
use Prim.Native.Nat.{ℕ, zero, suc, ◌≤◌, ◌<◌}
use native.Mathlib.Omega.{arith}
use lib.Bits.{bit_xor}
use lib.Dec.{T, eqb}
use lib.ListN.{length, length-map}
use lib.Seq.{ext_get_or}
use Rattle.xor.specs.Lists.{at, All, done, ◌&◌, Below}
use Rattle.xor.specs.Sums.{joined}
use Rattle.xor.proofs.ListsLaws.{all_map, all_of_map, all_to_map, at_below}
use Rattle.xor.proofs.Tests.{by_eq}
use Rattle.xor.proofs.XorLaws.{xor_sums, xor_cancel}
use Rattle.isw.proofs.Missed.{miss}
use Rattle.refresh.specs.Refresh.{refresh_pairs, refreshed, refresh_need}
use Rattle.refresh.specs.Places.{refresh_sheet, refresh_count}
use Rattle.refresh.proofs.RefreshLaws.{refresh_joins}
use Rattle.gadgets.specs.Gadgets.{bytes}
use Rattle.gadgets.specs.Steps.{Agree}
use Rattle.gadgets.specs.Opening.{Opened, RefreshAsked}
use Rattle.gadgets.proofs.PicksLaws.{has, all_has, has_all}
use Rattle.gadgets.proofs.CouplingLaws.{coupled_known}
use Rattle.gadgets.proofs.EachOnceLaws.{pairs_among, refresh_pairs_once}
use Rattle.gadgets.proofs.RefreshStrong.{seen, seen_lt, runs-coupled}

-- ---- the numbers below n but q

others : (n q : ℕ) → List ℕ
others zero q = []
others (suc n) q = cond (eqb n q) (others n q) (n ∷ others n q)

others_ne : (n q : ℕ) → All (λ i. i ≢ q) (others n q)
unfolding others
others_ne zero q = done
others_ne (suc n) q = by_eq (λ c. All (λ i. i ≢ q) (cond c (others n q) (n ∷ others n q))) n q (λ u. others_ne n q) (λ u. u & others_ne n q)

others_in : (n q m : ℕ) → n ≤ m → Below m (others n q)
unfolding others
others_in zero q m h = done
others_in (suc n) q m h =
    by_eq (λ c. Below m (cond c (others n q) (n ∷ others n q))) n q (λ u. others_in n q m (omega arith)) (λ u. h & others_in n q m (omega arith))

others_has : (n q i : ℕ) → i < n → i ≢ q → T (has (others n q) i)
unfolding others has
others_has zero q i l ne = absurd (omega arith)
others_has (suc n) q i l ne =
    by_eq (λ c. T (has (cond c (others n q) (n ∷ others n q)) i)) n q (λ u. others_has n q i (omega arith) ne)
    (λ u. by_eq (λ c. T (c || has (others n q) i)) n i (λ v. tt) (λ v. others_has n q i (omega arith) ne))

-- ---- one share is what the others leave of the sum

own_left : (x y a b : ℕ) → a ≡ b → bit_xor x a ≡ bit_xor y b → x ≡ y
own_left x y a b p q = sym (out x a) ∙ ap₂ bit_xor q p ∙ out y b
  where
    out : (x a : ℕ) → bit_xor (bit_xor x a) a ≡ x
    out x a = simp xor_sums

rest_left : (x y a b : ℕ) → x ≡ y → bit_xor x a ≡ bit_xor y b → a ≡ b
rest_left x y a b p q = sym (xor_cancel x a) ∙ ap₂ bit_xor p q ∙ xor_cancel y b

one_left : (xs ys : List ℕ) (q : ℕ) → length xs ≡ length ys → ((i : ℕ) → i < length xs → i ≢ q → at xs i ≡ at ys i)
    → joined xs ≡ joined ys → xs ≡ ys
unfolding at joined
one_left [] [] q l h e = refl
one_left [] (y ∷ ys) q l h e = absurd (omega arith)
one_left (x ∷ xs) [] q l h e = absurd (omega arith)
one_left (x ∷ xs) (y ∷ ys) zero l h e =
    let t : xs ≡ ys = ext_get_or 0 xs ys (omega arith) (λ i u. h (suc i) (omega arith) (omega arith)) in
    ap₂ ◌∷◌ (own_left x y (joined xs) (joined ys) (ap joined t) e) t
one_left (x ∷ xs) (y ∷ ys) (suc q) l h e =
    let t : x ≡ y = h 0 (omega arith) (omega arith) in
    ap₂ ◌∷◌ t
    (one_left xs ys q (omega arith) (λ i u n. h (suc i) (omega arith) (omega arith)) (rest_left x y (joined xs) (joined ys) t e))

-- ---- the statement

module _ (width d : ℕ) (ps : List ℕ) where
  -- outputs that agree but in share q, of inputs that join to one byte, agree in all
  agreed_opened : (q : ℕ) (xs xs' ts ts' : List ℕ) → length xs ≡ suc d → length xs' ≡ suc d → joined xs ≡ joined xs'
      → Agree (bytes d) (refresh_count d) ps (λ v. others (suc d) q)
      (refresh_sheet d xs ts, refreshed d xs ts) (refresh_sheet d xs' ts', refreshed d xs' ts')
      → Opened (refresh_count d) ps (refresh_sheet d xs ts, refreshed d xs ts) (refresh_sheet d xs' ts', refreshed d xs' ts')
  agreed_opened q xs xs' ts ts' l l' e r =
      record {
        shown = r.shown;
        equal = one_left (refreshed d xs ts) (refreshed d xs' ts') q (r.fine ∙ sym r.fine')
            (λ i u n. all_has (λ i. at (refreshed d xs ts) i ≡ at (refreshed d xs' ts') i) (r.alike tt) i
            (others_has (suc d) q i (omega (arith, r.fine)) n))
            (refresh_joins d xs ts l ∙ e ∙ sym (refresh_joins d xs' ts' l'));
        long = r.long;
        long' = r.long';
      }

  pub refresh_opens : Below (refresh_count d) ps → length ps ≤ d → RefreshAsked width d ps
  unfolding refresh_count refresh_need refresh_sheet refreshed
  refresh_opens below few =
      let kept = map (seen (refresh_pairs d)) ps in
      let (q, q_le, q_kept) = miss d kept (rw length-map few) in
      record {
        of = kept;
        few = rw length-map (omega arith);
        inside = all_to_map (seen (refresh_pairs d)) (all_map (λ p l. seen_lt d (pairs_among d) p) below);
        coupled = λ xs xs' l l' b b' same e.
            coupled_known width (refresh_need d) (Agree (bytes d) (refresh_count d) ps (λ v. others (suc d) q)) (Opened (refresh_count d) ps)
            (λ ts. (refresh_sheet d xs ts, refreshed d xs ts)) (λ ts. (refresh_sheet d xs' ts, refreshed d xs' ts))
            (λ ts ts' t t' r. agreed_opened q xs xs' ts ts' l l' e r)
            (runs-coupled d (refresh_pairs d) (refresh_pairs_once d) (pairs_among d) ps (others (suc d) q) kept
            (all_of_map (seen (refresh_pairs d)) ps (has_all kept)) (others_in (suc d) q (suc d) (omega arith))
            q q_le (others_ne (suc d) q) q_kept xs xs' l l' same width (at_below width b) (at_below width b'));
      }
