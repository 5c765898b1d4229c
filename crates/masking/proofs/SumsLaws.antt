-- The running sums of a product's shares, which take in its terms row by row, in the order of the draws. Assumes nothing.
use mathlib.Core.Path.{◌≡◌, refl, sym, ap, ◌∙◌}
use mathlib.Core.List.{List}
use Prim.Native.Nat.{ℕ, zero, suc, ◌+◌, ◌-◌, ◌≤◌, ◌<◌}
use native.Mathlib.Omega.{arith}
use native.Mathlib.Numerals.{add-one}
use native.Mathlib.Decide.{dec_lt}
use lib.Bits.{bit_xor}
use lib.ListN.{length, drop, set}
use lib.Seq.{get_or-set_same, get_or-set_other}
use Rattle.xor.specs.Lists.{at, tab}
use Rattle.xor.specs.Pairs.{before_row}
use Rattle.xor.specs.Running.{running, behind_taken, row_taken}
use Rattle.xor.proofs.ListsLaws.{length-tab, at-tab, tab-at, tab_cong}
use Rattle.gf256.specs.Field.{times}
use Rattle.isw.specs.Place.{row, drawn, product}
use Rattle.isw.proofs.PlaceLaws.{skip-past, skip_before}
use Rattle.xor.specs.Writes.{front}
use Rattle.xor.proofs.RunningLaws.{length-behind, behind_cong}
use Rattle.xor.proofs.WriteLaws.{at_front}
use Rattle.masking.specs.Steps.{backs, starts, pairs_taken}
use Rattle.masking.proofs.TermsLaws.{r, row_draws, row-backs, product-rows}

pub length-starts : (a b : List ℕ) (n : ℕ) (o : List ℕ) → o ≡ starts a b n → length o ≡ n
length-starts a b n o e = ap length e ∙ length-tab _ _

-- on a row that holds the backs of the pairs
pub row_taken-backs : (a b tape : List ℕ) (i w : ℕ) (s y k o : List ℕ) → k ≡ front (tab (backs a b tape i) w) o
    → y ≡ row_taken i w (at tape) (at k) s → y ≡ pairs_taken a b tape i w s
unfolding row_taken
row_taken-backs a b tape i w s y k o e f =
    f ∙ ap (λ (y : List ℕ). set y i (running (at s i) (at tape) w))
    (behind_cong i (at k) (backs a b tape i) s w (λ m l. at_front (backs a b tape i) w m k o e l))

module _ (n : ℕ) (a b ts : List ℕ) where
  -- the sum of share k after q of its terms
  abbrev pub sum_of : (k q : ℕ) → ℕ
  sum_of k q = row times (at a) (at b) (drawn n ts) k q

  -- ---- one term more

  -- share i takes in the term of a share behind it
  sum_past : (i m s v : ℕ) → s ≡ sum_of i (i + m) → v ≡ r n a b ts i (i + 1 + m) → bit_xor s v ≡ sum_of i (i + suc m)
  unfolding row running
  sum_past i m s v e f =
      let x : i + suc m ≡ suc (i + m) = omega arith in
      let y : i + 1 + m ≡ suc (i + m) = omega arith in
      rw (x, skip-past i (i + m) (omega arith), e, f, y) refl

  -- share j takes in the term of a share before it
  sum_before : (i j s v : ℕ) → i < j → s ≡ sum_of j i → v ≡ r n a b ts j i → bit_xor s v ≡ sum_of j (i + 1)
  unfolding row running
  sum_before i j s v h e f = rw (add-one, skip_before j i h, e, f) refl

  -- ---- the running sums before row i: the shares before i have taken in all their terms, each other share the first i

  pub record Sums (i : ℕ) (sums : List ℕ) : Type 0 where
    pub whole : (k : ℕ) → k < i → at sums k ≡ sum_of k (n - 1)
    pub begun : (k : ℕ) → i ≤ k → k < n → at sums k ≡ sum_of k i

  -- before the first, each share has its start
  pub start_sum : (o : List ℕ) (k : ℕ) → o ≡ starts a b n → k < n → at o k ≡ sum_of k 0
  unfolding row running
  start_sum o k e l = rw e (at-tab (λ k. times (at a k) (at b k)) n k l)

  pub sums_start : (o : List ℕ) → o ≡ starts a b n → Sums 0 o
  sums_start o e = record {
    whole = λ k h. absurd (omega arith);
    begun = λ k h l. start_sum o k e l;
  }

  -- a row of w pairs, whose draws stand at the front of the tape
  module _ (i w : ℕ) (tape s : List ℕ) (x : n ≡ i + 1 + w) (f : tape ≡ drop (before_row n i) ts) (l : n ≤ length s) (g : Sums i s) where
    row_own : (m : ℕ) → m ≤ w → running (at s i) (at tape) m ≡ sum_of i (i + m)
    unfolding running
    row_own zero h =
        let e : i + 0 ≡ i = omega arith in
        rw e (g.begun i (omega arith) (omega arith))
    row_own (suc m) h = sum_past i m _ (at tape m) (row_own m (omega arith)) (row_draws n a b ts i m tape f)

    pub row_own_next : (m : ℕ) → m < w → running (at s i) (at tape) (m + 1) ≡ sum_of i (i + 1 + m)
    row_own_next m h =
        let e : i + (m + 1) ≡ i + 1 + m = omega arith in
        row_own (m + 1) (omega arith) ∙ ap (sum_of i) e

    abbrev after-pairs : (m : ℕ) → List ℕ
    after-pairs m = behind_taken i (backs a b tape i) s m

    -- the shares behind i after the first m pairs, and all others
    record RowSums (m : ℕ) (sums : List ℕ) : Type 0 where
      pub whole : (k : ℕ) → k < i → at sums k ≡ sum_of k (n - 1)
      pub taken : (k : ℕ) → i < k → k ≤ i + m → at sums k ≡ sum_of k (i + 1)
      pub begun : (k : ℕ) → i + m < k → k < n → at sums k ≡ sum_of k i

    row_pair : (m : ℕ) (o : List ℕ) → m < w → length o ≡ length s → RowSums m o
        → RowSums (suc m) (set o (i + 1 + m) (bit_xor (at o (i + 1 + m)) (backs a b tape i m)))
    unfolding at
    row_pair m o h q p = record {
      whole = λ k u. kept k (λ z. omega arith) ∙ p.whole k u;
      taken = λ k u v. elim (dec_lt k j) [
        | yes y ↦ kept k (λ z. omega arith) ∙ p.taken k u (omega arith)
        | no y ↦ let e : k ≡ j = omega arith in rw e new
      ];
      begun = λ k u v. kept k (λ z. omega arith) ∙ p.begun k (omega arith) v;
    }
      where
        j : ℕ
        j = i + 1 + m

        o' : List ℕ
        o' = set o j (bit_xor (at o j) (backs a b tape i m))

        kept : (k : ℕ) → (k ≡ j → ⊥) → at o' k ≡ at o k
        kept k z = get_or-set_other o j k _ 0 z

        new : at o' j ≡ sum_of j (i + 1)
        new =
            get_or-set_same o j _ 0 (omega arith)
            ∙ sum_before i j (at o j) (backs a b tape i m) (omega arith) (p.begun j (omega arith) (omega arith)) (row-backs n a b ts i m tape f)

    row-sums : (m : ℕ) → m ≤ w → RowSums m (after-pairs m)
    unfolding behind_taken
    row-sums zero h = record {
      whole = g.whole;
      taken = λ k u v. absurd (omega arith);
      begun = λ k u v. g.begun k (omega arith) v;
    }
    row-sums (suc m) h = row_pair m (after-pairs m) (omega arith) (length-behind i (backs a b tape i) s m) (row-sums m (omega arith))

    row_end : (o : List ℕ) (v : ℕ) → length o ≡ length s → v ≡ sum_of i (i + w) → RowSums w o → Sums (i + 1) (set o i v)
    unfolding at
    row_end o v q e p = record {
      whole = λ k u. elim (dec_lt k i) [
        | yes y ↦ kept k (λ z. omega arith) ∙ p.whole k y
        | no y ↦ let z : k ≡ i = omega arith in rw z new
      ];
      begun = λ k u v. kept k (λ z. omega arith) ∙ p.taken k (omega arith) (omega arith);
    }
      where
        kept : (k : ℕ) → (k ≡ i → ⊥) → at (set o i v) k ≡ at o k
        kept k z = get_or-set_other o i k v 0 z

        new : at (set o i v) i ≡ sum_of i (n - 1)
        new =
            let y : i + w ≡ n - 1 = omega arith in
            get_or-set_same o i v 0 (omega arith) ∙ e ∙ ap (sum_of i) y

    -- they are those before the next row
    pub row_taken-sums : Sums (i + 1) (pairs_taken a b tape i w s)
    unfolding row_taken
    row_taken-sums = row_end (after-pairs w) _ (length-behind i (backs a b tape i) s w) (row_own w (omega arith)) (row-sums w (omega arith))

-- ---- after all pairs, the sums are the product's shares: the last share has no row of its own

pub sums-all : (d : ℕ) (a b ts o : List ℕ) → length o ≡ suc d → Sums (suc d) a b ts d o → o ≡ product times d a b ts
sums-all d a b ts o l g =
    let f : ℕ → ℕ = λ k. row times (at a) (at b) (drawn (suc d) ts) k d in
    sym (rw l at (tab-at o)) ∙ tab_cong (at o) f (suc d) each ∙ product-rows d a b ts
  where
    each : (k : ℕ) → k < suc d → at o k ≡ row times (at a) (at b) (drawn (suc d) ts) k d
    each k h = elim (dec_lt k d) [
      | yes y ↦ let e : suc d - 1 ≡ d = omega arith in rw e at (g.whole k y)
      | no y ↦ let e : k ≡ d = omega arith in rw e (g.begun d (omega arith) (omega arith))
    ]
