-- The log and antilog tables: one test over each whole table, what it says of every entry, and the product that they give. Assumes nothing.
use Rattle.std.proofs.Common.{◌≡◌, ℕ, zero, suc, ◌+◌, ◌<◌, ◌≤◌, Bool, true, false, T, eqb, ltb, List, [], ◌∷◌, sym, refl, ap, ◌∙◌, subst}
use Rattle.std.proofs.Common.{ap₂, le_of_suc-le-suc, not-suc-le-zero, add-zero, add-suc, zero-lt-suc, suc-add, zero-add, div-one, arith}
use Rattle.std.proofs.Common.{lit<, eqb→eq, ltb→lt}
use Rattle.xor.specs.Lists.{at}
use Rattle.xor.specs.Digit.{if_set}
use Rattle.gf256.specs.Field.{doubled, times_from, times, power}
use Rattle.gf256.specs.FromTop.{from_top}
use Rattle.gf256.specs.Tables.{LogTable, AntilogTable, Tables, lent}
use Rattle.gf256.proofs.TableTest.{both, both_left, both_right, all, all-at}
use Rattle.gf256.proofs.ProductLaws.{times_assoc, times_lt, times_zero_l, times_zero_r, times_one_l}
use Rattle.gf256.proofs.ExponentLaws.{power-add}
use Rattle.gf256.proofs.FromTopLaws.{from_top-after-bit}

-- ---- antilogs: so many powers, and then zeros

-- the test that every entry is 0
unfoldable pub zeros : List ℕ → Bool
zeros [] = true
zeros (y ∷ ys) = both (eqb y 0) (zeros ys)

-- the test that the first entry is x and each next one 03 times the one before, for as many as are left, and zeros follow
unfoldable pub chain : (left x : ℕ) → List ℕ → Bool
chain zero x ys = zeros ys
chain (suc n) x [] = false
chain (suc n) x (y ∷ ys) = both (eqb y x) (chain n (times 3 y) ys)

zeros_at : (ys : List ℕ) → T (zeros ys) → (k : ℕ) → at ys k ≡ 0
unfolding zeros at
zeros_at [] t k = refl
zeros_at (y ∷ ys) t zero = eqb→eq y 0 (both_left (eqb y 0) (zeros ys) t)
zeros_at (y ∷ ys) t (suc k) = zeros_at ys (both_right (eqb y 0) (zeros ys) t) k

-- what the test says of the first entry, and of the rest
module _ (n i y : ℕ) (ys : List ℕ) (t : T (both (eqb y (power 3 i)) (chain n (times 3 y) ys))) where
  first_power : y ≡ power 3 i
  first_power = eqb→eq y (power 3 i) (both_left (eqb y (power 3 i)) (chain n (times 3 y) ys) t)

  rest_tested : T (chain n (power 3 (suc i)) ys)
  unfolding power
  rest_tested = subst (λ (x : ℕ). T (chain n (times 3 x) ys)) first_power (both_right (eqb y (power 3 i)) (chain n (times 3 y) ys) t)

chain_power : (n i : ℕ) (ys : List ℕ) → T (chain n (power 3 i) ys) → (k : ℕ) → k < n → at ys k ≡ power 3 (i + k)
unfolding chain at
chain_power zero i ys t k h = absurd (not-suc-le-zero h)
chain_power (suc n) i [] t k h = absurd t
chain_power (suc n) i (y ∷ ys) t zero h = first_power n i y ys t ∙ ap (power 3) (sym (add-zero i))
chain_power (suc n) i (y ∷ ys) t (suc k) h =
    chain_power n (suc i) ys (rest_tested n i y ys t) k (le_of_suc-le-suc h) ∙ ap (power 3) (suc-add i k ∙ sym (add-suc i k))

chain_zero : (n i : ℕ) (ys : List ℕ) → T (chain n (power 3 i) ys) → (k : ℕ) → n ≤ k → at ys k ≡ 0
unfolding chain at
chain_zero zero i ys t k h = zeros_at ys t k
chain_zero (suc n) i [] t k h = absurd t
chain_zero (suc n) i (y ∷ ys) t zero h = absurd (not-suc-le-zero h)
chain_zero (suc n) i (y ∷ ys) t (suc k) h = chain_zero n (suc i) ys (rest_tested n i y ys t) k (le_of_suc-le-suc h)

-- one test gives the rule at every entry
pub antilogs_tested : (ys : List ℕ) → T (chain 510 1 ys) → AntilogTable ys
unfolding power
antilogs_tested ys t = record {
  antilog_power = λ k h. chain_power 510 0 ys t k h ∙ ap (power 3) (zero-add k);
  antilog_zero = chain_zero 510 0 ys t;
}

-- ---- logs: that of 01 is 0, and each other byte's is one more than that of its third, which is f6 times the byte

-- the test of one log l, where that of the third is k
unfoldable pub step_right : (a l k : ℕ) → Bool
step_right a zero k = eqb a 1
step_right a (suc l) k = both (eqb k l) (ltb l 254)

-- the test of the byte i + 1
unfoldable pub one_right : (ls : List ℕ) (i : ℕ) → Bool
one_right ls i = step_right (suc i) (at ls (suc i)) (at ls (times 0xf6 (suc i)))

-- the test of the whole table
unfoldable pub logs_right : List ℕ → Bool
logs_right ls = both (eqb (at ls 0) 510) (all 255 (one_right ls))

unit : times 3 0xf6 ≡ 1
unfolding times times_from doubled if_set
unit = refl

third_back : (a : ℕ) → a < 256 → times 3 (times 0xf6 a) ≡ a
third_back a h = sym (times_assoc 3 0xf6 a) ∙ ap (λ (x : ℕ). times x a) unit ∙ times_one_l a h

third_pos : (a : ℕ) → 0 < a → a < 256 → 0 < times 0xf6 a
third_pos a p h = positive (times 0xf6 a) (third_back a h)
  where
    positive : (x : ℕ) → times 3 x ≡ a → 0 < x
    positive zero e = let z = times_zero_r 3 in absurd (omega arith)
    positive (suc k) e = zero-lt-suc k

module _ (ls : List ℕ) (t : T (all 255 (one_right ls))) where
  -- the test at a byte whose log is l
  tested : (a l : ℕ) → 0 < a → a < 256 → at ls a ≡ l → T (step_right a l (at ls (times 0xf6 a)))
  unfolding one_right
  tested zero l p h e = absurd (not-suc-le-zero p)
  tested (suc i) l p h e =
      subst (λ (x : ℕ). T (step_right (suc i) x (at ls (times 0xf6 (suc i))))) e (all-at (one_right ls) 255 t i (le_of_suc-le-suc h))

  -- a log is the exponent of its byte, by as many thirds as it counts
  log_power : (l a : ℕ) → 0 < a → a < 256 → at ls a ≡ l → (l < 255) × (power 3 l ≡ a)
  unfolding step_right power
  log_power zero a p h e = (lit< tt, sym (eqb→eq a 1 (tested a 0 p h e)))
  log_power (suc l) a p h e =
      let b = times 0xf6 a in
      let s = tested a (suc l) p h e in
      let k : at ls b ≡ l = eqb→eq (at ls b) l (both_left (eqb (at ls b) l) (ltb l 254) s) in
      let small : l < 254 = ltb→lt l 254 (both_right (eqb (at ls b) l) (ltb l 254) s) in
      (omega arith, ap (times 3) (log_power l b (third_pos a p h) (times_lt 0xf6 a) k).1 ∙ third_back a h)

-- one test gives the rule at every entry
pub logs_tested : (ls : List ℕ) → T (logs_right ls) → LogTable ls
unfolding logs_right
logs_tested ls t = record {
  log_zero = eqb→eq (at ls 0) 510 (both_left (eqb (at ls 0) 510) (all 255 (one_right ls)) t);
  log_byte = λ a p h. log_power ls (both_right (eqb (at ls 0) 510) (all 255 (one_right ls)) t) (at ls a) a p h refl;
}

-- ---- the product, of all bytes

log_table_of : {ls es : List ℕ} → Tables ls es → LogTable ls
log_table_of (lent l e) = l

pub antilog_table_of : {ls es : List ℕ} → Tables ls es → AntilogTable es
antilog_table_of (lent l e) = e

module _ {ls es : List ℕ} (tables : Tables ls es) where
  pub log_zero-of : at ls 0 ≡ 510
  log_zero-of = (log_table_of tables).log_zero

  pub log_of : (a : ℕ) → 0 < a → a < 256 → (at ls a < 255) × (power 3 (at ls a) ≡ a)
  log_of = (log_table_of tables).log_byte

  pub log_le : (a : ℕ) → a < 256 → at ls a ≤ 510
  log_le zero h = omega (arith, log_zero-of)
  log_le (suc i) h = omega (arith, (log_of (suc i) (zero-lt-suc i) h).0)

  -- the antilog of the sum of two logs is the product, a zero factor included
  pub table_product : (a b : ℕ) → a < 256 → b < 256 → at es (at ls a + at ls b) ≡ times a b
  table_product zero b ha hb =
      (antilog_table_of tables).antilog_zero (at ls 0 + at ls b) (omega (arith, log_zero-of)) ∙ sym (times_zero_l b)
  table_product (suc i) zero ha hb =
      (antilog_table_of tables).antilog_zero (at ls (suc i) + at ls 0) (omega (arith, log_zero-of)) ∙ sym (times_zero_r (suc i))
  table_product (suc i) (suc j) ha hb =
      let p = log_of (suc i) (zero-lt-suc i) ha in
      let q = log_of (suc j) (zero-lt-suc j) hb in
      (antilog_table_of tables).antilog_power (at ls (suc i) + at ls (suc j)) (omega arith)
      ∙ power-add 3 (at ls (suc i)) (at ls (suc j))
      ∙ ap₂ times p.1 q.1

  -- it is the product from the top bit, step by step as the code of `times` has it
  pub table_product-from_top : (a b : ℕ) → a < 256 → b < 256 → at es (at ls a + at ls b) ≡ from_top 8 a b
  table_product-from_top a b ha hb =
      table_product a b ha hb ∙ sym (from_top-after-bit a b 0 ha hb (omega arith) ∙ ap (times a) (div-one b))
