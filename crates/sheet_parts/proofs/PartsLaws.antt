-- The table in which a sheet gathers the running sums: row by row each comes to its place, and at the end its rows are those of the sheet.
-- Assumes nothing.
use mathlib.Core.Path.{◌≡◌, refl, sym, ap, ap₂, ◌∙◌}
use mathlib.Core.List.{List, ◌++◌, map}
use Prim.Native.Nat.{ℕ, zero, suc, ◌+◌, ◌*◌, ◌-◌, ◌≤◌, ◌<◌}
use native.Mathlib.Omega.{arith}
use native.Mathlib.Numerals.{add-one}
use native.Mathlib.Decide.{dec_lt}
use lib.ListN.{length, take, drop, set, length-set, length-drop}
use lib.Seq.{get_or-set_same, get_or-set_other, get_or-take, get_or-drop, length-take-le}
use Rattle.xor.specs.Lists.{at, runs, tab}
use Rattle.xor.specs.Pairs.{before_row}
use Rattle.xor.specs.Running.{running, owns}
use Rattle.xor.proofs.ListsLaws.{runs_cong, tab_cong, tab-at, length_runs, length-tab, map_runs, map-tab}
use Rattle.gf256.specs.Field.{times}
use Rattle.isw.specs.Place.{part, byte, row_places, drawn}
use Rattle.xor.specs.Writes.{front}
use Rattle.xor.proofs.WriteLaws.{at_front}
use Rattle.masking.specs.Steps.{starts, pairs_taken}
use Rattle.sheet_parts.specs.Parts.{sums_before, starts_put, row_put, table_rows}
use Rattle.masking.proofs.SumsLaws.{start_sum, sum_of, Sums, sums_start, row_own_next, row_taken-sums}

-- ---- the starts

module _ (f : ℕ → ℕ) (t : List ℕ) where
  pub starts_put-more : (k v : ℕ) (y : List ℕ) → y ≡ starts_put f t k → v ≡ f k → set y (k * 9) v ≡ starts_put f t (k + 1)
  unfolding starts_put
  starts_put-more k v y e g = rw (e, g, add-one) refl

  length-starts_put : (k : ℕ) → length (starts_put f t k) ≡ length t
  unfolding starts_put
  length-starts_put zero = refl
  length-starts_put (suc k) = length-set (starts_put f t k) (k * 9) (f k) ∙ length-starts_put k

-- ---- a row

module _ (i : ℕ) (f g : ℕ → ℕ) (t : List ℕ) where
  pub row_put-more : (m u v : ℕ) (y : List ℕ) → y ≡ row_put i f g t m → u ≡ f m → v ≡ g (i + 1 + m)
      → set (set y (i * 9 + (i + 1 + m)) u) ((i + 1 + m) * 9 + (i + 1)) v ≡ row_put i f g t (m + 1)
  unfolding row_put
  row_put-more m u v y e d h = rw (e, d, h, add-one m) refl

  length-row_put : (m : ℕ) → length (row_put i f g t m) ≡ length t
  unfolding row_put
  length-row_put zero = refl
  length-row_put (suc m) =
      length-set (set (row_put i f g t m) (i * 9 + (i + 1 + m)) (f m)) ((i + 1 + m) * 9 + (i + 1)) (g (i + 1 + m))
      ∙ length-set (row_put i f g t m) (i * 9 + (i + 1 + m)) (f m)
      ∙ length-row_put m

row_put_cong : (i : ℕ) (f f' g : ℕ → ℕ) (t : List ℕ) (w : ℕ) → ((m : ℕ) → m < w → f m ≡ f' m) → row_put i f g t w ≡ row_put i f' g t w
unfolding row_put
row_put_cong i f f' g t zero h = refl
row_put_cong i f f' g t (suc w) h =
    ap₂ (λ (y : List ℕ) (v : ℕ). set (set y (i * 9 + (i + 1 + w)) v) ((i + 1 + w) * 9 + (i + 1)) (g (i + 1 + w)))
    (row_put_cong i f f' g t w (λ m l. h m (omega arith))) (h w (omega arith))

-- from a row that holds share i's own sums
pub row_put-owns : (tape s : List ℕ) (i w : ℕ) (g : ℕ → ℕ) (t y k o : List ℕ) → k ≡ front (owns tape s i w) o → y ≡ row_put i (at k) g t w
    → y ≡ row_put i (λ m. running (at s i) (at tape) (m + 1)) g t w
row_put-owns tape s i w g t y k o e f = f ∙ row_put_cong i (at k) _ g t w (λ m l. at_front (λ m. running (at s i) (at tape) (m + 1)) w m k o e l)

-- ---- the sums of n shares at their places

module _ (n : ℕ) (a b ts : List ℕ) where
  -- that of share k after q terms is in the table
  abbrev pub In : (table : List ℕ) (k q : ℕ) → Type 0
  In t k q = at t (k * 9 + q) ≡ sum_of n a b ts k q

  -- before row i: all sums of the shares before i, of each other those up to its first i terms
  pub record PartsBefore (i : ℕ) (table : List ℕ) : Type 0 where
    pub whole : (k q : ℕ) → k < i → q < n → In table k q
    pub begun : (k q : ℕ) → i ≤ k → k < n → q ≤ i → In table k q

module _ (n : ℕ) (a b ts : List ℕ) (few : n ≤ 9) where
  module _ (t : List ℕ) (k q v : ℕ) (room : length t ≡ 81) (hk : k < n) (hq : q < n) (e : v ≡ sum_of n a b ts k q) where
    -- a sum that is put in is there
    put_in : In n a b ts (set t (k * 9 + q) v) k q
    unfolding at
    put_in = get_or-set_same t (k * 9 + q) v 0 (omega arith) ∙ e

    -- and what was in stays
    put_kept : (k' q' : ℕ) → q' < n → In n a b ts t k' q' → In n a b ts (set t (k * 9 + q) v) k' q'
    unfolding at
    put_kept k' q' h g = elim (dec_lt (k' * 9 + q') (k * 9 + q)) [
      | yes y ↦ get_or-set_other t (k * 9 + q) (k' * 9 + q') v 0 (λ z. omega arith) ∙ g
      | no y ↦ elim (dec_lt (k * 9 + q) (k' * 9 + q')) [
        | yes u ↦ get_or-set_other t (k * 9 + q) (k' * 9 + q') v 0 (λ z. omega arith) ∙ g
        | no u ↦
            let x : k' ≡ k = omega arith in
            let x₂ : q' ≡ q = omega arith in
            rw (x, x₂) put_in
      ]
    ]

  -- before the first row, the starts
  module _ (f : ℕ → ℕ) (t : List ℕ) (room : length t ≡ 81) (right : (k : ℕ) → k < n → f k ≡ sum_of n a b ts k 0) where
    column : (m k : ℕ) → m ≤ n → k < m → In n a b ts (starts_put f t m) k 0
    unfolding starts_put
    column zero k h l = absurd (omega arith)
    column (suc m) k h l =
        let y = starts_put f t m in
        let z : m * 9 ≡ m * 9 + 0 = omega arith in
        let r : length y ≡ 81 = length-starts_put f t m ∙ room in
        rw z (elim (dec_lt k m) [
          | yes u ↦ put_kept y m 0 (f m) r (omega arith) (omega arith) (right m (omega arith)) k 0 (omega arith) (column m k (omega arith) u)
          | no u ↦ let e : k ≡ m = omega arith in rw e (put_in y m 0 (f m) r (omega arith) (omega arith) (right m (omega arith)))
        ])

    parts_start : PartsBefore n a b ts 0 (starts_put f t n)
    parts_start = record {
      whole = λ k q h l. absurd (omega arith);
      begun = λ k q u h l. let e : q ≡ 0 = omega arith in rw e (column n k (omega arith) h);
    }

  -- a row of w pairs
  module _ (i w : ℕ) (f g : ℕ → ℕ) (t : List ℕ) (room : length t ≡ 81) (x : n ≡ i + 1 + w)
      (own : (m : ℕ) → m < w → f m ≡ sum_of n a b ts i (i + 1 + m)) (behind : (k : ℕ) → i < k → k < n → g k ≡ sum_of n a b ts k (i + 1)) where
    abbrev y : (m : ℕ) → List ℕ
    y m = row_put i f g t m

    abbrev half : (m : ℕ) → List ℕ
    half m = set (y m) (i * 9 + (i + 1 + m)) (f m)

    room_y : (m : ℕ) → length (y m) ≡ 81
    room_y m = length-row_put i f g t m ∙ room

    room-half : (m : ℕ) → length (half m) ≡ 81
    room-half m = length-set (y m) (i * 9 + (i + 1 + m)) (f m) ∙ room_y m

    -- both sums of a pair
    module _ (m : ℕ) (h : m < w) where
      half_kept : (k q : ℕ) → q < n → In n a b ts (y m) k q → In n a b ts (half m) k q
      half_kept = put_kept (y m) i (i + 1 + m) (f m) (room_y m) (omega arith) (omega arith) (own m h)

      pair_kept : (k q : ℕ) → q < n → In n a b ts (half m) k q → In n a b ts (y (suc m)) k q
      unfolding row_put
      pair_kept =
          put_kept (half m) (i + 1 + m) (i + 1) (g (i + 1 + m)) (room-half m) (omega arith) (omega arith)
          (behind (i + 1 + m) (omega arith) (omega arith))

      both_kept : (k q : ℕ) → q < n → In n a b ts (y m) k q → In n a b ts (y (suc m)) k q
      both_kept k q l p = pair_kept k q l (half_kept k q l p)

      pair_own : In n a b ts (y (suc m)) i (i + 1 + m)
      pair_own = pair_kept i (i + 1 + m) (omega arith) (put_in (y m) i (i + 1 + m) (f m) (room_y m) (omega arith) (omega arith) (own m h))

      pair_behind : In n a b ts (y (suc m)) (i + 1 + m) (i + 1)
      unfolding row_put
      pair_behind =
          put_in (half m) (i + 1 + m) (i + 1) (g (i + 1 + m)) (room-half m) (omega arith) (omega arith)
          (behind (i + 1 + m) (omega arith) (omega arith))

    row_kept : (m k q : ℕ) → m ≤ w → q < n → In n a b ts t k q → In n a b ts (y m) k q
    unfolding row_put
    row_kept zero k q h l p = p
    row_kept (suc m) k q h l p = both_kept m (omega arith) k q l (row_kept m k q (omega arith) l p)

    row_in : (m p : ℕ) → m ≤ w → p < m → In n a b ts (y m) i (i + 1 + p) × In n a b ts (y m) (i + 1 + p) (i + 1)
    row_in zero p h l = absurd (omega arith)
    row_in (suc m) p h l = elim (dec_lt p m) [
      | yes u ↦
          let o = row_in m p (omega arith) u in (
            both_kept m (omega arith) i (i + 1 + p) (omega arith) o.0,
            both_kept m (omega arith) (i + 1 + p) (i + 1) (omega arith) o.1,
          )
      | no u ↦ let e : p ≡ m = omega arith in rw e (pair_own m (omega arith), pair_behind m (omega arith))
    ]

    parts-row : PartsBefore n a b ts i t → PartsBefore n a b ts (i + 1) (row_put i f g t w)
    parts-row p = record {
      whole = λ k q h l. elim (dec_lt k i) [
        | yes u ↦ row_kept w k q (omega arith) l (p.whole k q u l)
        | no u ↦ let e : k ≡ i = omega arith in rw e (elim (dec_lt i q) [
          | yes z ↦
              let c : i + 1 + (q - (i + 1)) ≡ q = omega arith in
              rw c at (row_in w (q - (i + 1)) (omega arith) (omega arith)).0
          | no z ↦ row_kept w i q (omega arith) l (p.begun i q (omega arith) (omega arith) (omega arith))
        ])
      ];
      begun = λ k q u h l. elim (dec_lt q (i + 1)) [
        | yes z ↦ row_kept w k q (omega arith) (omega arith) (p.begun k q (omega arith) h (omega arith))
        | no z ↦
            let e : q ≡ i + 1 = omega arith in
            let c : i + 1 + (k - (i + 1)) ≡ k = omega arith in
            rw e (rw c at (row_in w (k - (i + 1)) (omega arith) (omega arith)).1)
      ];
    }

-- ---- the running sums and the table of a product of order d, before row i

pub record Gathered (d : ℕ) (a b ts : List ℕ) (i : ℕ) (sums table : List ℕ) : Type 0 where
  pub sums_are : Sums (suc d) a b ts i sums
  pub parts_are : PartsBefore (suc d) a b ts i table

module _ (d : ℕ) (a b ts s t : List ℕ) (few : d ≤ 8) (room : length t ≡ 81) where
  -- before the first
  pub gathered_start : (n : ℕ) (u : List ℕ) → n ≡ suc d → s ≡ starts a b n → u ≡ starts_put (at s) t n → Gathered d a b ts 0 s u
  gathered_start n u x e f =
      let y : s ≡ starts a b (suc d) = e ∙ ap (starts a b) x in record {
        sums_are = sums_start (suc d) a b ts s y;
        parts_are = rw (f, x) (parts_start (suc d) a b ts (omega arith) (at s) t room (λ k h. start_sum (suc d) a b ts s k y h));
      }

  -- one row more
  pub gathered_row : (i w : ℕ) (tape v u : List ℕ) → suc d ≡ i + 1 + w → tape ≡ drop (before_row (suc d) i) ts → length s ≡ suc d
      → v ≡ pairs_taken a b tape i w s → u ≡ row_put i (λ m. running (at s i) (at tape) (m + 1)) (at v) t w
      → Gathered d a b ts i s t → Gathered d a b ts (i + 1) v u
  gathered_row i w tape v u x f l e h g = record {
    sums_are = next;
    parts_are =
        rw h (parts-row (suc d) a b ts (omega arith) i w _ (at v) t room x (row_own_next (suc d) a b ts i w tape s x f (omega arith) g.sums_are)
        (λ k y y₂. next.begun k (omega arith) y₂) g.parts_are);
  }
    where
      next : Sums (suc d) a b ts (i + 1) v
      next = rw e (row_taken-sums (suc d) a b ts i w tape s x f (omega arith) g.sums_are)

-- ---- its rows

-- a row's part of the table, as a callee gets it
pub table_part : (n k : ℕ) (t : List ℕ) → k * 9 + n ≤ length t → take (k * 9 + n - k * 9) (drop (k * 9) t) ≡ tab (λ q. at t (k * 9 + q)) n
unfolding at
table_part n k t h = rw c (sym (rw l at (tab-at s)) ∙ tab_cong _ _ n (λ q u. get_or-take n (drop (k * 9) t) q 0 u ∙ get_or-drop (k * 9) t q 0))
  where
    c : k * 9 + n - k * 9 ≡ n
    c = omega arith

    s : List ℕ
    s = take n (drop (k * 9) t)

    l : length s ≡ n
    l = length-take-le n (drop (k * 9) t) (omega (arith, length-drop (k * 9) t))

pub length_table_part : (n k : ℕ) (t : List ℕ) → k * 9 + n ≤ length t → length (take (k * 9 + n - k * 9) (drop (k * 9) t)) ≡ n
length_table_part n k t h = ap length (table_part n k t h) ∙ length-tab _ n

module _ (n : ℕ) (t : List ℕ) where
  pub length-table_rows : (k : ℕ) → length (table_rows n t k) ≡ n * k
  unfolding table_rows
  length-table_rows k = length_runs n _ k (λ i l. length-tab _ n)

  pub table_rows-more : (k : ℕ) → table_rows n t k ++ tab (λ q. at t (k * 9 + q)) n ≡ table_rows n t (k + 1)
  unfolding table_rows runs
  table_rows-more k = rw add-one refl

-- once all rows are in, they are those of the sheet
module _ (d : ℕ) (a b ts s t : List ℕ) (g : Gathered d a b ts d s t) where
  table_in : (k q : ℕ) → k < suc d → q < suc d → at t (k * 9 + q) ≡ byte times (at a) (at b) (drawn (suc d) ts) (part k q)
  unfolding byte
  table_in k q h l = elim (dec_lt k d) [
    | yes y ↦ g.parts_are.whole k q y l
    | no y ↦ g.parts_are.begun k q (omega arith) h (omega arith)
  ]

  table_row : (k : ℕ) → k < suc d → tab (λ q. at t (k * 9 + q)) (suc d) ≡ map (byte times (at a) (at b) (drawn (suc d) ts)) (row_places (suc d) k)
  unfolding row_places
  table_row k h = tab_cong _ _ (suc d) (λ q l. table_in k q h l) ∙ sym (map-tab (byte times (at a) (at b) (drawn (suc d) ts)) (part k) (suc d))

  pub gathered_all : table_rows (suc d) t (suc d) ≡ sums_before (suc d) a b ts (suc d)
  unfolding table_rows
  gathered_all = runs_cong _ _ (suc d) table_row ∙ sym (map_runs (byte times (at a) (at b) (drawn (suc d) ts)) (row_places (suc d)) (suc d))
