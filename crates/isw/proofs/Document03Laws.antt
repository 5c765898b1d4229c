-- Document 03's product, places, numbers and hiding rule are those of `Place` and `Hiding`. Assumes nothing.
use mathlib.Core.Path.{◌≡◌, refl, sym, ap, ap₂, ◌∙◌}
use mathlib.Core.Logic.{◌≢◌}
use mathlib.Core.Bool.{Bool, true, cond, ◌&&◌}
use mathlib.Core.List.{List, [], ◌∷◌, ◌++◌, map, map-append, append_assoc, append-nil}
use Prim.Native.Nat.{ℕ, zero, suc, ◌+◌, ◌-◌, ◌*◌, ◌^◌, ◌≤◌}
use native.Mathlib.Nat.{zero-add, add_comm}
use native.Mathlib.Numerals.{one-add}
use native.Mathlib.Omega.{arith}
use lib.Bits.{bit_xor}
use lib.Dec.{T, ltb, ltb→lt, eqb}
use lib.ListN.{length, take, drop, length-take, length-drop}
use Rattle.xor.specs.Lists.{at, runs, tab, done, ◌&◌, Below}
use Rattle.xor.proofs.ListsLaws.{tab_cong, tab_first, tab_last, map_runs, map-tab, tab-at}
use Rattle.xor.proofs.RunsLaws.{runs_from, tab_from, runs_zero}
use Rattle.xor.proofs.Tests.{by_eq, true_T, and_left, and_right}
use Rattle.xor.specs.Running.{running}
use Rattle.isw.specs.Place.{Place, left, right, part, skip, row, byte, pair_row, drawn, product_need, value, sheet, listed}
use Rattle.isw.specs.Place as P
use Rattle.isw.specs.Hiding.{total, sums, factor, choice_length, chosen, same}
use Rattle.isw.specs.Hiding as H
use Rattle.isw.specs.Document03 as D
use Rattle.isw.proofs.OrderLaws.{twice_need, product_need_is}
use Rattle.isw.proofs.PlaceLaws.{skip-past, skip_before}
use Rattle.isw.proofs.CountLaws.{total_cong, sums_cong, sums_last, how_many-sums}

-- ---- the sheet

module _ (op : ℕ → ℕ → ℕ) (d : ℕ) (a b ts : List ℕ) where
  abbrev n : ℕ
  n = suc d

  abbrev v : Place → ℕ
  v = value op d a b ts

  sum-at : (i k : ℕ) → ℕ
  sum-at i k = row op (at a) (at b) (drawn n ts) i k

  -- the pairs

  pair_is : (i j : ℕ) → map v (P.pair_places i j) ≡ D.pair_places op n a b ts i j
  unfolding value byte P.pair_places P.half_sum P.other D.pair_places D.half_sum D.other
  pair_is i j = refl

  row_is : (i j k : ℕ) → runs (λ m. map v (P.pair_places i (j + m))) k ≡ D.row_places op k j n a b ts i
  unfolding D.row_places
  row_is i j zero = unfold runs in refl
  row_is i j (suc k) = runs_from (λ j. map v (P.pair_places i j)) j k ∙ ap₂ ◌++◌ (pair_is i j) (row_is i (suc j) k)

  pair_row_is : (i : ℕ) → map v (pair_row n i) ≡ D.row_places op (n - suc i) (suc i) n a b ts i
  unfolding pair_row
  pair_row_is i = map_runs v (λ m. P.pair_places i (suc i + m)) (n - suc i) ∙ row_is i (suc i) (n - suc i)

  pairs_are : (i k : ℕ) → runs (λ m. map v (pair_row n (i + m))) k ≡ D.all_pairs op k i n a b ts
  unfolding D.all_pairs
  pairs_are i zero = unfold runs in refl
  pairs_are i (suc k) = runs_from (λ i. map v (pair_row n i)) i k ∙ ap₂ ◌++◌ (pair_row_is i) (pairs_are (suc i) k)

  -- the running sums

  step : (i j k : ℕ) → skip i k ≡ j → bit_xor (sum-at i k) (D.term op n a b ts i j) ≡ sum-at i (suc k)
  unfolding sum-at row running P.term P.other P.half_sum D.term D.other D.half_sum
  step i j k e = rw (← e)

  take_in : (i j l k : ℕ) → i ≢ j → skip i k ≡ j
      → D.sums_from op (suc l) j n a b ts i (sum-at i k) ≡ sum-at i (suc k) ∷ D.sums_from op l (suc j) n a b ts i (sum-at i (suc k))
  unfolding D.sums_from
  take_in i j l k ne e =
      let s = bit_xor (sum-at i k) (D.term op n a b ts i j) in
      let x = D.sums_from op l (suc j) n a b ts i (sum-at i k) in
      let y = s ∷ D.sums_from op l (suc j) n a b ts i s in
      by_eq (λ c. cond c x y ≡ y) i j (λ q. absurd (ne q)) (λ q. refl)
      ∙ ap (λ (z : ℕ). z ∷ D.sums_from op l (suc j) n a b ts i z) (step i j k e)

  leave_out : (i l k : ℕ) → D.sums_from op (suc l) i n a b ts i (sum-at i k) ≡ D.sums_from op l (suc i) n a b ts i (sum-at i k)
  unfolding D.sums_from
  leave_out i l k =
      let s = bit_xor (sum-at i k) (D.term op n a b ts i i) in
      let x = D.sums_from op l (suc i) n a b ts i (sum-at i k) in
      by_eq (λ c. cond c x (s ∷ D.sums_from op l (suc i) n a b ts i s) ≡ x) i i (λ q. refl) (λ ne. absurd (ne refl))

  -- past column i
  sums-past : (i l k : ℕ) → i ≤ k → D.sums_from op l (suc k) n a b ts i (sum-at i k) ≡ tab (λ m. sum-at i (suc k + m)) l
  sums-past i zero k h = unfold D.sums_from tab runs in refl
  sums-past i (suc l) k h =
      take_in i (suc k) l k (omega arith) (skip-past i k h) ∙ ap (◌∷◌ (sum-at i (suc k))) (sums-past i l (suc k) (omega arith))
      ∙ sym (tab_from (sum-at i) (suc k) l)

  -- up to column i, by how far it is
  sums_to : (g i l j : ℕ) → j + g ≡ i → g ≤ l → D.sums_from op (suc l) j n a b ts i (sum-at i j) ≡ tab (λ m. sum-at i (suc j + m)) l
  sums_to zero i l j e u =
      let q : j ≡ i = omega arith in
      rw q (leave_out i l i ∙ sums-past i l i (omega arith))
  sums_to (suc g) i zero j e u = absurd (omega arith)
  sums_to (suc g) i (suc l) j e u =
      take_in i j (suc l) j (omega arith) (skip_before i j (omega arith))
      ∙ ap (◌∷◌ (sum-at i (suc j))) (sums_to g i l (suc j) (omega arith) (omega arith))
      ∙ sym (tab_from (sum-at i) (suc j) l)

  -- the running sums of row i
  row-tab : (i : ℕ) → i ≤ d → D.sums op n a b ts i ≡ tab (sum-at i) n
  unfolding D.sums sum-at row running
  row-tab i h =
      ap (◌∷◌ (sum-at i 0)) (sums_to i i d 0 (zero-add i) h ∙ tab_cong _ _ d (λ m l. ap (sum-at i) (one-add m)))
      ∙ sym (tab_first (sum-at i) d)

  sums_are : (i : ℕ) → i ≤ d → map v (P.row_places n i) ≡ D.sums op n a b ts i
  unfolding P.row_places value byte sum-at
  sums_are i h = map-tab v (part i) n ∙ sym (row-tab i h)

  all_sums_are : (i k : ℕ) → i + k ≤ n → runs (λ m. map v (P.row_places n (i + m))) k ≡ D.all_sums op k i n a b ts
  unfolding D.all_sums
  all_sums_are i zero h = unfold runs in refl
  all_sums_are i (suc k) h =
      runs_from (λ i. map v (P.row_places n i)) i k ∙ ap₂ ◌++◌ (sums_are i (omega arith)) (all_sums_are (suc i) k (omega arith))

  -- ---- the product

  last_snoc : (e x : ℕ) (l : List ℕ) → D.last_of op e (l ++ (x ∷ [])) ≡ x
  unfolding D.last_of
  last_snoc e x [] = refl
  last_snoc e x (y ∷ l) = last_snoc y x l

  last_sum : (i : ℕ) → i ≤ d → sum-at i d ≡ D.last_of op 0 (D.sums op n a b ts i)
  last_sum i h = sym (ap (D.last_of op 0) (row-tab i h ∙ tab_last (sum-at i) d) ∙ last_snoc 0 (sum-at i d) (tab (sum-at i) d))

  products_are : (i k : ℕ) → i + k ≤ n → tab (λ m. sum-at (i + m) d) k ≡ D.products_from op k i n a b ts
  unfolding D.products_from
  products_are i zero h = unfold tab runs in refl
  products_are i (suc k) h =
      tab_from (λ i. sum-at i d) i k ∙ ap₂ ◌∷◌ (last_sum i (omega arith)) (products_are (suc i) k (omega arith))

  pub product_agrees : length a ≡ suc d → P.product op d a b ts ≡ D.product op a b ts
  unfolding P.product P.outputs D.product value byte sum-at
  product_agrees la =
      map-tab v (λ i. part i d) n ∙ tab_cong _ _ n (λ i l. ap (λ (k : ℕ). sum-at k d) (sym (zero-add i)))
      ∙ products_are 0 n (omega arith)
      ∙ ap (λ (m : ℕ). D.products_from op m 0 m a b ts) (sym la)

map-four : (f : Place → ℕ) (k l m n : List Place) {a b c d : List ℕ} → map f k ≡ a → map f l ≡ b → map f m ≡ c → map f n ≡ d
    → map f (k ++ l ++ m ++ n) ≡ a ++ b ++ c ++ d
map-four f k l m n p q r s = simp (map-append f, p, q, r, s)

-- the sheet, place by place, is the list that document 03 writes
pub sheet_agrees : (op : ℕ → ℕ → ℕ) (d : ℕ) (a b ts : List ℕ) → length a ≡ suc d → length b ≡ suc d → sheet op d a b ts ≡ D.places op a b ts
unfolding sheet P.places D.places value byte
sheet_agrees op d a b ts la lb =
    let n = suc d in
    let f = value op d a b ts in
    map-four f (tab left n) (tab right n) (runs (pair_row n) n) (runs (P.row_places n) n)
    (map-tab f left n ∙ ap (tab (at a)) (sym la) ∙ tab-at a)
    (map-tab f right n ∙ ap (tab (at b)) (sym lb) ∙ tab-at b)
    (map_runs f (pair_row n) n ∙ runs_zero _ n ∙ pairs_are op d a b ts 0 n ∙ ap (λ (m : ℕ). D.all_pairs op m 0 m a b ts) (sym la))
    (map_runs f (P.row_places n) n ∙ runs_zero _ n ∙ all_sums_are op d a b ts 0 n (omega arith)
    ∙ ap (λ (m : ℕ). D.all_sums op m 0 m a b ts) (sym la))

-- ---- numbers

pub place_count_agrees : (d : ℕ) → P.place_count d ≡ D.place_count d
unfolding P.place_count D.place_count
place_count_agrees d = omega (arith, twice_need d)

pub need_agrees : (d : ℕ) → product_need d ≡ D.product_tape d
unfolding D.product_tape
need_agrees d = product_need_is d

-- ---- counts

any_byte-total : (m : ℕ) (f : ℕ → ℕ) → D.any_byte m f ≡ total m f
unfolding D.any_byte total
any_byte-total zero f = refl
any_byte-total (suc m) f = ap (λ (x : ℕ). f m + x) (any_byte-total m f) ∙ add_comm (f m) (total m f)

count_from : (m k : ℕ) (cs : List ℕ) (f : List ℕ → Bool) → D.how_many m k cs f ≡ sums m k (λ vs. cond (f (vs ++ cs)) 1 0)
unfolding D.how_many sums
count_from m zero cs f = refl
count_from m (suc k) cs f =
    any_byte-total m _
    ∙ total_cong m _ _ (λ v h.
    count_from m k (v ∷ cs) f ∙ sums_cong m k _ _ (λ vs l b. ap (λ (l : List ℕ). cond (f l) 1 0) (sym (append_assoc vs (v ∷ []) cs))))
    ∙ sym (sums_last m k (λ vs. cond (f (vs ++ cs)) 1 0))

-- document 03 counts a list from its end, with the same result
pub how_many_agrees : (m k : ℕ) (f g : List ℕ → Bool) → ((vs : List ℕ) → length vs ≡ k → f vs ≡ g vs) → H.how_many m k f ≡ D.how_many m k [] g
how_many_agrees m k f g h =
    how_many-sums m k f
    ∙ sums_cong m k _ _ (λ vs l b. ap {B = ℕ} (λ c. cond c 1 0) (h vs l ∙ ap g (sym (append-nil vs))))
    ∙ sym (count_from m k [] g)

-- ---- the hiding rule

below : (m : ℕ) (ps : List ℕ) → T (D.all_below m ps) → Below m ps
unfolding D.all_below
below m [] t = done
below m (p ∷ ps) t = ltb→lt p m (and_left (ltb p m) (D.all_below m ps) t) & below m ps (and_right (ltb p m) (D.all_below m ps) t)

-- a reading as long as the list
gives_agrees : (ps rs bs : List ℕ) → length rs ≡ length ps → same (listed bs ps) rs ≡ D.gives ps rs bs
unfolding same listed D.gives
gives_agrees [] [] bs e = refl
gives_agrees [] (r ∷ rs) bs e = absurd (omega arith)
gives_agrees (p ∷ ps) [] bs e = absurd (omega arith)
gives_agrees (p ∷ ps) (r ∷ rs) bs e =
    let l : length rs ≡ length ps = omega arith in
    ap (λ (c : Bool). eqb (at bs p) r && c) (gives_agrees ps rs bs l)

pub shown_agrees : (op : ℕ → ℕ → ℕ) (d x y : ℕ) (cs : List ℕ) → length cs ≡ choice_length d → chosen op d x y cs ≡ D.shown op d x y cs
unfolding choice_length chosen factor D.shown D.factor
shown_agrees op d x y cs e =
    let two : 2 * d ≡ d + d = omega arith in
    let la : length (factor x (take d cs)) ≡ suc d = unfold factor in ap suc (length-take d cs ∙ omega arith) in
    let taken : length (take d (drop d cs)) ≡ d = length-take d (drop d cs) ∙ omega (arith, length-drop d cs) in
    let lb : length (factor y (take d (drop d cs))) ≡ suc d = unfold factor in ap suc taken in
    rw two (sheet_agrees op d (factor x (take d cs)) (factor y (take d (drop d cs))) (drop (d + d) cs) la lb)

pub readings_agree : (op : ℕ → ℕ → ℕ) (w d x y : ℕ) (ps rs : List ℕ) → length rs ≡ length ps
    → H.readings op w d x y ps rs ≡ D.readings op (2 ^ w) d x y ps rs
unfolding H.readings D.readings D.choice_long choice_length
readings_agree op w d x y ps rs e =
    let k : d + d + product_need d ≡ 2 * d + D.product_tape d = omega (arith, need_agrees d) in
    how_many_agrees (2 ^ w) (d + d + product_need d) _ _
    (λ cs l. ap (λ (s : List ℕ). same (listed s ps) rs) (shown_agrees op d x y cs l) ∙ gives_agrees ps rs (D.shown op d x y cs) e)
    ∙ ap (λ (k : ℕ). D.how_many (2 ^ w) k [] (λ cs. D.gives ps rs (D.shown op d x y cs))) k

pub hides_document03 : (op : ℕ → ℕ → ℕ) (w : ℕ) → H.Hides op w → D.Hides op (2 ^ w)
unfolding H.Hides D.Hides
hides_document03 op w h d x y v z ps rs low high hx hy hv hz few inside long small =
    let counted : D.all_below (P.place_count d) ps ≡ true = rw (place_count_agrees d) inside in
    sym (readings_agree op w d x y ps rs long)
    ∙ h d ps rs x y v z (omega (arith, few)) (below (P.place_count d) ps (true_T counted)) hx hy hv hz
    ∙ readings_agree op w d v z ps rs long
