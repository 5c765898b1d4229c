-- Membership in a list; a list of place numbers cut in two where one sheet ends and the next begins; and the share that each place of a step on
-- each share by itself sees. Assumes nothing.
use mathlib.Core.Path.{◌≡◌, refl, sym, ap, subst, ◌∙◌}
use mathlib.Core.Bool.{Bool, false, cond, ◌||◌}
use mathlib.Core.List.{List, [], ◌∷◌, ◌++◌}
use Prim.Native.Nat.{ℕ, zero, suc, ◌+◌, ◌-◌, ◌*◌, ◌≤◌, ◌<◌}
use native.Mathlib.Decide.{dec_lt}
use native.Mathlib.Nat.{suc-mul, zero-mul, add-zero}
use native.Mathlib.Omega.{arith}
use lib.Dec.{T, ltb, eqb, eqb→eq, eqb_refl}
use lib.ListN.{length, get_or, length-append, get_or-append}
use lib.Seq.{get_or-append-add}
use Rattle.xor.specs.Lists.{at, All, done, ◌&◌, Below}
use Rattle.xor.proofs.ListsLaws.{all_map, all_head, all_tail}
use Rattle.xor.proofs.Tests.{by_lt, or_left, or_right, or_cases}
use Rattle.gadgets.specs.Steps.{each_share}

-- ---- membership

-- is a number in a list
unfoldable pub has : List ℕ → ℕ → Bool
has [] i = false
has (x ∷ xs) i = eqb x i || has xs i

pub all_has : (P : ℕ → Type 0) {l : List ℕ} → All P l → (i : ℕ) → T (has l i) → P i
unfolding has
all_has P done i t = absurd t
all_has P (◌&◌ {x = x} {xs = xs} h hs) i t = or_cases (eqb x i) (has xs i) (λ u. subst P (eqb→eq x i u) h) (all_has P hs i) t

pub has_all : (l : List ℕ) → All (λ i. T (has l i)) l
unfolding has
has_all [] = done
has_all (x ∷ xs) = or_left (eqb x x) (has xs x) (eqb_refl x) & all_map (λ i t. or_right (eqb x i) (has xs i) t) (has_all xs)

-- ---- place numbers before k, and those from k on, counted from there

-- of the first sheet, which has k places
unfoldable pub before : (k : ℕ) → List ℕ → List ℕ
before k [] = []
before k (p ∷ ps) = cond (ltb p k) (p ∷ before k ps) (before k ps)

-- of the second
unfoldable pub beyond : (k : ℕ) → List ℕ → List ℕ
beyond k [] = []
beyond k (p ∷ ps) = cond (ltb p k) (beyond k ps) ((p - k) ∷ beyond k ps)

pub cut_count : (k : ℕ) (ps : List ℕ) → length (before k ps) + length (beyond k ps) ≡ length ps
unfolding before beyond
cut_count k [] = refl
cut_count k (p ∷ ps) =
    by_lt (λ c. length (cond c (p ∷ before k ps) (before k ps)) + length (cond c (beyond k ps) ((p - k) ∷ beyond k ps)) ≡ suc (length ps)) p k
    (λ l. omega (arith, cut_count k ps)) (λ l. omega (arith, cut_count k ps))

pub before_below : (k : ℕ) (ps : List ℕ) → Below k (before k ps)
unfolding before
before_below k [] = done
before_below k (p ∷ ps) = by_lt (λ c. Below k (cond c (p ∷ before k ps) (before k ps))) p k (λ l. l & before_below k ps) (λ l. before_below k ps)

pub beyond_below : (k m : ℕ) {ps : List ℕ} → Below (k + m) ps → Below m (beyond k ps)
unfolding beyond
beyond_below k m done = done
beyond_below k m (◌&◌ {x = p} {xs = ps} h hs) =
    by_lt (λ c. Below m (cond c (beyond k ps) ((p - k) ∷ beyond k ps))) p k (λ l. beyond_below k m hs) (λ l. omega arith & beyond_below k m hs)

-- two sheets, each of two parts
pub cut_same : (k : ℕ) (xs xs' ys ys' : List ℕ) → length xs ≡ k → length xs' ≡ k → (ps : List ℕ)
    → All (λ p. at xs p ≡ at xs' p) (before k ps) → All (λ p. at ys p ≡ at ys' p) (beyond k ps) → All (λ p. at (xs ++ ys) p ≡ at (xs' ++ ys') p) ps
unfolding before beyond at
cut_same k xs xs' ys ys' e e' [] h g = done
cut_same k xs xs' ys ys' e e' (p ∷ ps) h g =
    by_lt (λ c. All (λ p. get_or xs p 0 ≡ get_or xs' p 0) (cond c (p ∷ before k ps) (before k ps))
    → All (λ p. get_or ys p 0 ≡ get_or ys' p 0) (cond c (beyond k ps) ((p - k) ∷ beyond k ps))
    → All (λ p. get_or (xs ++ ys) p 0 ≡ get_or (xs' ++ ys') p 0) (p ∷ ps)) p k
    (λ l h g. first l (all_head h) & cut_same k xs xs' ys ys' e e' ps (all_tail h) g)
    (λ l h g. second l (all_head g) & cut_same k xs xs' ys ys' e e' ps h (all_tail g)) h g
  where
    first : p < k → get_or xs p 0 ≡ get_or xs' p 0 → get_or (xs ++ ys) p 0 ≡ get_or (xs' ++ ys') p 0
    first l q = get_or-append xs ys 0 p (omega arith) ∙ q ∙ sym (get_or-append xs' ys' 0 p (omega arith))

    second : k ≤ p → get_or ys (p - k) 0 ≡ get_or ys' (p - k) 0 → get_or (xs ++ ys) p 0 ≡ get_or (xs' ++ ys') p 0
    second l q =
        let u : p ≡ length xs + (p - k) = omega arith in
        let u' : length xs' + (p - k) ≡ p = omega arith in
        ap (λ (n : ℕ). get_or (xs ++ ys) n 0) u ∙ get_or-append-add xs ys (p - k) 0 ∙ q ∙ sym (get_or-append-add xs' ys' (p - k) 0)
        ∙ ap (λ (n : ℕ). get_or (xs' ++ ys') n 0) u'

-- ---- a sheet of what is computed share by share, m entries of each: each of its places sees one share

-- each share has m entries
abbrev pub EachLong : {A : Type 0} (m : ℕ) (g : ℕ → A → List ℕ) → Type 0
EachLong {A} m g = (i : ℕ) (x : A) → length (g i x) ≡ m

module _ {A : Type 0} (e : A) (m : ℕ) where
  pub length-each : (g : ℕ → A → List ℕ) → EachLong m g → (i : ℕ) (xs : List A) → length (each_share g i xs) ≡ length xs * m
  unfolding each_share
  length-each g long i [] = sym (zero-mul m)
  length-each g long i (x ∷ xs) =
      length-append (g i x) (each_share g (suc i) xs) ∙ omega (arith, long i x, length-each g long (suc i) xs, suc-mul (length xs) m)

  -- where place p of a sheet of n shares stands, whatever is computed: at entry `entry` of share `share`
  pub record Located (n p : ℕ) : Type 0 where
    pub share : ℕ
    pub entry : ℕ
    pub share_lt : share < n
    pub entry_lt : entry < m
    pub reads : (g : ℕ → A → List ℕ) → EachLong m g → (i : ℕ) (xs : List A) → length xs ≡ n
        → at (each_share g i xs) p ≡ at (g (i + share) (get_or xs share e)) entry

  near : (n p : ℕ) → p < m → (g : ℕ → A → List ℕ) → EachLong m g → (i : ℕ) (xs : List A) → length xs ≡ suc n
      → at (each_share g i xs) p ≡ at (g (i + 0) (get_or xs 0 e)) p
  unfolding each_share at
  near n p l g long i [] q = absurd (omega arith)
  near n p l g long i (x ∷ xs) q =
      get_or-append (g i x) (each_share g (suc i) xs) 0 p (omega (arith, long i x)) ∙ ap (λ (k : ℕ). get_or (g k x) p 0) (sym (add-zero i))

  past : (p : ℕ) → m ≤ p → (g : ℕ → A → List ℕ) → EachLong m g → (i : ℕ) (x : A) (xs : List A)
      → at (g i x ++ each_share g (suc i) xs) p ≡ at (each_share g (suc i) xs) (p - m)
  unfolding at
  past p l g long i x xs =
      let u : p ≡ length (g i x) + (p - m) = omega (arith, long i x) in
      ap (λ (n : ℕ). get_or (g i x ++ each_share g (suc i) xs) n 0) u ∙ get_or-append-add (g i x) (each_share g (suc i) xs) (p - m) 0

  far : (n p : ℕ) → m ≤ p → (r : Located n (p - m)) → (g : ℕ → A → List ℕ) → EachLong m g → (i : ℕ) (xs : List A) → length xs ≡ suc n
      → at (each_share g i xs) p ≡ at (g (i + suc r.share) (get_or xs (suc r.share) e)) r.entry
  unfolding each_share
  far n p l r g long i [] q = absurd (omega arith)
  far n p l r g long i (x ∷ xs) q =
      let v : suc i + r.share ≡ i + suc r.share = omega arith in
      past p l g long i x xs ∙ r.reads g long (suc i) xs (omega arith) ∙ ap (λ (k : ℕ). at (g k (get_or xs r.share e)) r.entry) v

  pub located : (n p : ℕ) → p < n * m → Located n p
  located zero p h = absurd (omega (arith, zero-mul m))
  located (suc n) p h = go (dec_lt p m) (λ l. located n (p - m) (omega (arith, suc-mul n m)))
    where
      go : Dec (p < m) → (m ≤ p → Located n (p - m)) → Located (suc n) p
      go (yes l) f = record { share = 0; entry = p; share_lt = omega arith; entry_lt = l; reads = near n p l }
      go (no l) f =
          let k : m ≤ p = omega arith in
          let r = f k in
          record { share = suc r.share; entry = r.entry; share_lt = omega (arith, r.share_lt); entry_lt = r.entry_lt; reads = far n p k r }

  -- entry r of share i stands at place i · m + r
  pub at_share : (g : ℕ → A → List ℕ) → EachLong m g → (i r k : ℕ) (xs : List A) → r < m → i < length xs
      → at (each_share g k xs) (i * m + r) ≡ at (g (k + i) (get_or xs i e)) r
  unfolding each_share
  at_share g long i r k [] l h = absurd (omega arith)
  at_share g long zero r k (x ∷ xs) l h =
      let z : 0 * m + r ≡ r = omega (arith, zero-mul m) in
      ap (at (g k x ++ each_share g (suc k) xs)) z ∙ near (length xs) r l g long k (x ∷ xs) refl
  at_share g long (suc i) r k (x ∷ xs) l h =
      let z : suc i * m + r - m ≡ i * m + r = omega (arith, suc-mul i m) in
      let v : suc k + i ≡ k + suc i = omega arith in
      past (suc i * m + r) (omega (arith, suc-mul i m)) g long k x xs
      ∙ ap (at (each_share g (suc k) xs)) z
      ∙ at_share g long i r (suc k) xs l (omega arith)
      ∙ ap (λ (j : ℕ). at (g j (get_or xs i e)) r) v

  module _ (g : ℕ → A → List ℕ) (long : EachLong m g) where
    -- the shares that places see
    pub record Owners (n : ℕ) (ps : List ℕ) : Type 0 where
      pub shares : List ℕ
      pub as_many : length shares ≡ length ps
      pub among : Below n shares
      pub show : (i : ℕ) (xs xs' : List A) → length xs ≡ n → length xs' ≡ n → All (λ j. get_or xs j e ≡ get_or xs' j e) shares
          → All (λ p. at (each_share g i xs) p ≡ at (each_share g i xs') p) ps

    pub owners : (n : ℕ) {ps : List ℕ} → Below (n * m) ps → Owners n ps
    owners n done = record { shares = []; as_many = refl; among = done; show = λ i xs xs' q q' h. done }
    owners n (◌&◌ {x = p} h hs) =
        let o = located n p h in
        let r = owners n hs in
        record {
          shares = o.share ∷ r.shares;
          as_many = ap suc r.as_many;
          among = o.share_lt & r.among;
          show = λ i xs xs' q q' a.
              (o.reads g long i xs q ∙ ap (λ (x : A). at (g (i + o.share) x) o.entry) (all_head a) ∙ sym (o.reads g long i xs' q'))
              & r.show i xs xs' q q' (all_tail a);
        }
