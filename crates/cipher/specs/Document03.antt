-- Document 03's S-box and cipher over shares, copied over this repository's field and `bit_xor`, to be compared with `Box` and `Cipher`.
-- `Document03Laws` proves that they agree, `Document03Joins` what it states of them: the types at the end. Its product is that of isw's
-- `Document03`. A shared string is a list of shared bytes there, and a list of shares here. Its refresh is the short one, which document 02, wish 7,
-- replaced: so from power 254 upwards the refresh is a parameter, and nothing else differs. Assumes nothing: these are definitions.
use Rattle.std.specs.Prelude.{◌≡◌, Bool, true, cond, ◌&&◌, ◌||◌, List, [], ◌∷◌, ◌++◌, ℕ, zero, suc, ◌+◌, ◌*◌, ◌-◌, ◌/◌, ◌%◌}
use Rattle.std.specs.Prelude.{◌≤◌, ltb, eqb, length, get_or, take, drop}
use Rattle.std.specs.Int.Bits.{bit_xor}
use Rattle.xor.specs.Lists.{at}
use Rattle.xor.specs.Sums.{joined}
use Rattle.field_laws.specs.Document03.{size}
use Rattle.gf256.specs.Field.{doubled, times, squared, fourth, sixteenth, affine}
use Rattle.isw.specs.Document03.{product, product_tape}
use Rattle.refresh.specs.Refresh as R

-- ---- shared bytes

unfoldable pub xors : List ℕ → List ℕ → List ℕ
xors [] ys = []
xors (x ∷ xs) [] = []
xors (x ∷ xs) (y ∷ ys) = bit_xor x y ∷ xors xs ys

unfoldable pub each : (ℕ → ℕ) → List ℕ → List ℕ
each f [] = []
each f (x ∷ xs) = f x ∷ each f xs

unfoldable pub into_first : ℕ → List ℕ → List ℕ
into_first t [] = []
into_first t (x ∷ xs) = bit_xor x t ∷ xs

-- refresh
unfoldable pub refresh_from : (first : ℕ) → (rest tape : List ℕ) → (done : List ℕ) → List ℕ
refresh_from x [] ts ys = x ∷ ys
refresh_from x (z ∷ zs) ts ys = refresh_from (bit_xor x (at ts 0)) zs (drop 1 ts) (ys ++ (bit_xor z (at ts 0) ∷ []))

unfoldable pub refreshed : (shares tape : List ℕ) → List ℕ
refreshed [] ts = []
refreshed (x ∷ xs) ts = refresh_from x xs ts []

-- a refresh, and how many bytes it draws at order d
pub record Refresh : Type 0 where
  pub steps : (shares tape : List ℕ) → List ℕ
  pub tape : (d : ℕ) → ℕ

-- its own, and that of document 02, wish 7
abbrev pub short : Refresh
short = record { steps = refreshed; tape = λ d. d }

abbrev pub strong : Refresh
strong = record { steps = λ xs ts. R.refreshed (length xs - 1) xs ts; tape = R.refresh_need }

-- power 254 and the S-box
unfoldable pub power_254 : Refresh → (shares tape : List ℕ) → List ℕ
power_254 r x ts =
    let d = length x - 1 in
    let k = r.tape d in
    let p = product_tape d in
    let z = r.steps (each squared x) ts in
    let y = product times z x (drop k ts) in
    let w = r.steps (each fourth y) (drop (k + p) ts) in
    let y2 = product times y w (drop (2 * k + p) ts) in
    let y3 = product times (each sixteenth y2) w (drop (2 * k + 2 * p) ts) in
    product times y3 z (drop (2 * k + 3 * p) ts)

-- with its own refresh it is 2 * d * d + 4 * d there (`short-box_tape`)
unfoldable pub box_tape : Refresh → (d : ℕ) → ℕ
box_tape r d = 2 * r.tape d + 4 * product_tape d

unfoldable pub box : Refresh → (shares tape : List ℕ) → List ℕ
box r x ts =
    let y = each affine (power_254 r x ts) in cond (eqb (length x % 2) 0) (into_first 99 y) y

-- ---- shared strings

abbrev pub Shared : Type 0
Shared = List (List ℕ)

unfoldable pub sh : Shared → (i : ℕ) → List ℕ
sh xs i = get_or xs i []

unfoldable pub add : Shared → Shared → Shared
add [] ys = []
add (x ∷ xs) [] = []
add (x ∷ xs) (y ∷ ys) = xors x y ∷ add xs ys

unfoldable pub boxes : Refresh → (d : ℕ) → Shared → (tape : List ℕ) → Shared
boxes r d [] ts = []
boxes r d (x ∷ xs) ts = box r x ts ∷ boxes r d xs (drop (box_tape r d) ts)

-- key expansion
unfoldable pub rcon : (i : ℕ) → ℕ
rcon zero = 1
rcon (suc i) = doubled (rcon i)

unfoldable pub rotated : Shared → Shared
rotated ws = sh ws 1 ∷ sh ws 2 ∷ sh ws 3 ∷ sh ws 0 ∷ []

unfoldable pub with_rcon : (c : ℕ) → Shared → Shared
with_rcon c [] = []
with_rcon c (x ∷ xs) = into_first c x ∷ xs

unfoldable pub word : Shared → (i : ℕ) → Shared
word ks i = take 4 (drop (4 * i) ks)

unfoldable pub expanded_from : Refresh → (left i : ℕ) → (nk d : ℕ) → Shared → (tape : List ℕ) → Shared
expanded_from r zero i nk d ks ts = ks
expanded_from r (suc l) i nk d ks ts =
    let w = word ks (i - 1) in
    let old = word ks (i - nk) in
    let subbed = boxes r d w ts in
    let rest = drop (4 * box_tape r d) ts in
    let first = expanded_from r l (suc i) nk d (ks ++ add old (with_rcon (rcon (i / nk - 1)) (rotated subbed))) rest in
    let extra = expanded_from r l (suc i) nk d (ks ++ add old subbed) rest in
    let plain = expanded_from r l (suc i) nk d (ks ++ add old w) ts in
    cond (eqb (i % nk) 0) first (cond (eqb nk 8 && eqb (i % 8) 4) extra plain)

unfoldable pub rounds : (nk : ℕ) → ℕ
rounds nk = nk + 6

unfoldable pub expanded : Refresh → (nk d : ℕ) → (key : Shared) → (tape : List ℕ) → Shared
expanded r nk d ks ts = expanded_from r (4 * suc (rounds nk) - nk) nk nk d ks ts

unfoldable pub key_boxes : (nk : ℕ) → ℕ
key_boxes nk = cond (eqb nk 4) 40 (cond (eqb nk 6) 32 52)

-- rounds
unfoldable pub by_rows : (left k : ℕ) → Shared → Shared
by_rows zero k s = []
by_rows (suc l) k s = sh s (k / 4 + 4 * (k % 4)) ∷ by_rows l (suc k) s

unfoldable pub substituted : Refresh → (d : ℕ) → Shared → (tape : List ℕ) → Shared
substituted r d s ts = by_rows 16 0 (boxes r d (by_rows 16 0 s) ts)

unfoldable pub shifted_from : (left k : ℕ) → Shared → Shared
shifted_from zero k s = []
shifted_from (suc l) k s = sh s (k % 4 + 4 * ((k / 4 + k % 4) % 4)) ∷ shifted_from l (suc k) s

unfoldable pub shifted : Shared → Shared
shifted s = shifted_from 16 0 s

unfoldable pub mixed_byte : (a b c e : List ℕ) → List ℕ
mixed_byte a b c e = xors (each doubled a) (xors (xors (each doubled b) b) (xors c e))

unfoldable pub mixed_column : Shared → Shared
mixed_column s =
    mixed_byte (sh s 0) (sh s 1) (sh s 2) (sh s 3) ∷ mixed_byte (sh s 1) (sh s 2) (sh s 3) (sh s 0)
    ∷ mixed_byte (sh s 2) (sh s 3) (sh s 0) (sh s 1) ∷ mixed_byte (sh s 3) (sh s 0) (sh s 1) (sh s 2) ∷ []

unfoldable pub mixed : (left : ℕ) → Shared → Shared
mixed zero s = []
mixed (suc k) s = mixed_column (take 4 s) ++ mixed k (drop 4 s)

unfoldable pub round_key : Shared → (r : ℕ) → Shared
round_key ks r = take 16 (drop (16 * r) ks)

unfoldable pub rounds_from : Refresh → (left i : ℕ) → (d : ℕ) → (keys : Shared) → (state : Shared) → (tape : List ℕ) → Shared
rounds_from r zero i d ks s ts = s
rounds_from r (suc l) i d ks s ts =
    let sub = shifted (substituted r d s ts) in
    let rest = drop (16 * box_tape r d) ts in
    rounds_from r l (suc i) d ks (add (cond (eqb l 0) sub (mixed 4 sub)) (round_key ks i)) rest

unfoldable pub encrypted : Refresh → (nk d : ℕ) → (key input : Shared) → (tape : List ℕ) → Shared
encrypted r nk d k x ts =
    let ks = expanded r nk d k ts in
    rounds_from r (rounds nk) 1 d ks (add x (round_key ks 0)) (drop (key_boxes nk * box_tape r d) ts)

unfoldable pub cipher_tape : Refresh → (nk d : ℕ) → ℕ
cipher_tape r nk d = (key_boxes nk + 16 * rounds nk) * box_tape r d

unfoldable pub key_words : ℕ → Bool
key_words nk = eqb nk 4 || (eqb nk 6 || eqb nk 8)

-- AES: order 0, with one share and no tape
unfoldable pub alone : List ℕ → Shared
alone [] = []
alone (x ∷ xs) = (x ∷ []) ∷ alone xs

unfoldable pub joined_all : Shared → List ℕ
joined_all [] = []
joined_all (x ∷ xs) = joined x ∷ joined_all xs

unfoldable pub aes : Refresh → (nk : ℕ) → (key input : List ℕ) → List ℕ
aes r nk k x = joined_all (encrypted r nk 0 (alone k) (alone x) [])

-- ---- the layout

unfoldable pub column : (left : ℕ) → (l i : ℕ) → List ℕ → List ℕ
column zero l i bs = []
column (suc k) l i bs = get_or bs i 0 ∷ column k l (i + l) bs

unfoldable pub shared_from : (left i : ℕ) → (n l : ℕ) → List ℕ → Shared
shared_from zero i n l bs = []
shared_from (suc k) i n l bs = column n l i bs ∷ shared_from k (suc i) n l bs

unfoldable pub shared : (n : ℕ) → List ℕ → Shared
shared n bs = shared_from (length bs / n) 0 n (length bs / n) bs

unfoldable pub nth_shares : (i : ℕ) → Shared → List ℕ
nth_shares i [] = []
nth_shares i (x ∷ xs) = at x i ∷ nth_shares i xs

unfoldable pub laid_from : (left i : ℕ) → Shared → List ℕ
laid_from zero i s = []
laid_from (suc k) i s = nth_shares i s ++ laid_from k (suc i) s

unfoldable pub laid : (n : ℕ) → Shared → List ℕ
laid n s = laid_from n 0 s

-- splitting
unfoldable pub split_first : (left : ℕ) → (input tape : List ℕ) → List ℕ
split_first zero xs ts = xs
split_first (suc k) xs ts = split_first k (xors xs (take (length xs) ts)) (drop (length xs) ts)

unfoldable pub split : (d : ℕ) → (input tape : List ℕ) → List ℕ
split d xs ts = split_first d xs ts ++ take (d * length xs) ts

-- ---- what it states of them: shares join to the values of FIPS 197, whatever the tape

unfoldable pub all_bytes : List ℕ → Bool
all_bytes [] = true
all_bytes (x ∷ xs) = ltb x size && all_bytes xs

unfoldable pub all_shared : (n : ℕ) → Shared → Bool
all_shared n [] = true
all_shared n (x ∷ xs) = (eqb (length x) n && all_bytes x) && all_shared n xs

unfoldable pub ProductJoins : Type 0
ProductJoins =
    (a b ts : List ℕ) → all_bytes a ≡ true → all_bytes b ≡ true → all_bytes ts ≡ true → length a ≡ length b → 1 ≤ length a
    → product_tape (length a - 1) ≤ length ts → joined (product times a b ts) ≡ times (joined a) (joined b)

unfoldable pub RefreshJoins : Type 0
RefreshJoins =
    (a ts : List ℕ) → all_bytes a ≡ true → all_bytes ts ≡ true → length a ≤ suc (length ts) → joined (refreshed a ts) ≡ joined a

unfoldable pub BoxJoins : Refresh → Type 0
BoxJoins r =
    (a ts : List ℕ) → all_bytes a ≡ true → all_bytes ts ≡ true → 1 ≤ length a → box_tape r (length a - 1) ≤ length ts
    → joined (box r a ts) ≡ joined (box r (joined a ∷ []) [])

unfoldable pub CipherJoins : Refresh → Type 0
CipherJoins r =
    (nk d : ℕ) (k x : Shared) (ts : List ℕ) → key_words nk ≡ true → d ≤ 8 → all_shared (suc d) k ≡ true → all_shared (suc d) x ≡ true
    → length k ≡ 4 * nk → length x ≡ 16 → all_bytes ts ≡ true → cipher_tape r nk d ≤ length ts
    → joined_all (encrypted r nk d k x ts) ≡ aes r nk (joined_all k) (joined_all x)

-- joining a split block gives the block
unfoldable pub SplitJoins : Type 0
SplitJoins =
    (d : ℕ) (xs ts : List ℕ) → 1 ≤ length xs → all_bytes xs ≡ true → all_bytes ts ≡ true → d * length xs ≤ length ts
    → joined_all (shared (suc d) (split d xs ts)) ≡ xs
