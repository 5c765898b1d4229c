-- From strong non-interference to plain counts: tapes of a gadget of two inputs, and choices of masks and tape for one input. Assumes nothing.
use mathlib.Core.Path.{◌≡◌, sym, ap, ap₂, ◌∙◌}
use mathlib.Core.Logic.{◌≢◌}
use mathlib.Core.Bool.{Bool, cond, ◌&&◌}
use mathlib.Core.List.{List, []}
use Prim.Native.Nat.{ℕ, suc, ◌+◌, ◌^◌, ◌≤◌, ◌<◌}
use native.Mathlib.Omega.{arith}
use lib.Bits.{bit_xor, xor_lt}
use lib.ListN.{length, take, drop}
use lib.Seq.{take-append-le}
use Rattle.xor.specs.Lists.{at, All, done, Below}
use Rattle.xor.specs.Sums.{xors}
use Rattle.xor.proofs.ListsLaws.{all_map, map_cong}
use Rattle.xor.proofs.StringLaws.{length-xors}
use Rattle.isw.specs.Place.{listed}
use Rattle.isw.specs.Hiding.{how_many, factor, same}
use Rattle.isw.proofs.CountLaws.{how_many-sums, sums_cong}
use Rattle.isw.proofs.MaskLaws.{taken_up, length-taken_up, other_shares, taken_up_below}
use Rattle.isw.proofs.Missed.{miss}
use Rattle.gadgets.specs.Coupling.{Coupled}
use Rattle.gadgets.specs.Steps.{Agree}
use Rattle.gadgets.specs.Gadgets.{bytes, Common, Gadget, tapes_giving, Strong}
use Rattle.gadgets.proofs.CouplingLaws.{coupled_by, coupled-map, coupled_then, coupled-front}

-- a strong gadget by another word for its count
pub strong_recount : {width d n k k' : ℕ} {sheet out : (x tape : List ℕ) → List ℕ} → k ≡ k'
    → Strong width d n k sheet out → Strong width d n k' sheet out
strong_recount e h = rw e at h

-- ---- counts

-- tests that answer alike on every list of numbers below the bound
pub how_many_cong : (m k : ℕ) (test test' : List ℕ → Bool) → ((vs : List ℕ) → length vs ≡ k → Below m vs → test vs ≡ test' vs)
    → how_many m k test ≡ how_many m k test'
how_many_cong m k test test' h =
    how_many-sums m k test
    ∙ sums_cong m k _ _ (λ vs l b. ap (λ (c : Bool). cond c 1 0) (h vs l b))
    ∙ sym (how_many-sums m k test')

-- coupled runs are counted alike by every test that answers alike on paired outcomes
pub counted : {X : Type 0} (width n : ℕ) (R : X → X → Type 0) (c c' : List ℕ → X) (test : X → Bool) → ((x x' : X) → R x x' → test x ≡ test x')
    → Coupled width n R c c' → how_many (2 ^ width) n (λ ts. test (c ts)) ≡ how_many (2 ^ width) n (λ ts. test (c' ts))
counted width n R c c' test alike k =
    how_many-sums (2 ^ width) n _
    ∙ k (λ x. cond (test x) 1 0) (λ x. cond (test x) 1 0)
    (λ ts ts' t t' r. ap (λ (b : Bool). cond b 1 0) (alike (c ts) (c' ts') r))
    ∙ sym (how_many-sums (2 ^ width) n _)

-- two lists that agree at the listed places read alike
reads-alike : (ps rs : List ℕ) (x x' : List ℕ) → All (λ p. at x p ≡ at x' p) ps → same (listed x ps) rs ≡ same (listed x' ps) rs
unfolding listed
reads-alike ps rs x x' h = ap (λ (l : List ℕ). same l rs) (map_cong (at x) (at x') h)

-- runs whose listed places are coupled
pub counted_alike : (width n : ℕ) (ps rs : List ℕ) (c c' : List ℕ → List ℕ) → Coupled width n (λ x x'. All (λ p. at x p ≡ at x' p) ps) c c'
    → how_many (2 ^ width) n (λ cs. same (listed (c cs) ps) rs) ≡ how_many (2 ^ width) n (λ cs. same (listed (c' cs) ps) rs)
counted_alike width n ps rs c c' k =
    counted width n (λ x x'. All (λ p. at x p ≡ at x' p) ps) c c' (λ x. same (listed x ps) rs) (reads-alike ps rs) k

-- STRONG NON-INTERFERENCE IN PLAIN COUNTS: inputs that have the asked shares in common, of each no more than there are places, give every reading of
-- the listed places together with every value of the listed output shares on equally many tapes
pub gadget_counted : {width d need count : ℕ} {sheet out : (a b tape : List ℕ) → List ℕ} (G : Gadget width d need count sheet out)
    (ps os : List ℕ) (below : Below count ps) (inside : Below (suc d) os) (few : length ps + length os ≤ d)
    → (a a' b b' : List ℕ) → length a ≡ suc d → length a' ≡ suc d → length b ≡ suc d → length b' ≡ suc d
    → Common a a' (G.sni ps os below inside few).of_a → Common b b' (G.sni ps os below inside few).of_b
    → (rs vs : List ℕ) → tapes_giving width need sheet out a b ps os rs vs ≡ tapes_giving width need sheet out a' b' ps os rs vs
unfolding tapes_giving
gadget_counted {width} {d} {need} {count} {sheet} {out} G ps os below inside few a a' b b' la la' lb lb' ka kb rs vs =
    counted width need (Agree (bytes d) count ps (λ v. os)) (λ ts. (sheet a b ts, out a b ts)) (λ ts. (sheet a' b' ts, out a' b' ts))
    (λ y. same (listed y.0 ps) rs && same (listed y.1 os) vs)
    (λ y y' q. ap₂ ◌&&◌ (reads-alike ps rs y.0 y'.0 q.shown) (reads-alike os vs y.1 y'.1 (q.alike tt)))
    ((G.sni ps os below inside few).coupled a a' b b' la la' lb lb' ka kb)

-- ---- a byte with d masks of its own

-- two bytes in shares that have all shares in common but share q
record BytesBut (d q : ℕ) (x x' : List ℕ) : Type 0 where
  as_many : length x ≡ suc d
  as_many' : length x' ≡ suc d
  others : (i : ℕ) → i ≢ q → at x i ≡ at x' i

length-factor : (d x : ℕ) (ms : List ℕ) → length ms ≡ d → length (factor x ms) ≡ suc d
unfolding factor
length-factor d x ms h = ap suc h

module _ (width d x y : ℕ) (hx : x < 2 ^ width) (hy : y < 2 ^ width) (q : ℕ) (q_le : q ≤ d) where
  abbrev moved : List ℕ
  moved = taken_up q (bit_xor x y)

  moved_long : (ts : List ℕ) → length ts ≡ d → length (xors ts moved) ≡ d
  moved_long ts h = omega (arith, length-xors ts moved, length-taken_up q (bit_xor x y))

  factor-coupled : Coupled width d (BytesBut d q) (factor x) (factor y)
  factor-coupled =
      coupled_by width d (BytesBut d q) (factor x) (factor y) moved (omega (arith, length-taken_up q (bit_xor x y)))
      (taken_up_below width q (xor_lt width x y hx hy))
      (λ ts h. record {
        as_many = length-factor d x ts h;
        as_many' = length-factor d y (xors ts moved) (moved_long ts h);
        others = λ i n. other_shares x y q ts i n;
      })

-- two sheets show the same at the listed places
abbrev pub Shown : (ps : List ℕ) (x x' : List ℕ) → Type 0
Shown ps x x' = All (λ p. at x p ≡ at x' p) ps

-- d masks and a tape: the runs of a strong gadget of one input on two bytes are coupled at any d places
pub strong-coupled : {width d need count : ℕ} {sheet out : (x tape : List ℕ) → List ℕ} → Strong width d need count sheet out
    → (ps : List ℕ) (x y : ℕ) → length ps ≤ d → Below count ps → x < 2 ^ width → y < 2 ^ width
    → Coupled width (d + need) (Shown ps) (λ cs. sheet (factor x (take d cs)) (drop d cs)) (λ cs. sheet (factor y (take d cs)) (drop d cs))
strong-coupled {width} {d} {need} {count} {sheet} {out} B ps x y few below hx hy =
    let a = B.strong ps [] below done (omega arith) in
    let f = a.few in
    let (q, q_le, q_free) = miss d a.of (omega arith) in
    coupled_then width d need (BytesBut d q) (Shown ps) (λ ts. factor x (take d ts)) (λ ts. factor y (take d ts)) sheet sheet
    (λ us vs h. ap (factor x) (take-append-le d us vs h)) (λ us vs h. ap (factor y) (take-append-le d us vs h))
    (coupled-front width d (BytesBut d q) (factor x) (factor y) (factor-coupled width d x y hx hy q q_le))
    (λ us us' t t' r.
    let u = factor x (take d us) in
    let u' = factor y (take d us') in
    coupled-map width need (Agree (bytes d) count ps (λ v. [])) (Shown ps)
    (λ ts. (sheet u ts, out u ts)) (λ ts. (sheet u' ts, out u' ts)) (λ z. z.0) (λ z. z.0) (λ z z' k. k.shown)
    (a.coupled u u' r.as_many r.as_many' (all_map (λ i n. r.others i n) q_free)))

-- so no d places of it tell two bytes apart
pub strong_hides : {width d need count : ℕ} {sheet out : (x tape : List ℕ) → List ℕ} → Strong width d need count sheet out
    → (ps rs : List ℕ) (x y : ℕ) → length ps ≤ d → Below count ps → x < 2 ^ width → y < 2 ^ width
    → how_many (2 ^ width) (d + need) (λ cs. same (listed (sheet (factor x (take d cs)) (drop d cs)) ps) rs)
    ≡ how_many (2 ^ width) (d + need) (λ cs. same (listed (sheet (factor y (take d cs)) (drop d cs)) ps) rs)
strong_hides {width} {d} {need} B ps rs x y few below hx hy =
    counted_alike width (d + need) ps rs _ _ (strong-coupled B ps x y few below hx hy)
