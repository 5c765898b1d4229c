-- Couplings: by moving every tape by the same numbers; of functions of the outcomes; and one computation after another. Assumes nothing.
use mathlib.Core.Path.{◌≡◌, refl, sym, ap, ap₂, subst, subst₂, ◌∙◌}
use mathlib.Core.List.{List, [], ◌++◌}
use Prim.Native.Nat.{ℕ, ◌+◌, ◌-◌, ◌^◌, ◌≤◌}
use native.Mathlib.Omega.{arith}
use lib.ListN.{length, take, drop, length-append}
use lib.Seq.{drop_at, take_all}
use Rattle.xor.specs.Lists.{done, Below}
use Rattle.xor.specs.Sums.{xors}
use Rattle.xor.proofs.ListsLaws.{all_append}
use Rattle.xor.proofs.StringLaws.{length-xors}
use Rattle.isw.specs.Hiding.{sums}
use Rattle.isw.proofs.CountLaws.{sums_cong, sums-split, sums-xors}
use Rattle.isw.proofs.MaskLaws.{xors_below}
use Rattle.gadgets.specs.Coupling.{Tape, Coupled}

tape-append : {width n m : ℕ} {us vs : List ℕ} → Tape width n us → Tape width m vs → Tape width (n + m) (us ++ vs)
tape-append {us = us} {vs = vs} u v = record { long = length-append us vs ∙ ap₂ ◌+◌ u.long v.long; small = all_append u.small v.small }

-- by moving every tape by the same numbers
pub coupled_by : {X : Type 0} (width n : ℕ) (R : X → X → Type 0) (c c' : List ℕ → X) (es : List ℕ) → length es ≤ n → Below (2 ^ width) es
    → ((ts : List ℕ) → length ts ≡ n → R (c ts) (c' (xors ts es))) → Coupled width n R c c'
coupled_by width n R c c' es l b h g g' k =
    sums_cong (2 ^ width) n _ _ (λ ts e u. k ts (xors ts es) (record { long = e; small = u }) (moved ts e u) (h ts e))
    ∙ sym (sums-xors width n es (λ ts. g' (c' ts)) l b)
  where
    moved : (ts : List ℕ) → length ts ≡ n → Below (2 ^ width) ts → Tape width n (xors ts es)
    moved ts e u = record { long = omega (arith, length-xors ts es); small = xors_below width u b }

-- with no tape
pub coupled-none : {X : Type 0} (width : ℕ) (R : X → X → Type 0) (c c' : List ℕ → X) → R (c []) (c' []) → Coupled width 0 R c c'
unfolding sums
coupled-none width R c c' h g g' k = k [] [] (record { long = refl; small = done }) (record { long = refl; small = done }) h

-- a function of the outcomes
pub coupled-map : {X Y : Type 0} (width n : ℕ) (R : X → X → Type 0) (Q : Y → Y → Type 0) (c c' : List ℕ → X) (f f' : X → Y)
    → ((x x' : X) → R x x' → Q (f x) (f' x')) → Coupled width n R c c' → Coupled width n Q (λ ts. f (c ts)) (λ ts. f' (c' ts))
coupled-map width n R Q c c' f f' h k g g' e = k (λ x. g (f x)) (λ x. g' (f' x)) (λ ts ts' t t' r. e ts ts' t t' (h (c ts) (c' ts') r))

-- more is known of the outcomes
pub coupled_known : {X : Type 0} (width n : ℕ) (R Q : X → X → Type 0) (c c' : List ℕ → X)
    → ((ts ts' : List ℕ) → Tape width n ts → Tape width n ts' → R (c ts) (c' ts') → Q (c ts) (c' ts'))
    → Coupled width n R c c' → Coupled width n Q c c'
coupled_known width n R Q c c' h k g g' e = k g g' (λ ts ts' t t' r. e ts ts' t t' (h ts ts' t t' r))

-- one computation, and then another that draws from the rest of the tape
pub coupled_then : {X Y : Type 0} (width n m : ℕ) (R : X → X → Type 0) (Q : Y → Y → Type 0) (c c' : List ℕ → X) (k k' : X → List ℕ → Y)
    → ((us vs : List ℕ) → n ≤ length us → c (us ++ vs) ≡ c us) → ((us vs : List ℕ) → n ≤ length us → c' (us ++ vs) ≡ c' us)
    → Coupled width n R c c'
    → ((us us' : List ℕ) → Tape width n us → Tape width n us' → R (c us) (c' us') → Coupled width m Q (k (c us)) (k' (c' us')))
    → Coupled width (n + m) Q (λ ts. k (c ts) (drop n ts)) (λ ts. k' (c' ts) (drop n ts))
coupled_then {X} {Y} width n m R Q c c' k k' s s' h f g g' e =
    apart c k s g
    ∙ h (λ x. sums (2 ^ width) m (λ vs. g (k x vs))) (λ x. sums (2 ^ width) m (λ vs. g' (k' x vs)))
    (λ us us' t t' r. f us us' t t' r g g' (λ vs vs' u u' q.
    let p : k (c (us ++ vs)) (drop n (us ++ vs)) ≡ k (c us) vs = one_run c k s us vs t.long in
    let p' : k' (c' (us' ++ vs')) (drop n (us' ++ vs')) ≡ k' (c' us') vs' = one_run c' k' s' us' vs' t'.long in
    sym (ap g p) ∙ e (us ++ vs) (us' ++ vs') (tape-append t u) (tape-append t' u') (subst₂ Q (sym p) (sym p') q) ∙ ap g' p'))
    ∙ sym (apart c' k' s' g')
  where
    one_run : (c : List ℕ → X) (k : X → List ℕ → Y) → ((us vs : List ℕ) → n ≤ length us → c (us ++ vs) ≡ c us)
        → (us vs : List ℕ) → length us ≡ n → k (c (us ++ vs)) (drop n (us ++ vs)) ≡ k (c us) vs
    one_run c k s us vs l = ap₂ (λ (x : X) (v : List ℕ). k x v) (s us vs (omega arith)) (drop_at us vs n l)

    apart : (c : List ℕ → X) (k : X → List ℕ → Y) → ((us vs : List ℕ) → n ≤ length us → c (us ++ vs) ≡ c us) → (g : Y → ℕ)
        → sums (2 ^ width) (n + m) (λ ts. g (k (c ts) (drop n ts))) ≡ sums (2 ^ width) n (λ us. sums (2 ^ width) m (λ vs. g (k (c us) vs)))
    apart c k s g =
        sums-split (2 ^ width) n m (λ ts. g (k (c ts) (drop n ts)))
        ∙ sums_cong (2 ^ width) n _ _ (λ us l b. sums_cong (2 ^ width) m _ _ (λ vs l' b'. ap g (one_run c k s us vs l)))

-- by the front of a tape that has no more
pub coupled-front : {X : Type 0} (width n : ℕ) (R : X → X → Type 0) (c c' : List ℕ → X)
    → Coupled width n R c c' → Coupled width n R (λ ts. c (take n ts)) (λ ts. c' (take n ts))
coupled-front width n R c c' h g g' k =
    sums_cong (2 ^ width) n _ _ (λ ts l b. ap (λ (us : List ℕ). g (c us)) (whole ts l))
    ∙ h g g' (λ ts ts' t t' r.
    ap (λ (us : List ℕ). g (c us)) (sym (whole ts t.long))
    ∙ k ts ts' t t' (subst₂ (λ (us us' : List ℕ). R (c us) (c' us')) (sym (whole ts t.long)) (sym (whole ts' t'.long)) r)
    ∙ ap (λ (us : List ℕ). g' (c' us)) (whole ts' t'.long))
    ∙ sums_cong (2 ^ width) n _ _ (λ ts l b. ap (λ (us : List ℕ). g' (c' us)) (sym (whole ts l)))
  where
    whole : (ts : List ℕ) → length ts ≡ n → take n ts ≡ ts
    whole ts l = take_all n ts (omega arith)

-- with tape left over
pub coupled_spare : {X : Type 0} (width n e : ℕ) (R : X → X → Type 0) (c c' : List ℕ → X)
    → ((us vs : List ℕ) → n ≤ length us → c (us ++ vs) ≡ c us) → ((us vs : List ℕ) → n ≤ length us → c' (us ++ vs) ≡ c' us)
    → Coupled width n R c c' → Coupled width (n + e) R c c'
coupled_spare width n e R c c' s s' h =
    coupled_then width n e R R c c' (λ x vs. x) (λ x vs. x) s s' h (λ us us' t t' r. coupled-constant e R (c us) (c' us') r)
  where
    coupled-constant : {X : Type 0} (e : ℕ) (R : X → X → Type 0) (x x' : X) → R x x' → Coupled width e R (λ ts. x) (λ ts. x')
    coupled-constant e R x x' r = coupled_by width e R (λ ts. x) (λ ts. x') [] (omega arith) done (λ ts l. r)

-- on any tape that is long enough
pub coupled_within : {X : Type 0} (width n m : ℕ) (R : X → X → Type 0) (c c' : List ℕ → X)
    → ((us vs : List ℕ) → n ≤ length us → c (us ++ vs) ≡ c us) → ((us vs : List ℕ) → n ≤ length us → c' (us ++ vs) ≡ c' us)
    → n ≤ m → Coupled width n R c c' → Coupled width m R c c'
coupled_within width n m R c c' s s' le h =
    let e : n + (m - n) ≡ m = omega arith in
    subst (λ (k : ℕ). Coupled width k R c c') e (coupled_spare width n (m - n) R c c' s s' h)
