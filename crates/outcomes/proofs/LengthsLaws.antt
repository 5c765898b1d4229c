-- Which of the listed lengths a share has: entry by entry, and the three lengths of keys. Assumes nothing.
use mathlib.Core.Path.{◌≡◌, refl, sym, ap, ◌∙◌, subst}
use mathlib.Core.Bool.{cond}
use mathlib.Core.List.{List, [], ◌∷◌}
use Prim.Native.Nat.{ℕ, suc, ◌+◌, ◌*◌, ◌-◌, ◌≤◌, ◌<◌}
use native.Mathlib.Numerals.{add-one}
use native.Mathlib.Omega.{arith}
use lib.ListN.{length, get_or, drop, drop_of_length-le}
use lib.Seq.{drop-cons}
use borrow.Author.Tests.{eq-eqb, ne_eqb}
use Rattle.xor.proofs.Tests.{by_eq}
use Rattle.std.specs.Prelude.{Option, Some, None, Result, Ok, Err}
use Rattle.std.specs.Option.{ok_or}
use Rattle.outcomes.specs.declared.Refusal.{Refusal}
use Rattle.outcomes.specs.Outcome.{one_of, listed_length, key_lengths, share_length}

-- ---- entry by entry

module _ (l : ℕ) (ls : List ℕ) (n b : ℕ) where
  pub one_of_here : b ≡ n * l → one_of (l ∷ ls) n b ≡ l
  unfolding one_of
  one_of_here e = simp (eq-eqb b (n * l) e)

  pub one_of_next : (b ≡ n * l → ⊥) → one_of (l ∷ ls) n b ≡ one_of ls n b
  unfolding one_of
  one_of_next h = simp (ne_eqb b (n * l) h)

-- the list looked through from its front: before its entry k is looked at, what its rest from k on gives
module _ (ls : List ℕ) (n b k : ℕ) where
  pub listed_length_end : length ls ≤ k → listed_length (drop k ls) n b ≡ None
  unfolding listed_length
  listed_length_end h = rw (drop_of_length-le ls h) refl

  module _ (within : k < length ls) where
    pub listed_length_found : b ≡ n * get_or ls k 0 → listed_length (drop k ls) n b ≡ Some (get_or ls k 0)
    unfolding listed_length
    listed_length_found e = rw (drop-cons ls k 0 within) (simp (eq-eqb b (n * get_or ls k 0) e))

    pub listed_length-passed : (b ≡ n * get_or ls k 0 → ⊥) → listed_length (drop k ls) n b ≡ listed_length (drop (k + 1) ls) n b
    unfolding listed_length
    listed_length-passed h = rw (add-one k, drop-cons ls k 0 within) (simp (ne_eqb b (n * get_or ls k 0) h))

-- the list looked through from its end: before its entry k - 1 is looked at, what its rest from k on gives
module _ (ls : List ℕ) (n b k : ℕ) where
  pub one_of_end : length ls ≤ k → 0 ≡ one_of (drop k ls) n b
  unfolding one_of
  one_of_end h = rw (drop_of_length-le ls h) refl

  module _ (some : 0 < k) (within : k ≤ length ls) where
    entry : drop (k - 1) ls ≡ get_or ls (k - 1) 0 ∷ drop k ls
    entry =
        let h : k - 1 < length ls = omega arith in
        let e : suc (k - 1) ≡ k = omega arith in
        drop-cons ls (k - 1) 0 h ∙ ap (λ (m : ℕ). get_or ls (k - 1) 0 ∷ drop m ls) e

    pub one_of_found : b ≡ n * get_or ls (k - 1) 0 → get_or ls (k - 1) 0 ≡ one_of (drop (k - 1) ls) n b
    one_of_found e = rw entry (sym (one_of_here (get_or ls (k - 1) 0) (drop k ls) n b e))

    pub one_of-passed : (f : ℕ) → (b ≡ n * get_or ls (k - 1) 0 → ⊥) → f ≡ one_of (drop k ls) n b → f ≡ one_of (drop (k - 1) ls) n b
    one_of-passed f h e = e ∙ rw entry (sym (one_of_next (get_or ls (k - 1) 0) (drop k ls) n b h))

-- what was found is the length by number
pub listed_length-some : (ls : List ℕ) (n b k : ℕ) → listed_length ls n b ≡ Some k → one_of ls n b ≡ k
unfolding listed_length one_of
listed_length-some [] n b k = λ e. cc
listed_length-some (l ∷ ls) n b k =
    by_eq (λ c. cond c (Some l) (listed_length ls n b) ≡ Some k → cond c l (one_of ls n b) ≡ k) b (n * l)
    (λ e h. cc) (λ e. listed_length-some ls n b k)

pub listed_length-none : (ls : List ℕ) (n b : ℕ) → listed_length ls n b ≡ None → one_of ls n b ≡ 0
unfolding listed_length one_of
listed_length-none [] n b = λ e. refl
listed_length-none (l ∷ ls) n b =
    by_eq (λ c. cond c (Some l) (listed_length ls n b) ≡ None → cond c l (one_of ls n b) ≡ 0) b (n * l)
    (λ e h. cc) (λ e. listed_length-none ls n b)

-- a length that was found is the string's
pub one_of_is : (ls : List ℕ) (n b : ℕ) → 0 < one_of ls n b → b ≡ n * one_of ls n b
unfolding one_of
one_of_is [] n b = λ h. absurd (omega arith)
one_of_is (l ∷ ls) n b =
    by_eq (λ c. 0 < cond c l (one_of ls n b) → b ≡ n * cond c l (one_of ls n b)) b (n * l) (λ e h. e) (λ e. one_of_is ls n b)

-- what holds of all listed lengths holds of one that was found
pub data Each (P : ℕ → Type 0) : List ℕ → Type 0 where
  none : Each P []
  also : {l : ℕ} {ls : List ℕ} → P l → Each P ls → Each P (l ∷ ls)

pub one_of-each : {P : ℕ → Type 0} {ls : List ℕ} → Each P ls → (n b : ℕ) → 0 < one_of ls n b → P (one_of ls n b)
unfolding one_of
one_of-each none n b = λ h. absurd (omega arith)
one_of-each {P} (also {l} {ls} p ps) n b =
    by_eq (λ c. 0 < cond c l (one_of ls n b) → P (cond c l (one_of ls n b))) b (n * l) (λ e h. p) (λ e. one_of-each ps n b)

-- the same of one that is told from none
pub listed_length-each : {P : ℕ → Type 0} {ls : List ℕ} → Each P ls → (n b k : ℕ) → listed_length ls n b ≡ Some k → P k
unfolding listed_length
listed_length-each none n b k = λ e. absurd (cc)
listed_length-each {P} (also {l} {ls} p ps) n b k =
    by_eq (λ c. cond c (Some l) (listed_length ls n b) ≡ Some k → P k) b (n * l)
    (λ e h. let z : l ≡ k = cc in subst P z p) (λ e. listed_length-each ps n b k)

-- a bound of all is one of what was found, found or not
pub one_of_le : {m : ℕ} {ls : List ℕ} → Each (λ l. l ≤ m) ls → (n b : ℕ) → one_of ls n b ≤ m
unfolding one_of
one_of_le none n b = omega arith
one_of_le {m} (also {l} {ls} p ps) n b = by_eq (λ c. cond c l (one_of ls n b) ≤ m) b (n * l) (λ e. p) (λ e. one_of_le ps n b)

-- ---- the lengths of keys

pub share_length_is : (n b : ℕ) → 0 < share_length n b → b ≡ n * share_length n b
share_length_is = one_of_is key_lengths

pub share_length_le : (n b : ℕ) → share_length n b ≤ 32
share_length_le = one_of_le (also (omega arith) (also (omega arith) (also (omega arith) none)))

-- a share's length is one of three
pub share_length_cases : (P : ℕ → Type 0) → P 16 → P 24 → P 32 → (n b : ℕ) → 0 < share_length n b → P (share_length n b)
share_length_cases P x y z = one_of-each {P = P} (also x (also y (also z none)))

-- what the code finds, by number
pub share_length-some : (n b l : ℕ) → listed_length key_lengths n b ≡ Some l → (share_length n b ≡ l) × (0 < l)
share_length-some n b l e = (
  listed_length-some key_lengths n b l e,
  listed_length-each {P = λ k. 0 < k} (also (omega arith) (also (omega arith) (also (omega arith) none))) n b l e,
)

pub share_length-none : (n b : ℕ) → listed_length key_lengths n b ≡ None → share_length n b ≡ 0
share_length-none = listed_length-none key_lengths

-- the same behind `ok_or(..)?`
pub ok_or-ok : (o : Option ℕ) (r : Refusal) (q : Result ℕ Refusal) (l : ℕ) → q ≡ ok_or o r → q ≡ Ok l → o ≡ Some l
ok_or-ok None r q l e f = absurd (cc)
ok_or-ok (Some k) r q l e f = let z : k ≡ l = cc in ap Some z

pub ok_or-err : (o : Option ℕ) (r : Refusal) (q : Result ℕ Refusal) (s : Refusal) → q ≡ ok_or o r → q ≡ Err s → (o ≡ None) × (s ≡ r)
ok_or-err None r q s e f = (refl, cc)
ok_or-err (Some k) r q s e f = absurd (cc)

pub share_length-found : (n b l : ℕ) (o : Option ℕ) (r : Refusal) (q : Result ℕ Refusal) → o ≡ listed_length key_lengths n b → q ≡ ok_or o r → q ≡ Ok l
    → (share_length n b ≡ l) × (0 < l)
share_length-found n b l o r q d e f = share_length-some n b l (sym d ∙ ok_or-ok o r q l e f)

pub share_length-missing : (n b : ℕ) (o : Option ℕ) (r : Refusal) (q : Result ℕ Refusal) (s : Refusal) → o ≡ listed_length key_lengths n b → q ≡ ok_or o r
    → q ≡ Err s → (share_length n b ≡ 0) × (s ≡ r)
share_length-missing n b o r q s d e f =
    let m = ok_or-err o r q s e f in (share_length-none n b (sym d ∙ m.0), m.1)

pub share_length_16 : (n : ℕ) → share_length n (n * 16) ≡ 16
share_length_16 n = one_of_here 16 (24 ∷ 32 ∷ []) n (n * 16) refl

pub share_length_24 : (n : ℕ) → 0 < n → share_length n (n * 24) ≡ 24
share_length_24 n h = one_of_next 16 (24 ∷ 32 ∷ []) n (n * 24) (λ e. omega arith) ∙ one_of_here 24 (32 ∷ []) n (n * 24) refl

pub share_length_32 : (n : ℕ) → 0 < n → share_length n (n * 32) ≡ 32
share_length_32 n h =
    one_of_next 16 (24 ∷ 32 ∷ []) n (n * 32) (λ e. omega arith)
    ∙ one_of_next 24 (32 ∷ []) n (n * 32) (λ e. omega arith)
    ∙ one_of_here 32 [] n (n * 32) refl

-- n shares of such a length have it
pub share_length-laid : (n k b : ℕ) → 0 < n → 0 < share_length k b → share_length n (n * share_length k b) ≡ share_length k b
share_length-laid n k b h = share_length_cases (λ s. share_length n (n * s) ≡ s) (share_length_16 n) (share_length_24 n h) (share_length_32 n h) k b
