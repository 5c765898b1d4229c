-- Loops whose steps draw from the front of a tape: what is left to do, on what is left of the tape, gives the whole. `DrawingLoops` has the
-- instances: S-boxes of listed bytes, words of the key expansion, rounds. Assumes nothing.
use mathlib.Core.Path.{◌≡◌, refl, sym, ap, ap₂, ◌∙◌, subst}
use mathlib.Core.List.{List, ◌++◌}
use Prim.Native.Nat.{ℕ, zero, suc, ◌+◌, ◌*◌, ◌-◌, ◌≤◌, ◌<◌}
use native.Mathlib.Omega.{arith}
use native.Mathlib.Numerals.{add-one}
use lib.ListN.{length, take, drop, length-drop}
use lib.Seq.{drop-append-le, drop-drop}
use Rattle.xor.proofs.WriteLaws.{part_rest}
use Rattle.tape_words.specs.Words.{bytes_of}
use Rattle.tape_words.proofs.WordsLaws.{bytes-part}

-- n steps on states of type A, from any of them on: step m draws `cost m` bytes; step m and those after it are `left m`, and draw `need m`
pub record Loop (A : Type 0) (n : ℕ) : Type 0 where
  pub step : (m : ℕ) → A → (tape : List ℕ) → A
  pub cost : (m : ℕ) → ℕ
  pub left : (m : ℕ) → A → (tape : List ℕ) → A
  pub need : (m : ℕ) → ℕ
  pub left_next : (m : ℕ) → m < n → (a : A) (ts : List ℕ) → left m a ts ≡ left (suc m) (step m a ts) (drop (cost m) ts)
  pub left_end : (a : A) (ts : List ℕ) → left n a ts ≡ a
  pub need_next : (m : ℕ) → m < n → need m ≡ cost m + need (suc m)
  pub need_end : need n ≡ 0

module _ {A : Type 0} {n : ℕ} (loop : Loop A n) where
  left-none : (m : ℕ) → m ≡ n → (a : A) (ts : List ℕ) → loop.left m a ts ≡ a
  left-none m e a ts = ap (λ (i : ℕ). loop.left i a ts) e ∙ loop.left_end a ts

  need-none : (m : ℕ) → m ≡ n → loop.need m ≡ 0
  need-none m e = ap loop.need e ∙ loop.need_end

  -- ---- shape: what every step keeps, or takes one further, all that is left keeps, or takes to the end

  module _ (P : ℕ → A → Type 0) (keeps : (m : ℕ) → m < n → (a : A) (ts : List ℕ) → P m a → P (suc m) (loop.step m a ts)) where
    keeps_from : (k m : ℕ) → m + k ≡ n → (a : A) (ts : List ℕ) → P m a → P n (loop.left m a ts)
    keeps_from zero m e a ts h =
        let q : m ≡ n = omega arith in
        subst (P n) (sym (left-none m q a ts)) (subst (λ (i : ℕ). P i a) q h)
    keeps_from (suc k) m e a ts h =
        let u : m < n = omega arith in
        subst (P n) (sym (loop.left_next m u a ts))
        (keeps_from k (suc m) (omega arith) (loop.step m a ts) (drop (loop.cost m) ts) (keeps m u a ts h))

    pub left_keeps : (m : ℕ) → m ≤ n → (a : A) (ts : List ℕ) → P m a → P n (loop.left m a ts)
    left_keeps m u = keeps_from (n - m) m (omega arith)

  -- ---- surplus: where no step heeds what is behind its own bytes, all that is left doesn't

  module _ (alike : (m : ℕ) → m < n → (a : A) (ts us : List ℕ) → loop.cost m ≤ length ts → loop.step m a (ts ++ us) ≡ loop.step m a ts) where
    surplus_from : (k m : ℕ) → m + k ≡ n → (a : A) (ts us : List ℕ) → loop.need m ≤ length ts → loop.left m a (ts ++ us) ≡ loop.left m a ts
    surplus_from zero m e a ts us h =
        let q : m ≡ n = omega arith in
        left-none m q a (ts ++ us) ∙ sym (left-none m q a ts)
    surplus_from (suc k) m e a ts us h =
        let u : m < n = omega arith in
        let q = loop.need_next m u in
        let r = length-drop (loop.cost m) ts in
        loop.left_next m u a (ts ++ us)
        ∙ ap₂ (loop.left (suc m)) (alike m u a ts us (omega arith)) (drop-append-le (loop.cost m) ts us (omega arith))
        ∙ surplus_from k (suc m) (omega arith) (loop.step m a ts) (drop (loop.cost m) ts) us (omega arith)
        ∙ sym (loop.left_next m u a ts)

    pub left-surplus : (m : ℕ) → m ≤ n → (a : A) (ts us : List ℕ) → loop.need m ≤ length ts → loop.left m a (ts ++ us) ≡ loop.left m a ts
    left-surplus m u = surplus_from (n - m) m (omega arith)

-- ---- the code's loop from step `start` on, from state a₀

module _ {A : Type 0} {n : ℕ} (loop : Loop A n) (start : ℕ) (a₀ : A) (tape : List ℕ) where
  -- before step m, with `taken` bytes drawn and the state at a
  pub record Drawing (m taken : ℕ) (a : A) : Type 0 where
    pub drawn : taken + loop.need m ≡ loop.need start
    pub same : loop.left m a (drop taken tape) ≡ loop.left start a₀ tape

  pub drawing_start : Drawing start 0 a₀
  drawing_start = record { drawn = omega arith; same = refl }

module _ {A : Type 0} {n : ℕ} {loop : Loop A n} {start : ℕ} {a₀ : A} {tape : List ℕ} {m taken : ℕ} {a : A}
    (so_far : Drawing loop start a₀ tape m taken a) where
  -- the tape that holds the whole holds the step's bytes
  pub drawing_room : m < n → taken + loop.cost m ≤ loop.need start
  drawing_room u = omega (arith, so_far.drawn, loop.need_next m u)

  -- the step, on the part of the tape that its callee got
  pub drawing_more : (q : ℕ) (a' : A) → m < n → q ≡ loop.cost m → a' ≡ loop.step m a (take (length tape - taken) (drop taken tape))
      → Drawing loop start a₀ tape (m + 1) (taken + q) a'
  drawing_more q a' u eq e =
      let rest = drop taken tape in
      let made : a' ≡ loop.step m a rest = e ∙ ap (loop.step m a) (part_rest tape taken) in
      let behind : drop (taken + q) tape ≡ drop (loop.cost m) rest =
      ap (λ (b : ℕ). drop (taken + b) tape) eq ∙ sym (drop-drop (loop.cost m) taken tape)
      in
      let next : loop.need (m + 1) ≡ loop.need (suc m) = ap loop.need (add-one m) in
      record {
        drawn = omega (arith, so_far.drawn, loop.need_next m u);
        same =
            ap (λ (i : ℕ). loop.left i a' (drop (taken + q) tape)) (add-one m)
            ∙ ap₂ (loop.left (suc m)) made behind
            ∙ sym (loop.left_next m u a rest)
            ∙ so_far.same;
      }

  pub drawing_taken : m ≡ n → taken ≡ loop.need start
  drawing_taken e = omega (arith, so_far.drawn, need-none loop m e)

  pub drawing_done : m ≡ n → a ≡ loop.left start a₀ tape
  drawing_done e = sym (left-none loop m e a (drop taken tape)) ∙ so_far.same

-- ---- the same on a tape of words, of which `taken` are drawn: each step draws whole words

module _ {A : Type 0} {n : ℕ} {loop : Loop A n} {start : ℕ} {a₀ : A} {m : ℕ} {a : A} (words : List ℕ) (taken : ℕ)
    (so_far : Drawing loop start a₀ (bytes_of words) m (4 * taken) a) where
  -- the step, on the part of the words that its callee got
  pub drawing_words : (q : ℕ) (a' : A) → m < n → 4 * q ≡ loop.cost m
      → a' ≡ loop.step m a (bytes_of (take (length words - taken) (drop taken words)))
      → Drawing loop start a₀ (bytes_of words) (m + 1) (4 * (taken + q)) a'
  drawing_words q a' u eq e =
      let sum : 4 * taken + 4 * q ≡ 4 * (taken + q) = omega arith in
      subst (λ (k : ℕ). Drawing loop start a₀ (bytes_of words) (m + 1) k a') sum
      (drawing_more so_far (4 * q) a' u eq (e ∙ ap (loop.step m a) (bytes-part taken words)))
