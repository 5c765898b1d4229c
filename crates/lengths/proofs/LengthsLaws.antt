-- What the lengths of a call say: the size of the key, and how much tape is wanted. Assumes nothing.
use mathlib.Core.Path.{◌≡◌, refl, sym, ap, ap₂, ◌∙◌, subst}
use mathlib.Core.List.{[], ◌∷◌}
use Prim.Native.Nat.{ℕ, zero, suc, ◌+◌, ◌*◌, ◌-◌, ◌/◌, ◌%◌, ◌≤◌, ◌<◌}
use native.Mathlib.Nat.{mul-le-mul}
use native.Mathlib.Omega.{arith}
use Rattle.xor.proofs.Tests.{by_eq}
use Rattle.std.specs.Prelude.{Option, Some, None}
use Rattle.outcomes.specs.Outcome.{one_of, listed_length, key_lengths, share_length}
use Rattle.outcomes.proofs.LengthsLaws.{one_of_here, one_of_next, one_of_is, one_of-each, listed_length-each, listed_length-some, listed_length-none, none, also, share_length_16, share_length_24}
use Rattle.outcomes.proofs.LengthsLaws.{share_length_32, share_length_cases, share_length_is, share_length-some, share_length-none}
use Rattle.sbox.specs.Box.{box_need, box_most}
use Rattle.cipher.specs.Fips197.{rounds}
use Rattle.cipher.specs.Cipher.{schedule_need, encrypted_with_need}
use Rattle.cipher.proofs.NeedLaws.{schedule_need_4, schedule_need_6, schedule_need_8, encrypted_with_need_is}
use Rattle.lengths.specs.Lengths.{key_words, prepared_length, prepared_lengths, prepared_words, boxes_of, KeySize, four, six, eight}

-- ---- the size of the key

-- the sizes are the even numbers from 4 to 8, which is what the code's type says of one
pub sized-even : {nk : ℕ} → KeySize nk → (4 ≤ nk) × (nk ≤ 8) × (nk % 2 ≡ 0)
sized-even four = (omega arith, omega arith, refl)
sized-even six = (omega arith, omega arith, refl)
sized-even eight = (omega arith, omega arith, refl)

pub even-sized : (nk : ℕ) → (4 ≤ nk) × (nk ≤ 8) × (nk % 2 ≡ 0) → KeySize nk
even-sized nk h =
    by_eq (λ b. KeySize nk) nk 4 (λ e. subst KeySize (sym e) four)
    (λ f. by_eq (λ b. KeySize nk) nk 6 (λ e. subst KeySize (sym e) six)
    (λ g. let e : nk ≡ 8 = omega arith in subst KeySize (sym e) eight))

module _ (d l : ℕ) (some : 0 < key_words d l) where
  key_share : 0 < share_length (suc d) l
  unfolding key_words
  key_share = omega arith

  pub key_sized : KeySize (key_words d l)
  unfolding key_words
  key_sized = share_length_cases (λ s. KeySize (s / 4)) four six eight (suc d) l key_share

  pub key_length : l ≡ suc d * (4 * key_words d l)
  unfolding key_words
  key_length =
      let e : 4 * (share_length (suc d) l / 4) ≡ share_length (suc d) l =
      share_length_cases (λ s. 4 * (s / 4) ≡ s) refl refl refl (suc d) l key_share in
      share_length_is (suc d) l key_share ∙ ap (λ (m : ℕ). suc d * m) (sym e)

-- key shares have the size of their key
pub key_words-of : {nk : ℕ} (d : ℕ) → KeySize nk → key_words d (suc d * (4 * nk)) ≡ nk
unfolding key_words
key_words-of d four = ap (λ (l : ℕ). l / 4) (share_length_16 (suc d))
key_words-of d six = ap (λ (l : ℕ). l / 4) (share_length_24 (suc d) (omega arith))
key_words-of d eight = ap (λ (l : ℕ). l / 4) (share_length_32 (suc d) (omega arith))

-- the same from prepared keys
module _ (d l : ℕ) (some : 0 < prepared_words d l) where
  prepared_share : 0 < one_of prepared_lengths (suc d) l
  unfolding prepared_words
  prepared_share = omega arith

  pub prepared_sized : KeySize (prepared_words d l)
  unfolding prepared_words
  prepared_sized = one_of-each {P = λ s. KeySize (s / 16 - 7)} (also four (also six (also eight none))) (suc d) l prepared_share

  pub prepared_long : l ≡ prepared_length (prepared_words d l) d
  unfolding prepared_words prepared_length rounds
  prepared_long =
      one_of_is prepared_lengths (suc d) l prepared_share
      ∙ ap (λ (m : ℕ). suc d * m)
      (one_of-each {P = λ s. s ≡ 16 * suc (s / 16 - 7 + 6)} (also {l = 176} refl (also {l = 208} refl (also {l = 240} refl none)))
      (suc d) l prepared_share)

-- ---- the sizes as the code finds them, of a length that was looked up

-- what the code's type says of a size
abbrev Sized : ℕ → Type 0
Sized n = (4 ≤ n) × (n ≤ 8) × (n % 2 ≡ 0)

module _ (n d b : ℕ) (shares : n ≡ suc d) (o : Option ℕ) (looked : o ≡ listed_length key_lengths n b) where
  pub key_words-none : o ≡ None → key_words d b ≡ 0
  unfolding key_words
  key_words-none e =
      ap (λ (m : ℕ). share_length m b / 4) (sym shares) ∙ ap (λ (l : ℕ). l / 4) (share_length-none n b (sym looked ∙ e))

  module _ (l : ℕ) (e : o ≡ Some l) where
    pub key_words-made : l / 4 ≡ key_words d b
    unfolding key_words
    key_words-made =
        ap (λ (l : ℕ). l / 4) (sym (share_length-some n b l (sym looked ∙ e)).0) ∙ ap (λ (m : ℕ). share_length m b / 4) shares

    pub key_words-sized : Sized (l / 4)
    key_words-sized =
        listed_length-each {P = λ k. Sized (k / 4)}
        (also (omega arith, omega arith, refl) (also (omega arith, omega arith, refl) (also (omega arith, omega arith, refl) none)))
        n b l (sym looked ∙ e)

module _ (n d b : ℕ) (shares : n ≡ suc d) (o : Option ℕ) (looked : o ≡ listed_length prepared_lengths n b) where
  pub prepared_words-none : o ≡ None → prepared_words d b ≡ 0
  unfolding prepared_words
  prepared_words-none e =
      ap (λ (m : ℕ). one_of prepared_lengths m b / 16 - 7) (sym shares)
      ∙ ap (λ (l : ℕ). l / 16 - 7) (listed_length-none prepared_lengths n b (sym looked ∙ e))

  module _ (l : ℕ) (e : o ≡ Some l) where
    pub prepared_words-made : l / 16 - 7 ≡ prepared_words d b
    unfolding prepared_words
    prepared_words-made =
        ap (λ (l : ℕ). l / 16 - 7) (sym (listed_length-some prepared_lengths n b l (sym looked ∙ e)))
        ∙ ap (λ (m : ℕ). one_of prepared_lengths m b / 16 - 7) shares

    pub prepared_words-sized : (7 ≤ l / 16) × Sized (l / 16 - 7)
    prepared_words-sized =
        listed_length-each {P = λ k. (7 ≤ k / 16) × Sized (k / 16 - 7)}
        (also (omega arith, (omega arith, omega arith, refl))
        (also (omega arith, (omega arith, omega arith, refl)) (also (omega arith, (omega arith, omega arith, refl)) none)))
        n b l (sym looked ∙ e)

-- keys that were prepared have the size of their key: the three lengths differ
pub prepared_words-of : {nk : ℕ} (d : ℕ) → KeySize nk → prepared_words d (prepared_length nk d) ≡ nk
unfolding prepared_words prepared_length rounds
prepared_words-of d four = ap (λ (l : ℕ). l / 16 - 7) (one_of_here 176 (208 ∷ 240 ∷ []) (suc d) (suc d * 176) refl)
prepared_words-of d six =
    ap (λ (l : ℕ). l / 16 - 7)
    (one_of_next 176 (208 ∷ 240 ∷ []) (suc d) (suc d * 208) (λ e. omega arith) ∙ one_of_here 208 (240 ∷ []) (suc d) (suc d * 208) refl)
prepared_words-of d eight =
    ap (λ (l : ℕ). l / 16 - 7)
    (one_of_next 176 (208 ∷ 240 ∷ []) (suc d) (suc d * 240) (λ e. omega arith)
    ∙ one_of_next 208 (240 ∷ []) (suc d) (suc d * 240) (λ e. omega arith)
    ∙ one_of_here 240 [] (suc d) (suc d * 240) refl)

-- ---- how long and how much

pub size_bounds : {nk : ℕ} → KeySize nk → (1 ≤ nk) × (nk ≤ 8)
size_bounds four = (omega arith, omega arith)
size_bounds six = (omega arith, omega arith)
size_bounds eight = (omega arith, omega arith)

-- the length of prepared keys, as the code counts it
pub prepared_length_is : (nk n d : ℕ) → n ≡ suc d → n * (16 * (nk + 7)) ≡ prepared_length nk d
unfolding prepared_length rounds
prepared_length_is nk n d s = let e : 16 * (nk + 7) ≡ 16 * suc (nk + 6) = omega arith in ap₂ ◌*◌ s e

pub prepared_length_bound : (nk n : ℕ) → n ≤ 9 → nk ≤ 8 → n * (16 * (nk + 7)) ≤ 2160
prepared_length_bound nk n h g = let b : 16 * (nk + 7) ≤ 240 = omega arith in mul-le-mul h b

boxes_bound : {nk : ℕ} → KeySize nk → boxes_of nk ≤ 52
unfolding boxes_of
boxes_bound four = omega arith
boxes_bound six = omega arith
boxes_bound eight = omega arith

pub schedule_need-made : {nk : ℕ} (d : ℕ) → KeySize nk → boxes_of nk * box_need d ≡ schedule_need nk d
unfolding boxes_of
schedule_need-made d four = sym (schedule_need_4 d)
schedule_need-made d six = sym (schedule_need_6 d)
schedule_need-made d eight = sym (schedule_need_8 d)

pub schedule_need_bound : {nk b : ℕ} → KeySize nk → b ≤ box_most → boxes_of nk * b ≤ 52 * box_most
schedule_need_bound size h = mul-le-mul (boxes_bound size) h

pub encrypted_with_need-made : {nk : ℕ} (d : ℕ) → KeySize nk → 16 * (nk + 6) * box_need d ≡ encrypted_with_need nk d
unfolding rounds
encrypted_with_need-made d four = omega (arith, encrypted_with_need_is 4 d)
encrypted_with_need-made d six = omega (arith, encrypted_with_need_is 6 d)
encrypted_with_need-made d eight = omega (arith, encrypted_with_need_is 8 d)

pub encrypted_with_need_bound : {nk b : ℕ} → KeySize nk → b ≤ box_most → 16 * (nk + 6) * b ≤ 224 * box_most
encrypted_with_need_bound {nk} size h =
    let b = size_bounds size in
    let n : 16 * (nk + 6) ≤ 224 = omega arith in
    mul-le-mul n h
