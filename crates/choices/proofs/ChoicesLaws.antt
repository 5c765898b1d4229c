-- How many choices of masks and words pass a test that goes by the first bytes of the tape: as many as choices of bytes, times all values of the
-- bytes that are left over. So a hiding rule on bytes is one on words. Assumes nothing.
use mathlib.Core.Path.{◌≡◌, sym, ap, ap₂, ◌∙◌}
use mathlib.Core.Bool.{Bool, true, cond}
use mathlib.Core.List.{List, ◌++◌}
use Prim.Native.Nat.{ℕ, ◌+◌, ◌*◌, ◌-◌, ◌^◌, ◌≤◌}
use native.Mathlib.Omega.{arith}
use lib.ListN.{length, take, drop}
use lib.Seq.{take_at, drop_at}
use Rattle.isw.specs.Hiding.{sums, how_many}
use Rattle.isw.proofs.CountLaws.{sums_cong, sums-split, sums-times, sums_const, how_many-sums, how_many-all}
use Rattle.tape_words.specs.Words.{bytes_of, words_for}
use Rattle.tape_words.proofs.WordsLaws.{words_hold}
use Rattle.choices.specs.Choices.{choices}
use Rattle.choices.proofs.WordCount.{how_many-words}

-- a test of masks and drawn bytes heeds no byte behind the first `need`
abbrev pub HeedsNoSurplus : (need : ℕ) (test : (masks drawn : List ℕ) → Bool) → Type 0
HeedsNoSurplus need test = (ms us vs : List ℕ) → need ≤ length us → test ms (us ++ vs) ≡ test ms us

module _ (m need n : ℕ) (test : (masks drawn : List ℕ) → Bool) (heedless : HeedsNoSurplus need test) where
  -- the test as a count
  abbrev passes : (masks drawn : List ℕ) → ℕ
  passes ms ts = cond (test ms ts) 1 0

  -- what is left over passes with all its values, or with none
  passes_spare : (s : ℕ) (ms : List ℕ) → sums 256 (need + s) (passes ms) ≡ 256 ^ s * sums 256 need (passes ms)
  passes_spare s ms =
      sums-split 256 need s (passes ms)
      ∙ sums_cong 256 need _ _ (λ us long below.
      sums_cong 256 s _ _ (λ vs l b. ap (λ (y : Bool). cond y 1 0) (heedless ms us vs (omega arith))) ∙ sums_const 256 s (passes ms us))
      ∙ sums-times 256 need (256 ^ s) (passes ms)

  -- masks and drawn bytes in one list
  passes_joined : sums 256 m (λ ms. sums 256 need (passes ms)) ≡ how_many 256 (m + need) (λ cs. test (take m cs) (drop m cs))
  passes_joined =
      sums_cong 256 m _ _ (λ ms long below.
      sums_cong 256 need _ _ (λ us l b. ap₂ passes (sym (take_at ms us m long)) (sym (drop_at ms us m long))))
      ∙ sym (sums-split 256 m need _)
      ∙ sym (how_many-sums 256 (m + need) _)

  -- a test is passed by as many choices of words as of bytes, times all values of the bytes that are left over
  pub choices_are : words_for need ≤ n
      → choices m n (λ ms ws. test ms (bytes_of ws)) ≡ 256 ^ (4 * n - need) * how_many 256 (m + need) (λ cs. test (take m cs) (drop m cs))
  unfolding choices
  choices_are enough =
      let s = 4 * n - need in
      let whole : 4 * n ≡ need + s = omega (arith, words_hold need) in
      sums_cong 256 m _ _ (λ ms long below.
      how_many-words n (test ms) ∙ how_many-sums 256 (4 * n) (test ms) ∙ ap (λ (k : ℕ). sums 256 k (passes ms)) whole ∙ passes_spare s ms)
      ∙ sums-times 256 m (256 ^ s) (λ ms. sums 256 need (passes ms))
      ∙ ap (◌*◌ (256 ^ s)) passes_joined

-- two tests that as many choices of bytes pass are passed by as many choices of words
pub choices_alike : (m need n : ℕ) (test other : (masks drawn : List ℕ) → Bool) → HeedsNoSurplus need test → HeedsNoSurplus need other
    → words_for need ≤ n
    → how_many 256 (m + need) (λ cs. test (take m cs) (drop m cs)) ≡ how_many 256 (m + need) (λ cs. other (take m cs) (drop m cs))
    → choices m n (λ ms ws. test ms (bytes_of ws)) ≡ choices m n (λ ms ws. other ms (bytes_of ws))
choices_alike m need n test other heedless heedless' enough e =
    choices_are m need n test heedless enough ∙ ap (◌*◌ (256 ^ (4 * n - need))) e ∙ sym (choices_are m need n other heedless' enough)

-- how many choices there are: 256 to the number of masks, times 2^32 to the number of words
pub choices-all : (m n : ℕ) → choices m n (λ ms ws. true) ≡ 256 ^ m * (2 ^ 32) ^ n
unfolding choices
choices-all m n = sums_cong 256 m _ _ (λ ms l b. how_many-all (2 ^ 32) n) ∙ sums_const 256 m ((2 ^ 32) ^ n)
