-- On the same bytes, a product, its sheet and a reading of its places are as they were on a tape of bytes (document 02, wish 6). Assumes nothing.
use mathlib.Core.List.{List}
use Prim.Native.Nat.{ℕ, suc, ◌≤◌}
use lib.ListN.{length}
use Rattle.gf256.specs.Field.{times}
use Rattle.isw.specs.Place.{place_count, product_need, product, sheet, listed}
use Rattle.isw.proofs.SheetLaws.{product-surplus, sheet_surplus}
use Rattle.outcomes.specs.Outcome.{served}
use Rattle.outcomes.proofs.OutcomeLaws.{Passed, ◌and◌}
use Rattle.shares.specs.OnWords.{AsOnBytes}
use Rattle.shares.proofs.OnWordsLaws.{longer_reaches, on_words}
use Rattle.masking.specs.Calls.{two_fit, factor_tests, product_outcome}
use Rattle.masking.proofs.CallsLaws.{factors_passed}
use Rattle.sheets.specs.Calls.{sheet_outcome}
use Rattle.place_lists.proofs.OnWords.{listed-words}
use Rattle.readings.specs.Calls.{reading_outcome}

factors_longer : (room d a b o t t' : ℕ) → t ≤ t' → Passed (factor_tests room d a b t o) → Passed (factor_tests room d a b t' o)
factors_longer room d a b o t t' h (u and i and r and n and p) = u and i and r and longer_reaches _ t t' h n and p

module _ (d : ℕ) (a b o : List ℕ) where
  pub product-words : AsOnBytes (product_need d) (product times d a b) (λ ws. product_outcome d a b ws o)
  unfolding product_outcome
  product-words =
      on_words (λ t. factor_tests (suc d) d (length a) (length b) t (length o)) (product_need d) o (product times d a b)
      (λ t p. (factors_passed (suc d) d (length a) (length b) t (length o) p).drawn) (factors_longer (suc d) d (length a) (length b) (length o))
      (λ t p. product-surplus times d a b)

  pub sheet-words : AsOnBytes (product_need d) (sheet times d a b) (λ ws. sheet_outcome d a b ws o)
  unfolding sheet_outcome
  sheet-words =
      on_words (λ t. factor_tests (place_count d) d (length a) (length b) t (length o)) (product_need d) o (sheet times d a b)
      (λ t p. (factors_passed (place_count d) d (length a) (length b) t (length o) p).drawn)
      (factors_longer (place_count d) d (length a) (length b) (length o)) (λ t p. sheet_surplus times d a b)

  pub reading_words : (ps : List ℕ)
      → AsOnBytes (product_need d) (λ ts. listed (sheet times d a b ts) ps) (λ ws. reading_outcome d a b ws ps o)
  unfolding reading_outcome
  reading_words ps =
      listed-words (served d) (two_fit d (length a) (length b)) (product_need d) (place_count d) d (sheet times d a b) ps o
      (λ _. sheet_surplus times d a b)
