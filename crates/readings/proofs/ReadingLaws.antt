-- The outcome of a reading of a product's places, from the answer of its sheet and of the list's reading. Assumes nothing.
use mathlib.Core.Path.{◌≡◌}
use mathlib.Core.Bool.{true}
use mathlib.Core.List.{List, []}
use Prim.Native.Nat.{ℕ, suc}
use borrow.Author.Tests.{eq-eqb}
use lib.ListN.{length}
use Rattle.gf256.specs.Field.{times}
use Rattle.isw.specs.Place.{place_count, product_need, sheet}
use Rattle.isw.proofs.SheetLaws.{length-sheet}
use Rattle.outcomes.specs.declared.Refusal.{Refusal}
use Rattle.outcomes.specs.declared.Count.{Count}
use Rattle.outcomes.specs.Outcome.{Answer}
use Rattle.std.specs.Prelude.{Ok, Err}
use Rattle.outcomes.specs.Outcome.{outcome, took, served, reaches}
use Rattle.tape_words.specs.Words.{bytes_of, words_for}
use Rattle.masking.specs.Calls.{two_fit}
use Rattle.sheets.specs.Calls.{sheet_outcome}
use Rattle.place_lists.specs.Listed.{listed_outcome}
use Rattle.place_lists.proofs.ReadingLaws.{reading_handed, reading_made}
use Rattle.readings.specs.Calls.{reading_outcome}

-- both factors have n shares
pub two_fit_both : (d a b : ℕ) → a ≡ suc d → b ≡ suc d → two_fit d a b ≡ true
unfolding two_fit
two_fit_both d a b e f = simp (eq-eqb a (suc d) e, eq-eqb b (suc d) f)

-- the sheet was asked for at s, and the answer is `made`, with q at the sheet
module _ (d : ℕ) (a b ts ps o s q : List ℕ) (made : Answer) (told : outcome made q ≡ sheet_outcome d a b ts s) where
  pub product_handed : (served d ≡ true → length s ≡ place_count d) → (r : Refusal) → made ≡ Err r
      → outcome made o ≡ reading_outcome d a b ts ps o
  unfolding reading_outcome sheet_outcome
  product_handed =
      reading_handed (served d) (two_fit d (length a) (length b)) (reaches (length ts) (words_for (product_need d))) (place_count d)
      (took (words_for (product_need d))) d (sheet times d a b (bytes_of ts)) ps o s q made told

  pub product_read : (c : Count) → made ≡ Ok c → listed_outcome [] (length q) c d q ps o ≡ reading_outcome d a b ts ps o
  unfolding reading_outcome sheet_outcome
  product_read =
      reading_made (served d) (two_fit d (length a) (length b)) (reaches (length ts) (words_for (product_need d))) (place_count d)
      (took (words_for (product_need d))) d (sheet times d a b (bytes_of ts)) ps o s q made told (λ _. length-sheet times d a b (bytes_of ts))
