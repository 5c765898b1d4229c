-- What the outcomes of the three contracts say of one product: the sheet shows exactly the places' bytes, the reading gives the listed ones, and
-- the product puts out the places c_0 to c_d. Assumes nothing.
use mathlib.Core.Path.{◌≡◌, sym, ap, ◌∙◌}
use mathlib.Core.List.{List, map}
use Prim.Native.Nat.{ℕ, suc, ◌+◌, ◌*◌, ◌/◌, ◌≤◌}
use Rattle.xor.specs.Lists.{at}
use Rattle.gf256.specs.Field.{times}
use Rattle.isw.specs.Place.{places, outputs, value, sheet, product, listed, product_need}
use Rattle.isw.proofs.SheetLaws.{product-shown}
use Rattle.outcomes.specs.declared.Count.{Count}
use Rattle.outcomes.specs.Outcome.{done, took}
use Rattle.outcomes.proofs.OutcomeLaws.{settled-taken}
use Rattle.tape_words.specs.Words.{bytes_of, words_for}
use Rattle.masking.specs.Calls.{product_outcome}
use Rattle.sheets.specs.Calls.{sheet_outcome}
use Rattle.place_lists.proofs.ReadingLaws.{listed_shows}
use Rattle.readings.specs.Calls.{reading_outcome}

-- the tape is words, and the steps draw its bytes
module _ (d : ℕ) (a b ts : List ℕ) where
  -- the sheet: the byte at each place, in their order
  pub sheet_shows : (o : List ℕ) (k : Count) (bs : List ℕ) → sheet_outcome d a b ts o ≡ done k bs
      → (k ≡ took (words_for (product_need d))) × (bs ≡ map (value times d a b (bytes_of ts)) (places (suc d)))
  unfolding sheet_outcome sheet
  sheet_shows o k bs e = let g = settled-taken _ _ _ _ k bs e in (g.1, g.2)

  -- the product: the bytes at the places c_0 to c_d
  pub product_shows : (o : List ℕ) (k : Count) (cs : List ℕ) → product_outcome d a b ts o ≡ done k cs
      → (k ≡ took (words_for (product_need d))) × (cs ≡ map (value times d a b (bytes_of ts)) (outputs d))
  unfolding product_outcome product
  product_shows o k cs e = let g = settled-taken _ _ _ _ k cs e in (g.1, g.2)

  pub reading_shows : (ps o : List ℕ) (k : Count) (q : List ℕ) → reading_outcome d a b ts ps o ≡ done k q
      → (k ≡ took (words_for (product_need d))) × (q ≡ listed (sheet times d a b (bytes_of ts)) ps)
  unfolding reading_outcome
  reading_shows ps o k q e = listed_shows _ _ _ _ _ ps o k q e

  -- THE THREE CALLS on the same shares and tape, where they are carried through: one count, the reading is the sheet at the listed places, and
  -- share i of the product is the sheet's byte at the last place of row i
  pub calls_agree : (o o' o'' ps : List ℕ) (k k' k'' : Count) (bs cs q : List ℕ)
      → sheet_outcome d a b ts o ≡ done k bs → product_outcome d a b ts o' ≡ done k' cs → reading_outcome d a b ts ps o'' ≡ done k'' q
      → (k' ≡ k) × (k'' ≡ k) × (q ≡ listed bs ps)
      × ((i : ℕ) → i ≤ d → at cs i ≡ at bs (2 * suc d + 5 * (d * suc d / 2) + i * suc d + d))
  unfolding sheet product
  calls_agree o o' o'' ps k k' k'' bs cs q es ep er =
      let s = sheet_shows o k bs es in
      let p = product_shows o' k' cs ep in
      let r = reading_shows ps o'' k'' q er in (
        p.0 ∙ sym s.0,
        r.0 ∙ sym s.0,
        r.1 ∙ ap (λ (l : List ℕ). listed l ps) (sym s.1),
        λ i h. ap (λ (l : List ℕ). at l i) p.1
            ∙ sym (product-shown times d a b (bytes_of ts) i h)
            ∙ ap (λ (l : List ℕ). at l (2 * suc d + 5 * (d * suc d / 2) + i * suc d + d)) (sym s.1),
      )
