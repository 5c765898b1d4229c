-- DEMAND 3 FOR BYTES: the hiding rule of `isw` for the field's product; the same on a tape of words, about the very sheet and reading that the
-- contracts of `product_sheet` and `read_places` name; and that the product's shares join to the product. Assumes nothing.
use mathlib.Core.Path.{◌≡◌, refl, sym, ap, ◌∙◌}
use mathlib.Core.Bool.{Bool, true, cond}
use mathlib.Core.List.{List, ◌++◌}
use Prim.Native.Nat.{ℕ, suc, ◌+◌, ◌*◌, ◌-◌, ◌^◌, ◌≤◌}
use native.Mathlib.Omega.{arith}
use lib.ListN.{length, take, drop, length-drop}
use lib.Seq.{length-take-le, take_at, drop_at, take-add}
use Rattle.xor.specs.Lists.{Below}
use Rattle.xor.specs.Sums.{joined}
use Rattle.gf256.specs.Field.{times}
use Rattle.gf256.proofs.ProductLaws.{times_lt, times-left, times-right}
use Rattle.isw.specs.Place.{place_count, product_need, product, sheet, listed}
use Rattle.isw.specs.Hiding.{how_many, factor, choice_length, chosen, same, readings, Hides}
use Rattle.isw.specs.Document03 as Document03
use Rattle.isw.proofs.CountLaws.{sums_cong, how_many-sums}
use Rattle.isw.proofs.SheetLaws.{sheet_surplus}
use Rattle.isw.proofs.Hiding.{hides}
use Rattle.isw.proofs.JoinLaws.{product_joins_all}
use Rattle.isw.proofs.Document03Laws.{hides_document03}
use Rattle.outcomes.specs.Outcome as Outcome
use Rattle.outcomes.specs.Outcome.{took, served}
use Rattle.outcomes.proofs.OutcomeLaws.{all, ◌and◌, le_reaches}
use Rattle.tape_words.specs.Words.{words_for}
use Rattle.place_lists.proofs.ReadingLaws.{listed_carried}
use Rattle.choices.proofs.ChoicesLaws.{HeedsNoSurplus, choices_are, choices_alike}
use Rattle.readings.specs.Calls.{reading_outcome}
use Rattle.readings.specs.Hiding.{sheet_chosen, word_readings, WordsHide}
use Rattle.readings.proofs.ReadingLaws.{two_fit_both}

-- THE HIDING RULE for the field's product, at every order
pub bytes_hide : Hides times 8
bytes_hide = hides times 8 (λ x y hx hy. times_lt x y)

-- as document 03 states it, at orders 1 to 8
pub bytes_hide_document03 : Document03.Hides times 256
bytes_hide_document03 = hides_document03 times 8 bytes_hide

-- the shares of a product of bytes join to the product, whatever the tape
pub bytes_join : (d : ℕ) (a b ts : List ℕ) → length a ≡ suc d → length b ≡ suc d → joined (product times d a b ts) ≡ times (joined a) (joined b)
bytes_join = product_joins_all times times-left times-right

-- ---- the same on a tape of words

module _ (d x y : ℕ) (ps rs : List ℕ) where
  -- a list of masks and a list of drawn bytes give the reading, or not
  abbrev gives : (masks drawn : List ℕ) → Bool
  gives ms ts = same (listed (sheet times d (factor x (take d ms)) (factor y (drop d ms)) ts) ps) rs

  gives-surplus : HeedsNoSurplus (product_need d) gives
  gives-surplus ms us vs h =
      ap (λ (l : List ℕ). same (listed l ps) rs) (sheet_surplus times d (factor x (take d ms)) (factor y (drop d ms)) us vs h)

  -- masks and drawn bytes in one list
  gives-joined : how_many 256 (d + d + product_need d) (λ cs. gives (take (d + d) cs) (drop (d + d) cs)) ≡ readings times 8 d x y ps rs
  unfolding readings chosen choice_length
  gives-joined =
      how_many-sums 256 (d + d + product_need d) _
      ∙ sums_cong 256 (d + d + product_need d) _ _ (λ cs long below. ap (λ (b : Bool). cond b 1 0) (apart cs (omega arith)))
      ∙ sym (how_many-sums 256 (d + d + product_need d) _)
    where
      apart : (cs : List ℕ) → d ≤ length cs → gives (take (d + d) cs) (drop (d + d) cs) ≡ same (listed (chosen times d x y cs) ps) rs
      apart cs h =
          let two : take (d + d) cs ≡ take d cs ++ take d (drop d cs) = take-add d d cs in
          let one : length (take d cs) ≡ d = length-take-le d cs h in
          let left : take d (take (d + d) cs) ≡ take d cs = ap (take d) two ∙ take_at (take d cs) _ d one in
          let right : drop d (take (d + d) cs) ≡ take d (drop d cs) = ap (drop d) two ∙ drop_at (take d cs) _ d one in
          rw (left, right) refl

  -- a reading is given by as many choices of words as of bytes, times all values of the bytes that are left over
  pub word_readings_are : (n : ℕ) → words_for (product_need d) ≤ n
      → word_readings d n x y ps rs ≡ 256 ^ (4 * n - product_need d) * readings times 8 d x y ps rs
  unfolding word_readings sheet_chosen
  word_readings_are n enough =
      choices_are (d + d) (product_need d) n gives gives-surplus enough ∙ ap (◌*◌ (256 ^ (4 * n - product_need d))) gives-joined

-- THE HIDING RULE on a tape of words
pub words_hide : WordsHide
unfolding WordsHide Hides word_readings sheet_chosen
words_hide d n ps rs x y v z enough few below hx hy hv hz =
    choices_alike (d + d) (product_need d) n (gives d x y ps rs) (gives d v z ps rs) (gives-surplus d x y ps rs) (gives-surplus d v z ps rs) enough
    (gives-joined d x y ps rs ∙ bytes_hide d ps rs x y v z few below hx hy hv hz ∙ sym (gives-joined d v z ps rs))

-- ---- the readings that the hiding rule counts are those of the program

-- a call on the shares and the tape of a choice is carried through, and puts out what the choice shows at the listed places
pub reading_of_choice : (d x y : ℕ) (ms ws ps o : List ℕ) → served d ≡ true → length ms ≡ d + d → words_for (product_need d) ≤ length ws
    → length ps ≤ d → Below (place_count d) ps → length o ≡ length ps
    → reading_outcome d (factor x (take d ms)) (factor y (drop d ms)) ws ps o
    ≡ Outcome.done (took (words_for (product_need d))) (listed (sheet_chosen d x y ms ws) ps)
unfolding reading_outcome factor sheet_chosen
reading_of_choice d x y ms ws ps o order long enough few below room =
    let a : length (take d ms) ≡ d = length-take-le d ms (omega arith) in
    let b : length (drop d ms) ≡ d = length-drop d ms ∙ omega arith in
    listed_carried (place_count d) _ d _ ps o
    (order and two_fit_both d _ _ (ap suc a) (ap suc b) and le_reaches (length ws) (words_for (product_need d)) enough and all) room few below
