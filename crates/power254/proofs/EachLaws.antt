-- A function over each entry of a list, the first entry first, in place or into another list. Assumes nothing.
use mathlib.Core.Path.{◌≡◌, refl, sym, ap, ◌∙◌}
use mathlib.Core.List.{List, [], ◌∷◌, map}
use Prim.Native.Nat.{ℕ, ◌+◌, ◌≤◌, ◌<◌}
use native.Mathlib.Omega.{arith}
use lib.ListN.{length, get_or, set, take}
use lib.Seq.{get_or-take}
use Rattle.xor.specs.Lists.{at, runs, tab}
use Rattle.xor.proofs.ListsLaws.{getD_tab, map-tab, tab-at}
use Rattle.xor.proofs.WriteLaws.{over, over_none, over_more, over_all, over_at}

module _ (f : ℕ → ℕ) where
  pub map-tab-at : (xs : List ℕ) → tab (λ k. f (at xs k)) (length xs) ≡ map f xs
  map-tab-at xs = sym (map-tab f (at xs) (length xs)) ∙ ap (map f) (tab-at xs)

  -- f over each entry of xs, written over all of o
  pub over_map : (k : ℕ) (y xs o : List ℕ) → y ≡ over (λ q. f (at xs q)) k o → k ≡ length xs → length o ≡ length xs → y ≡ map f xs
  over_map k y xs o e h l = over_all _ k y o e (l ∙ sym h) ∙ ap (tab (λ q. f (at xs q))) h ∙ map-tab-at xs

  -- xs with f over its first k entries
  unfoldable pub each : (k : ℕ) (xs : List ℕ) → List ℕ
  each k xs = over (λ q. f (at xs q)) k xs

  pub each_none : (xs : List ℕ) → xs ≡ each 0 xs
  unfolding each
  each_none xs = over_none _ xs

  -- one entry more
  pub each_more : (k v : ℕ) (y xs : List ℕ) → y ≡ each k xs → v ≡ f (get_or y k 0) → k < length xs → set y k v ≡ each (k + 1) xs
  unfolding each at
  each_more k v y xs e w h = over_more _ k v y xs e (w ∙ ap f (over_at _ k y xs e h)) h

  -- the same where the entry is named otherwise
  pub each_named : (k i v : ℕ) (y xs : List ℕ) → i ≡ k → y ≡ each k xs → v ≡ f (get_or y i 0) → k < length xs → set y i v ≡ each (k + 1) xs
  each_named k i v y xs n e w h = rw n (each_more k v y xs e (rw n at w) h)

  pub each_all : (k : ℕ) (y xs : List ℕ) → y ≡ each k xs → k ≡ length xs → y ≡ map f xs
  unfolding each
  each_all k y xs e h = over_map k y xs xs e h refl

-- ---- a list of the numbers 0 to 8

abbrev pub numbers : List ℕ
numbers = 0 ∷ 1 ∷ 2 ∷ 3 ∷ 4 ∷ 5 ∷ 6 ∷ 7 ∷ 8 ∷ []

pub numbered : (k : ℕ) → k < 9 → get_or numbers k 0 ≡ k
numbered k h = ap (λ (l : List ℕ). get_or l k 0) all ∙ getD_tab (λ q. q) 9 k 0 h
  where
    all : numbers ≡ tab (λ q. q) 9
    all = unfold tab runs in refl

-- the first n of them
pub first_numbered : (n k : ℕ) → n ≤ 9 → k < n → get_or (take n numbers) k 0 ≡ k
first_numbered n k h g = get_or-take n numbers k 0 g ∙ numbered k (omega arith)
