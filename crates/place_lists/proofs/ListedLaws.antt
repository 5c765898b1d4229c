-- A list of places, entry by entry: that all are below a bound, and the bytes it reads. Assumes nothing.
use mathlib.Core.Path.{◌≡◌, refl, sym, ap, ◌∙◌}
use mathlib.Core.Bool.{Bool, true, false, ◌&&◌}
use mathlib.Core.List.{List, [], ◌∷◌, map}
use Prim.Native.Nat.{ℕ, zero, suc, ◌+◌, ◌≤◌, ◌<◌}
use native.Mathlib.Omega.{arith}
use native.Mathlib.Numerals.{add-one}
use borrow.Author.Tests.{ltb-true, lt-ltb, le-ltb}
use lib.Dec.{ltb}
use lib.ListN.{length, take, get_or}
use Rattle.std.specs.List.{list_all}
use Rattle.xor.specs.Lists.{at, tab, Below, done, ◌&◌}
use Rattle.xor.proofs.Tests.{and_true, and_assoc, and_end, and_out}
use Rattle.xor.proofs.ListsLaws.{map-tab, tab-at}
use Rattle.isw.specs.Place.{listed}
use Rattle.place_lists.specs.Listed.{all_below}

-- ---- every listed place is below m

pub all_below-list : (m : ℕ) (l : List ℕ) → list_all (λ p. ltb p m) l ≡ all_below m l
unfolding all_below
all_below-list m [] = refl
all_below-list m (p ∷ l) = ap (◌&&◌ (ltb p m)) (all_below-list m l)

-- one entry more
all_below_next : (m : ℕ) (l : List ℕ) (k : ℕ) → k < length l → all_below m (take (suc k) l) ≡ (all_below m (take k l) && ltb (get_or l k 0) m)
unfolding all_below
all_below_next m [] k h = absurd (omega arith)
all_below_next m (p ∷ l) zero h = and_end (ltb p m)
all_below_next m (p ∷ l) (suc k) h =
    ap (λ (b : Bool). ltb p m && b) (all_below_next m l k (omega arith)) ∙ sym (and_assoc (ltb p m) (all_below m (take k l)) (ltb (get_or l k 0) m))

pub all_below_kept : (m : ℕ) (l : List ℕ) (k : ℕ) → k < length l → get_or l k 0 < m → all_below m (take k l) ≡ all_below m (take (k + 1) l)
all_below_kept m l k h g = rw (add-one, all_below_next m l k h, lt-ltb (get_or l k 0) m g) (sym (and_end (all_below m (take k l))))

pub all_below_lost : (m : ℕ) (l : List ℕ) (k : ℕ) → k < length l → m ≤ get_or l k 0 → false ≡ all_below m (take (k + 1) l)
all_below_lost m l k h g = rw (add-one, all_below_next m l k h, le-ltb (get_or l k 0) m g) (sym (and_out (all_below m (take k l))))

pub all_below-at : (m : ℕ) (l : List ℕ) (k : ℕ) → all_below m l ≡ true → k < length l → get_or l k 0 < m
unfolding all_below
all_below-at m [] k e h = absurd (omega arith)
all_below-at m (p ∷ l) zero e h = ltb-true p m (and_true (ltb p m) (all_below m l) e).0
all_below-at m (p ∷ l) (suc k) e h = all_below-at m l k (and_true (ltb p m) (all_below m l) e).1 (omega arith)

pub all_below_true : (m : ℕ) {ps : List ℕ} → Below m ps → all_below m ps ≡ true
unfolding all_below
all_below_true m done = refl
all_below_true m (◌&◌ {x = p} {xs = ps} h hs) = simp (lt-ltb p m h, all_below_true m hs)

-- ---- reading

pub listed-tab : (bs ps : List ℕ) → tab (λ k. at bs (at ps k)) (length ps) ≡ listed bs ps
unfolding listed
listed-tab bs ps = sym (map-tab (at bs) (at ps) (length ps)) ∙ ap (map (at bs)) (tab-at ps)
