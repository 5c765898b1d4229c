-- Lists of pairs of shares in which every pair stands exactly once. A refresh by such a list is strongly non-interfering (`RefreshStrong`); the
-- pairs with share 0 alone, by which the source's short refresh goes, are none from order 2 on.
-- What the proof asks of a refresh: no document decides it. Assumes nothing: these are definitions.
use Rattle.std.specs.Prelude.{◌≡◌, cond, ◌&&◌, List, [], ◌∷◌, ℕ, suc, ◌<◌, eqb}

-- a pair of n shares, the first before the second
abbrev pub Pair : (n : ℕ) → ℕ × ℕ → Type 0
Pair n p = (p.0 < p.1) × (p.1 < n)

-- how many times the pair (i, j) stands in the list
unfoldable pub times_listed : (i j : ℕ) → List (ℕ × ℕ) → ℕ
times_listed i j [] = 0
times_listed i j (p ∷ ps) = cond (eqb p.0 i && eqb p.1 j) (suc (times_listed i j ps)) (times_listed i j ps)

-- every pair i < j of the shares 0 .. d stands in the list exactly once
unfoldable pub EachOnce : (d : ℕ) → List (ℕ × ℕ) → Type 0
EachOnce d ps = (i j : ℕ) → i < j → j < suc d → times_listed i j ps ≡ 1
