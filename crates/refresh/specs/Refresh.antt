-- Mask refresh: new shares of the same byte (the refresh of Ishai, Sahai and Wagner's product, which masks by every pair of shares).
-- Document 02, wish 7, decides. Assumes nothing: these are definitions.
-- What is built on it uses only its laws (`RefreshLaws`), so that another refresh may take its place.
use Rattle.std.specs.Prelude.{List, [], ◌∷◌, ℕ, suc, length, set, drop}
use Rattle.std.specs.Int.Bits.{bit_xor}
use Rattle.xor.specs.Lists.{at}
use Rattle.xor.specs.Pairs.{pairs}

-- t XORed into share i
unfoldable pub into : List ℕ → (i t : ℕ) → List ℕ
into xs i t = set xs i (bit_xor (at xs i) t)

-- for each pair of shares in turn: draw t, XOR it into the first share and then into the second
unfoldable pub pairs_refreshed : List (ℕ × ℕ) → (shares tape : List ℕ) → List ℕ
pairs_refreshed [] xs ts = xs
pairs_refreshed (p ∷ ps) xs ts = pairs_refreshed ps (into (into xs p.0 (at ts 0)) p.1 (at ts 0)) (drop 1 ts)

-- every pair i < j of the d + 1 shares, in the order in which the masked product draws
unfoldable pub refresh_pairs : (d : ℕ) → List (ℕ × ℕ)
refresh_pairs d = pairs (suc d)

-- the shares of the same byte, masked anew
unfoldable pub refreshed : (d : ℕ) (shares tape : List ℕ) → List ℕ
refreshed d xs ts = pairs_refreshed (refresh_pairs d) xs ts

-- how many bytes it draws: one for each pair
unfoldable pub refresh_need : (d : ℕ) → ℕ
refresh_need d = length (refresh_pairs d)
