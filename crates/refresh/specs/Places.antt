-- The places of a refresh: every byte that its steps compute on the way, in their order (its probes). Document 02, wish 8, decides.
-- Assumes nothing: these are definitions. The steps are those of `Refresh`, and read the same bytes of the tape.
use Rattle.std.specs.Prelude.{List, [], ◌∷◌, ℕ, ◌*◌, drop}
use Rattle.xor.specs.Lists.{at}
use Rattle.refresh.specs.Refresh.{into, refresh_pairs, refresh_need}

-- for each pair of shares in turn: the drawn byte, the first share after its XOR, the second share after its own
unfoldable pub pairs_sheet : List (ℕ × ℕ) → (shares tape : List ℕ) → List ℕ
pairs_sheet [] xs ts = []
pairs_sheet (p ∷ ps) xs ts =
    let ys = into xs p.0 (at ts 0) in
    let zs = into ys p.1 (at ts 0) in
    at ts 0 ∷ at ys p.0 ∷ at zs p.1 ∷ pairs_sheet ps zs (drop 1 ts)

-- the bytes at all places of a refresh (a transcript)
unfoldable pub refresh_sheet : (d : ℕ) (shares tape : List ℕ) → List ℕ
refresh_sheet d xs ts = pairs_sheet (refresh_pairs d) xs ts

-- how many they are: three for each pair
unfoldable pub refresh_count : (d : ℕ) → ℕ
refresh_count d = 3 * refresh_need d
