-- The cube as one run: a map f of each share of x, refreshed, and the masked product of that with x. Both factors come from one secret, which is the
-- laboratory's second question. With the field's square and product it is the first product of power 254.
-- Document 02, wish 8, decides its places and their order. Assumes nothing: these are definitions.
use Rattle.std.specs.Prelude.{List, ◌++◌, map, ℕ, suc, ◌+◌, ◌*◌, ◌/◌, drop}
use Rattle.isw.specs.Place.{product_need, place_count, sheet, product}
use Rattle.isw.specs.Operations.{product_operations}
use Rattle.refresh.specs.Refresh.{refreshed, refresh_need}
use Rattle.refresh.specs.Places.{refresh_sheet}

-- how many draws it takes: the refresh's first, then the product's
unfoldable pub cube_need : (d : ℕ) → ℕ
cube_need d = refresh_need d + product_need d

-- how many products of two shares it has: those of its product; the map and the refresh have none
unfoldable pub cube_operations : (d : ℕ) → ℕ
cube_operations d = product_operations d

-- for an operation `op` and a map f of each share
module _ (op : ℕ → ℕ → ℕ) (f : ℕ → ℕ) where
  -- the first factor: f of each share of x, refreshed
  unfoldable pub cube_factor : (d : ℕ) (x tape : List ℕ) → List ℕ
  cube_factor d x ts = refreshed d (map f x) ts

  -- the shares of the product
  unfoldable pub cube : (d : ℕ) (x tape : List ℕ) → List ℕ
  cube d x ts = product op d (cube_factor d x ts) x (drop (refresh_need d) ts)

  -- the values at all places of the run (a transcript): f of each share, three for each pair of the refresh, and the product's
  unfoldable pub cube_sheet : (d : ℕ) (x tape : List ℕ) → List ℕ
  cube_sheet d x ts = map f x ++ (refresh_sheet d (map f x) ts ++ sheet op d (cube_factor d x ts) x (drop (refresh_need d) ts))

-- how many places there are: n + 3 d (d + 1) / 2 + P(d)
unfoldable pub cube_count : (d : ℕ) → ℕ
cube_count d = suc d + 3 * (d * suc d / 2) + place_count d
