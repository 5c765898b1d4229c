-- Power 254 of a byte in shares, the inverse in the field (SecExp254 of document 000), by document 01's chain.
-- Document 01, "The steps over shares", decides, and what counts as a field product document 02, wish 9. Assumes nothing: these
-- are definitions. A step that draws takes its bytes from the front of the tape it is given.
use Rattle.std.specs.Prelude.{List, map, ℕ, ◌+◌, ◌*◌, drop}
use Rattle.gf256.specs.Field.{times, squared, fourth, sixteenth}
use Rattle.isw.specs.Place.{product, product_need}
use Rattle.isw.specs.Operations.{product_operations}
use Rattle.refresh.specs.Refresh.{refreshed, refresh_need}

-- the masked product of the field
abbrev pub masked_product : (d : ℕ) (a b tape : List ℕ) → List ℕ
masked_product d a b ts = product times d a b ts

-- ---- power 254, in three stages; each draws in the order written

-- z = x², refreshed; y = z · x
unfoldable pub stage_z : (d : ℕ) (x tape : List ℕ) → List ℕ
stage_z d x ts = refreshed d (map squared x) ts

-- the first masked product, z · x
unfoldable pub stage_y : (d : ℕ) (x tape : List ℕ) → List ℕ
stage_y d x ts = masked_product d (stage_z d x ts) x (drop (refresh_need d) ts)

-- w = y⁴, refreshed; v = y · w
unfoldable pub stage_w : (d : ℕ) (y tape : List ℕ) → List ℕ
stage_w d y ts = refreshed d (map fourth y) ts

-- the second masked product, y · w
unfoldable pub stage_v : (d : ℕ) (y tape : List ℕ) → List ℕ
stage_v d y ts = masked_product d y (stage_w d y ts) (drop (refresh_need d) ts)

-- v¹⁶ · w, and that times z
unfoldable pub stage_last : (d : ℕ) (v w z tape : List ℕ) → List ℕ
stage_last d v w z ts = masked_product d (masked_product d (map sixteenth v) w ts) z (drop (product_need d) ts)

-- how many bytes the first two stages draw each
unfoldable pub stage_need : (d : ℕ) → ℕ
stage_need d = refresh_need d + product_need d

-- power 254 of a byte in shares: the inverse in the field
unfoldable pub power_254 : (d : ℕ) (x tape : List ℕ) → List ℕ
power_254 d x ts =
    let y = stage_y d x ts in
    let us = drop (stage_need d) ts in
    stage_last d (stage_v d y us) (stage_w d y us) (stage_z d x ts) (drop (stage_need d) us)

-- how many bytes it draws: two refreshes and four products
unfoldable pub power_need : (d : ℕ) → ℕ
power_need d = stage_need d + stage_need d + (product_need d + product_need d)

-- how many field products the first two stages do each inside their masked product: a power of each share and a refresh have none
unfoldable pub stage_products : (d : ℕ) → ℕ
stage_products d = product_operations d

-- how many it does in all: those of four masked products
unfoldable pub power_products : (d : ℕ) → ℕ
power_products d = stage_products d + stage_products d + (product_operations d + product_operations d)

-- the most that it draws, at order 8: for each of 36 pairs six bytes
abbrev pub power_most : ℕ
power_most = 6 * 36
