-- What the routines of power 254 ask of their slices. Assumes nothing: these are definitions.
-- Inner contracts: no document decides them.
use Rattle.std.specs.Prelude.{◌≡◌, List, ℕ, suc, ◌+◌, ◌≤◌, length}
use Rattle.isw.specs.Place.{product_need}
use Rattle.refresh.specs.Refresh.{refresh_need}
use Rattle.power254.specs.Power254.{stage_need, power_need}

-- what a power, refreshed, asks: the shares before and after, and the tape
pub record RefreshedFits (d : ℕ) (x tape z : List ℕ) : Type 0 where
  pub input : length x ≡ suc d
  pub output : length z ≡ suc d
  pub drawn : refresh_need d ≤ length tape

-- what the first stage asks: it makes a power (z), and a product (y)
pub record FirstFits (d : ℕ) (x tape z y : List ℕ) : Type 0 where
  pub input : length x ≡ suc d
  pub power : length z ≡ suc d
  pub output : length y ≡ suc d
  pub drawn : stage_need d ≤ length tape

-- what the last stage asks: three products
pub record LastFits (d : ℕ) (y w z tape out : List ℕ) : Type 0 where
  pub long_y : length y ≡ suc d
  pub long_w : length w ≡ suc d
  pub long_z : length z ≡ suc d
  pub output : length out ≡ suc d
  pub drawn : product_need d + (product_need d + product_need d) ≤ length tape

-- what the second and the last stage ask together
pub record LaterFits (d : ℕ) (z y tape out : List ℕ) : Type 0 where
  pub long_z : length z ≡ suc d
  pub long_y : length y ≡ suc d
  pub output : length out ≡ suc d
  pub drawn : refresh_need d + (product_need d + (product_need d + product_need d)) ≤ length tape

-- what power 254 asks
pub record PowerFits (d : ℕ) (x tape : List ℕ) : Type 0 where
  pub long : length x ≡ suc d
  pub drawn : power_need d ≤ length tape
