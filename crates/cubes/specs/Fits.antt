-- What the cube's routines ask of their slices. Assumes nothing: these are definitions.
-- Inner contracts: no document decides them.
use Rattle.std.specs.Prelude.{◌≡◌, List, ℕ, suc, ◌≤◌, length}
use Rattle.gadgets.specs.Cube.{cube_need}

-- a cube: the shares of x, and what it draws
pub record CubeFits (d : ℕ) (x tape : List ℕ) : Type 0 where
  pub input : length x ≡ suc d
  pub drawn : cube_need d ≤ length tape
