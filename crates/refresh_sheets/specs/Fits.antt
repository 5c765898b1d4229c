-- What the routines of a refresh's sheet ask of their slices. Assumes nothing: these are definitions.
-- Inner contracts: no document decides them.
use Rattle.std.specs.Prelude.{◌≡◌, List, ℕ, suc, ◌+◌, ◌*◌, ◌≤◌, ◌<◌, length}
use Rattle.refresh.specs.Refresh.{refresh_need}

-- the bytes of w pairs that stand in three rows, and room for them
pub record ThreeFit (i w : ℕ) (tape own shares out : List ℕ) : Type 0 where
  pub few : i + 1 + w ≤ 9
  pub drawn : w ≤ length tape
  pub owns : w ≤ length own
  pub behind : i + 1 + w ≤ length shares
  pub room : 3 * w ≤ length out

-- row i of the pairs of a refresh, with the w shares behind it: at least one; and room for three bytes of each
pub record RowFits (i w : ℕ) (tape shares out : List ℕ) : Type 0 where
  pub some : 0 < w
  pub few : i + 1 + w ≤ 9
  pub drawn : w ≤ length tape
  pub behind : i + 1 + w ≤ length shares
  pub room : 3 * w ≤ length out

-- a whole refresh, and room for three bytes of each pair
pub record RefreshFits (d : ℕ) (tape shares out : List ℕ) : Type 0 where
  pub long : length shares ≡ suc d
  pub drawn : refresh_need d ≤ length tape
  pub room : 3 * refresh_need d ≤ length out
