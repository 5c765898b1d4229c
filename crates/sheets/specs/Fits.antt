-- What the sheet's smaller routines ask of the room they are lent. Assumes nothing: these are definitions.
-- Inner contracts: no document decides them.
use Rattle.std.specs.Prelude.{◌≡◌, List, ℕ, suc, length}

-- room for the running sums of n shares, and for the table of what they are on the way: nine columns for each of nine shares
pub record RoomFits (d : ℕ) (sums table : List ℕ) : Type 0 where
  pub summed : length sums ≡ suc d
  pub tabled : length table ≡ 81
