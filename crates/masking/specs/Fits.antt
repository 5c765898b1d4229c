-- What the smaller routines of a masked product ask of their buffers. Assumes nothing: these are definitions.
-- Inner contracts: no document decides them.
use Rattle.std.specs.Prelude.{◌≡◌, List, ℕ, suc, ◌+◌, ◌≤◌, ◌<◌, length}
use Rattle.isw.specs.Place.{product_need}

-- a product of order d: both factors have n shares, and the tape has what it draws
pub record FactorsFit (d : ℕ) (a b tape : List ℕ) : Type 0 where
  pub left : length a ≡ suc d
  pub right : length b ≡ suc d
  pub drawn : product_need d ≤ length tape

-- row i of its pairs, with the w shares behind it: at least one, and each has its byte in both factors, on the tape and among the sums
pub record RowFits (i w : ℕ) (a b tape sums : List ℕ) : Type 0 where
  pub some : 0 < w
  pub few : i + 1 + w ≤ 9
  pub left : i + 1 + w ≤ length a
  pub right : i + 1 + w ≤ length b
  pub drawn : w ≤ length tape
  pub summed : i + 1 + w ≤ length sums

-- the four rows that take the bytes of w pairs
pub record RowsFit (w : ℕ) (upper half lower back : List ℕ) : Type 0 where
  pub uppers : w ≤ length upper
  pub halves : w ≤ length half
  pub lowers : w ≤ length lower
  pub backs : w ≤ length back

-- one half of those pairs: a row is read, the row of the products is written, and that of what they were taken into
pub record HalfFits (i w : ℕ) (a b read products taken : List ℕ) : Type 0 where
  pub few : i + 1 + w ≤ 9
  pub left : i + 1 + w ≤ length a
  pub right : i + 1 + w ≤ length b
  pub reads : w ≤ length read
  pub multiplies : w ≤ length products
  pub takes : w ≤ length taken
