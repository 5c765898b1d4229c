-- What a row of pairs asks of its buffers. Assumes nothing: these are definitions. Inner contracts: no document decides them.
use Rattle.std.specs.Prelude.{List, ℕ, ◌+◌, ◌≤◌, ◌<◌, length}

-- row i of the pairs, with the w shares behind it: at least one, and each has its draw, its term, its byte of the row own and its sum
pub record SumsFit (i w : ℕ) (tape back own sums : List ℕ) : Type 0 where
  pub some : 0 < w
  pub few : i + 1 + w ≤ 9
  pub drawn : w ≤ length tape
  pub backs : w ≤ length back
  pub owns : w ≤ length own
  pub summed : i + 1 + w ≤ length sums
