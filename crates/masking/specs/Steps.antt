-- What the smaller routines of every masked product of bytes leave: the bytes of a row of pairs, and the running sums that take them in
-- (`row_taken` of xor's `Running`).
-- Document 01, "The steps over shares", decides. Assumes nothing: these are definitions.
use Rattle.std.specs.Prelude.{List, ℕ, ◌+◌}
use Rattle.std.specs.Int.Bits.{bit_xor}
use Rattle.xor.specs.Lists.{at, tab}
use Rattle.xor.specs.Running.{row_taken}
use Rattle.gf256.specs.Field.{times}

-- the bytes of the pairs of row i, with the shares behind it, whose draws stand at the front of the tape: pair m is that with share i + 1 + m
module _ (a b : List ℕ) where
  -- the product above the diagonal, a_i · b_j
  abbrev pub uppers : (i m : ℕ) → ℕ
  uppers i m = times (at a i) (at b (i + 1 + m))

  -- r(i, j) XOR a_i · b_j
  abbrev pub halves : (tape : List ℕ) (i m : ℕ) → ℕ
  halves ts i m = bit_xor (at ts m) (uppers i m)

  -- the product below it, a_j · b_i
  abbrev pub lowers : (i m : ℕ) → ℕ
  lowers i m = times (at a (i + 1 + m)) (at b i)

  -- r(j, i): the brackets stand as document 01 has them
  abbrev pub backs : (tape : List ℕ) (i m : ℕ) → ℕ
  backs ts i m = bit_xor (halves ts i m) (lowers i m)

-- ---- the running sums

-- their starts, for n shares: a_i · b_i
abbrev pub starts : (a b : List ℕ) (n : ℕ) → List ℕ
starts a b n = tab (λ i. times (at a i) (at b i)) n

-- all of them after row i of the pairs, with the shares i + 1 to i + w: each share behind i takes in its r(j, i)
abbrev pub pairs_taken : (a b tape : List ℕ) (i w : ℕ) (sums : List ℕ) → List ℕ
pairs_taken a b ts i w s = row_taken i w (at ts) (backs a b ts i) s
