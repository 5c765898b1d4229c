-- `pairs::counting::pair_count` meets its contract. Assumes nothing.
use native.Mathlib.Nat.{mul-le-mul}
use native.Mathlib.Omega.{arith}
use Rattle.xor.proofs.PairsLaws.{pair_count_twice}
use Rattle.pairs.proofs.counting.pair_count.Goals as goal

pub returns : goal.returns
returns c =
    let m = mul-le-mul c.number.ensures.1 c.shares.ensures.1 in
    (rw (c.number.ensures.0, c.shares.ensures.0) (omega (arith, pair_count_twice c.args.d)), omega (arith, m))
