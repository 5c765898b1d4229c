-- `gf256::product::times` meets its contract. The loop's invariant: what stands after bit k is the first factor times the second shifted right by k.
-- Assumes nothing.
use Rattle.std.proofs.Common.{◌≡◌, ◌+◌, ◌-◌, ◌/◌, ◌^◌, sym, arith}
use Rattle.gf256.proofs.DigitMasks.{low_digit}
use Rattle.gf256.proofs.FromTopLaws.{times_before_bits, times_next_bit}
use Rattle.gf256.proofs.product.times.Goals as goal

pub loop-k-init : goal.loop-k-init
loop-k-init c = sym (times_before_bits c.args.a c.args.b c.ranges.b.fits)

pub loop-k-preserved : goal.loop-k-preserved
loop-k-preserved c =
    let k = c.loop-k.k - 1 in
    let next : k + 1 ≡ c.loop-k.k = omega arith in
    let digit = low_digit (c.args.b / 2 ^ k) in
    let bit = times_next_bit c.args.a c.args.b k c.ranges.a.fits c.ranges.b.fits in
    cc
