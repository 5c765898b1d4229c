-- `gf256::product::times` meets its contract. The loop's invariant: what stands after bit k is the first factor times the second shifted right by k.
-- Assumes nothing.
use Rattle.std.proofs.Common.{◌≡◌, ◌/◌, ◌^◌}
use Rattle.gf256.specs.Field as Field
use Rattle.gf256.proofs.product.times.Given as goal

abbrev pub invariant-loop-k : goal.invariant-loop-k
invariant-loop-k l = l.p ≡ Field.times l.a (l.b / 2 ^ l.k)
