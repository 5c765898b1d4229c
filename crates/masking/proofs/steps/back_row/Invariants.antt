-- `masking::steps::back_row` meets its contract. Assumes nothing.
use Rattle.std.proofs.Common.{◌≡◌}
use Rattle.std.specs.Int.Bits.{bit_xor}
use Rattle.xor.specs.Lists.{at}
use Rattle.xor.proofs.WriteLaws.{over}
use Rattle.masking.specs.Steps.{lowers}
use Rattle.masking.proofs.steps.back_row.Given as goal

abbrev pub invariant-loop-m : goal.invariant-loop-m
invariant-loop-m l = record {
  lower : l.lower ≡ over (lowers l.a l.b l.i) l.m l.initial.lower;
  back : l.back ≡ over (λ k. bit_xor (at l.half k) (lowers l.a l.b l.i k)) l.m l.initial.back;
}
