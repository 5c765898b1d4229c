-- `masking::steps::start_sums` meets its contract. Assumes nothing.
use Rattle.std.proofs.Common.{◌≡◌}
use Rattle.xor.specs.Lists.{at}
use Rattle.gf256.specs.Field.{times}
use Rattle.xor.proofs.WriteLaws.{over}
use Rattle.masking.proofs.steps.start_sums.Given as goal

abbrev pub invariant-loop-i : goal.invariant-loop-i
invariant-loop-i l = l.output ≡ over (λ k. times (at l.a k) (at l.b k)) l.i l.initial.output
