-- `lengths::needs::encrypted_with_need` meets its contract. Assumes nothing.
use mathlib.Core.Path.{ap, ◌∙◌}
use Prim.Native.Nat.{ℕ, ◌+◌, ◌*◌}
use native.Mathlib.Omega.{arith}
use Rattle.lengths.proofs.LengthsLaws.{even-sized, size_bounds, encrypted_with_need-made, encrypted_with_need_bound}
use Rattle.lengths.proofs.needs.encrypted_with_need.Goals as goal

pub overflow_add-result : goal.overflow_add-result
overflow_add-result c = let b = size_bounds (even-sized _ c.args.key.sized) in omega arith

pub overflow_mul-result : goal.overflow_mul-result
overflow_mul-result c = let b = size_bounds (even-sized _ c.args.key.sized) in omega arith

pub overflow_mul-result-2 : goal.overflow_mul-result-2
overflow_mul-result-2 c = omega (arith, encrypted_with_need_bound (even-sized _ c.args.key.sized) c.box_need.ensures.1)

pub returns : goal.returns
returns c = (
  ap (λ (q : ℕ). 16 * (c.args.key.nk + 6) * q) c.box_need.ensures.0 ∙ encrypted_with_need-made c.args.d (even-sized _ c.args.key.sized),
  encrypted_with_need_bound (even-sized _ c.args.key.sized) c.box_need.ensures.1,
)
