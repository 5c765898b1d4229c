-- `lengths::needs::schedule_need` meets its contract. Assumes nothing.
use mathlib.Core.Path.{ap, ap₂, ◌∙◌}
use Prim.Native.Nat.{ℕ, ◌*◌}
use native.Mathlib.Omega.{arith}
use Rattle.lengths.proofs.LengthsLaws.{even-sized, schedule_need-made, schedule_need_bound}
use Rattle.lengths.proofs.needs.schedule_need.Goals as goal

pub overflow_mul-result : goal.overflow_mul-result
overflow_mul-result c =
    let m = schedule_need_bound (even-sized _ c.args.key.sized) c.box_need.ensures.1 in
    omega (arith, ap (λ (n : ℕ). n * c.box_need.result) c.key_boxes.ensures, m)

pub returns : goal.returns
returns c =
    let m = schedule_need_bound (even-sized _ c.args.key.sized) c.box_need.ensures.1 in (
      ap₂ ◌*◌ c.key_boxes.ensures c.box_need.ensures.0 ∙ schedule_need-made c.args.d (even-sized _ c.args.key.sized),
      omega (arith, ap (λ (n : ℕ). n * c.box_need.result) c.key_boxes.ensures, m),
    )
