-- `dokkumel_c::tape::dokkumel_unused_tape` meets its contract. Assumes nothing.
use mathlib.Core.Path.{ap, ◌∙◌}
use mathlib.Core.List.{List}
use Prim.Native.Nat.{ℕ, ◌-◌}
use native.Mathlib.Omega.{arith}
use lib.ListN.{length}
use Rattle.dokkumel_c.proofs.ReturnedLaws.{rest_fits, before_rest}
use Rattle.dokkumel_c.proofs.tape.dokkumel_unused_tape.Goals as goal

pub overflow_sub-result : goal.overflow_sub-result
overflow_sub-result c =
    let e = ap length c.unused_tape-rest.ensures in
    let h = rest_fits c.args.tape.now c.args.count in
    omega arith

pub returns : goal.returns
returns c =
    ap (λ (l : List ℕ). length c.args.tape.now - length l) c.unused_tape-rest.ensures
    ∙ before_rest c.args.tape.now c.args.count
