-- `shares::tape::unused_tape` meets its contract. Assumes nothing.
use native.Mathlib.Omega.{arith}
use Rattle.shares.specs.Calls.{unused}
use Rattle.xor.proofs.WriteLaws.{part_rest, part-past}
use Rattle.shares.proofs.tape.unused_tape.Goals as goal

pub returns-then-count-tape : goal.returns-then-count-tape
unfolding unused
returns-then-count-tape c =
    part_rest c.args.tape.now c.args.count

pub returns-else-count-tape : goal.returns-else-count-tape
unfolding unused
returns-else-count-tape c =
    part-past c.args.tape.now c.args.count (omega arith)
