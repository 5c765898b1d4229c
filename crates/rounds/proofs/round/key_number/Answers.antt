-- `rounds::round::key_number` meets its contract. Assumes nothing.
use mathlib.Core.Path.{sym, ap}
use native.Mathlib.Omega.{arith}
use Rattle.gf256.specs.declared.Direction.{Direction}
use Rattle.cipher.specs.Rounds.{key_of}
use Rattle.rounds.proofs.round.key_number.Goals as goal

pub returns-in-Inverse : goal.returns-in-Inverse
returns-in-Inverse c =
    let a = c.args in
    (sym (ap (λ (w : Direction). key_of w a.nr a.i) c.in-Inverse.is), omega arith)
