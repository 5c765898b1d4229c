-- `linear::steps::turn` meets its contract. Assumes nothing.
use mathlib.Core.Path.{sym, ap}
use native.Mathlib.Omega.{arith}
use Rattle.gf256.specs.declared.Direction.{Direction}
use Rattle.linear.specs.Steps.{turn_of}
use Rattle.linear.proofs.steps.turn.Goals as goal

pub returns-in-Inverse : goal.returns-in-Inverse
returns-in-Inverse c = (sym (ap (λ (w : Direction). turn_of w c.args.r) c.in-Inverse.is), omega arith)
