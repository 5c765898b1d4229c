-- `power254::powers::raise` meets its contract. Assumes nothing.
use mathlib.Core.Path.{◌≡◌}
use Rattle.xor.specs.Lists.{at}
use Rattle.gf256.specs.Exponents.{raised_to}
use Rattle.xor.proofs.WriteLaws.{over}
use Rattle.power254.proofs.powers.raise.Given as goal

abbrev pub invariant-loop-k : goal.invariant-loop-k
invariant-loop-k l = l.z ≡ over (λ q. raised_to l.which (at l.x q)) l.k l.initial.z
