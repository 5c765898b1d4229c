-- `place_lists::listed::pick_listed` meets its contract. Assumes nothing.
use mathlib.Core.Path.{◌≡◌}
use Rattle.xor.specs.Lists.{at}
use Rattle.xor.proofs.WriteLaws.{over}
use Rattle.place_lists.proofs.listed.pick_listed.Given as goal

abbrev pub invariant-loop-k : goal.invariant-loop-k
invariant-loop-k l = l.output ≡ over (λ q. at l.sheet (at l.list q)) l.k l.initial.output
