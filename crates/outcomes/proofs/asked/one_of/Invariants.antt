-- `outcomes::asked::one_of` meets its contract. Assumes nothing.
use mathlib.Core.Path.{◌≡◌}
use lib.ListN.{drop}
use Rattle.outcomes.specs.Outcome.{listed_length}
use Rattle.outcomes.proofs.asked.one_of.Given as goal

abbrev pub invariant-loop-length : goal.invariant-loop-length
invariant-loop-length l = listed_length l.lengths l.n l.bytes ≡ listed_length (drop l.length-index l.lengths) l.n l.bytes
