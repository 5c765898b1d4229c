-- The number that a line has for what a run failed with. Assumes nothing: these are definitions.
use Rattle.std.specs.Prelude.{ℕ}
use Rattle.outcomes.specs.Outcome as Outcome
use Rattle.vector_lines.specs.declared.answers.Failure.{Failure}
use Rattle.vector_lines.specs.declared.answers.Failure.TheVariants.{Refused, Unmade}

-- document 01's number of the refusal; 0 is none of the document's
abbrev pub number : Failure → ℕ
number (Refused r) = Outcome.number r
number Unmade = 0
