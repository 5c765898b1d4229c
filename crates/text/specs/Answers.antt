-- What came of a call, told in the words of a table. Assumes nothing: these are definitions. Documents 01 and 02 decide the words.
use Rattle.std.specs.Prelude.{Result, Ok, Err}
use Rattle.outcomes.specs.Outcome.{Answer}
use Rattle.outcomes.specs.declared.Count.{Count}
use Rattle.text.specs.declared.answers.Table.{Table}
use Rattle.text.specs.declared.answers.Cause.{Cause}

-- the count, or the refusal with the table that words it
abbrev pub counted : Answer → Table → Result Count Cause
counted (Ok n) t = Ok n
counted (Err r) t = Err (record { refusal = r; table = t })
