-- `text::decimal::read` meets its contract. Assumes nothing.
use mathlib.Core.Path.{◌≡◌}
use lib.ListN.{drop}
use Rattle.text.specs.Decimal.{read}
use Rattle.text.proofs.DecimalLaws.{read_on}
use Rattle.text.proofs.decimal.read.Given as goal

abbrev pub invariant-loop-c : goal.invariant-loop-c
invariant-loop-c l = read_on l.n (drop l.c-index l.text) ≡ read l.text
