-- `text::decimal::read` meets its contract. Assumes nothing.
use mathlib.Core.Path.{◌∙◌}
use native.Mathlib.Omega.{arith}
use Rattle.std.proofs.lemmas.Bool.Decides.{nat_tests}
use Rattle.text.proofs.DecimalLaws.{read_first, read_empty, read_more, read_none, read_all}
use Rattle.text.proofs.decimal.read.Goals as goal

pub returns-then-is_empty : goal.returns-then-is_empty
returns-then-is_empty c = read_empty _ (grind (arith, nat_tests))

pub loop-c-init : goal.loop-c-init
loop-c-init c = read_first _ (grind (arith, nat_tests))

pub loop-c-preserved : goal.loop-c-preserved
loop-c-preserved c = let l = c.loop-c in read_more c.args.text.now l.c-index l.n c.in_ok-n.n c.in_ok-n.ensures (omega arith) ∙ l.invariant

pub returns-in_err-n : goal.returns-in_err-n
returns-in_err-n c =
    let l = c.loop-c in c.from_residual.ensures ∙ read_none c.args.text.now l.c-index l.n c.in_err-n.ensures (omega arith) ∙ l.invariant

pub returns : goal.returns
returns c = let l = c.loop-c in read_all c.args.text.now l.c-index l.n (omega arith) ∙ l.invariant
