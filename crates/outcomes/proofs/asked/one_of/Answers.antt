-- `outcomes::asked::one_of` meets its contract. Assumes nothing.
use mathlib.Core.Path.{sym, ◌∙◌}
use native.Mathlib.Omega.{arith}
use Rattle.outcomes.proofs.LengthsLaws.{listed_length_end, listed_length_found, listed_length-passed}
use Rattle.outcomes.proofs.asked.one_of.Goals as goal

pub returns-then-bytes-n : goal.returns-then-bytes-n
returns-then-bytes-n c =
    let a = c.args in
    let l = c.loop-length in
    sym (l.invariant ∙ listed_length_found a.lengths.now a.n a.bytes l.length-index (omega arith) c.if-bytes-n.true)

pub loop-length-preserved : goal.loop-length-preserved
loop-length-preserved c =
    let a = c.args in
    let l = c.loop-length in
    l.invariant ∙ listed_length-passed a.lengths.now a.n a.bytes l.length-index (omega arith) c.if-bytes-n.false

pub returns : goal.returns
returns c =
    let a = c.args in
    let l = c.loop-length in
    sym (l.invariant ∙ listed_length_end a.lengths.now a.n a.bytes l.length-index (omega arith))
