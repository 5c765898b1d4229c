-- `lengths::sizes::prepared_words` meets its contract. Assumes nothing.
use native.Mathlib.Omega.{arith}
use Rattle.lengths.proofs.LengthsLaws.{prepared_words-none, prepared_words-made, prepared_words-sized}
use Rattle.lengths.proofs.sizes.prepared_words.Goals as goal

pub returns-in_err-l-clause-none : goal.returns-in_err-l-clause-none
returns-in_err-l-clause-none c =
    rw c.from_residual.ensures (prepared_words-none _ c.args.d _ c.shares.ensures.0 _ c.one_of.ensures c.in_err-l.was)

pub overflow_sub-result : goal.overflow_sub-result
overflow_sub-result c =
    omega (arith, prepared_words-sized _ c.args.d _ c.shares.ensures.0 _ c.one_of.ensures _ c.in_ok-l.was)

pub invariant_of-result : goal.invariant_of-result
invariant_of-result c = record { sized = (prepared_words-sized _ c.args.d _ c.shares.ensures.0 _ c.one_of.ensures _ c.in_ok-l.was).1 }

pub returns-clause-some : goal.returns-clause-some
returns-clause-some c = prepared_words-made _ c.args.d _ c.shares.ensures.0 _ c.one_of.ensures _ c.in_ok-l.was
