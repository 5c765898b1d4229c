-- `lengths::sizes::prepared_length` meets its contract. Assumes nothing.
use native.Mathlib.Omega.{arith}
use Rattle.lengths.proofs.LengthsLaws.{prepared_length_is, prepared_length_bound}
use Rattle.lengths.proofs.sizes.prepared_length.Goals as goal

pub overflow_mul-result-2 : goal.overflow_mul-result-2
overflow_mul-result-2 c = omega (arith, prepared_length_bound c.args.nk c.shares.result c.shares.ensures.1 c.requires)

pub returns : goal.returns
returns c =
    (prepared_length_is c.args.nk _ c.args.d c.shares.ensures.0, prepared_length_bound c.args.nk c.shares.result c.shares.ensures.1 c.requires)
