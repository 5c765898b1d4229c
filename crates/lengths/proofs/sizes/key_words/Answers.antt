-- `lengths::sizes::key_words` meets its contract. Assumes nothing.
use Rattle.lengths.proofs.LengthsLaws.{key_words-none, key_words-made, key_words-sized}
use Rattle.lengths.proofs.sizes.key_words.Goals as goal

pub returns-in_err-l-clause-none : goal.returns-in_err-l-clause-none
returns-in_err-l-clause-none c =
    rw c.from_residual.ensures (key_words-none _ c.args.d _ c.shares.ensures.0 _ c.share_length.ensures c.in_err-l.was)

pub invariant_of-result : goal.invariant_of-result
invariant_of-result c = record { sized = key_words-sized _ c.args.d _ c.shares.ensures.0 _ c.share_length.ensures _ c.in_ok-l.was }

pub returns-clause-some : goal.returns-clause-some
returns-clause-some c = key_words-made _ c.args.d _ c.shares.ensures.0 _ c.share_length.ensures _ c.in_ok-l.was
