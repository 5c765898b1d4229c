-- `refresh_names::main` calls `pairs` with room for its lines. Assumes nothing.
use Rattle.std.proofs.Common.{◌≡◌, refl, arith}
use Rattle.xor.specs.Pairs.{before_row}
use Rattle.refresh_names.proofs.main.Goals as goal

three_pairs : before_row 3 3 ≡ 3
unfolding before_row
three_pairs = refl

pub pairs-requires-clause-room : goal.pairs-requires-clause-room
pairs-requires-clause-room c = rw (three_pairs, c.new.ensures) (omega arith)
