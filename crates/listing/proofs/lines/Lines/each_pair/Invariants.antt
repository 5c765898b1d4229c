-- `listing::lines::Lines::each_pair` meets its contract. Assumes nothing.
use Rattle.std.proofs.Common.{◌≡◌, ◌+◌, ◌*◌}
use Rattle.xor.specs.Pairs.{before_row}
use Rattle.listing.proofs.lines.Lines.each_pair.Given as goal

abbrev pub invariant-loop-i : goal.invariant-loop-i
invariant-loop-i g l = l.self.next ≡ l.initial.self.next + l.count * before_row l.n l.i-counter
