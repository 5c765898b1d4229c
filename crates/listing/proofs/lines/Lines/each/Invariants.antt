-- `listing::lines::Lines::each` meets its contract. Assumes nothing.
use Rattle.std.proofs.Common.{◌≡◌, ◌+◌}
use Rattle.listing.proofs.lines.Lines.each.Given as goal

abbrev pub invariant-loop-t : goal.invariant-loop-t
invariant-loop-t g l = l.self.next ≡ l.initial.self.next + l.t
