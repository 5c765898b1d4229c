-- `call_listing::rounds::rounds` meets its contract. Assumes nothing.
use Rattle.std.proofs.Common.{◌≡◌, ◌+◌, ◌-◌}
use Rattle.cipher.specs.Fips197 as Fips197
use Rattle.call_listing.specs.Walk.{rounds_of}
use Rattle.call_listing.proofs.rounds.rounds.Given as goal

abbrev pub invariant-loop-r : goal.invariant-loop-r
invariant-loop-r l = l.walk.at + rounds_of l.w (l.nk + 6 - l.r) l.d ≡ l.initial.walk.at + rounds_of l.w (Fips197.rounds l.nk - 1) l.d
