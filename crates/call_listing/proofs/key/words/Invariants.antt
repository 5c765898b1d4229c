-- `call_listing::key::words` meets its contract. Assumes nothing.
use Rattle.std.proofs.Common.{◌≡◌, ◌+◌, ◌-◌, ◌*◌}
use Rattle.probing.specs.SchedulePlaces.{schedule_from_count, schedule_count}
use Rattle.call_listing.proofs.key.words.Given as goal

abbrev pub invariant-loop-i : goal.invariant-loop-i
invariant-loop-i l = l.walk.at + schedule_from_count (4 * (l.nk + 7) - l.i) l.i l.nk l.d ≡ l.initial.walk.at + schedule_count l.nk l.d
