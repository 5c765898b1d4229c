-- `call_listing::boxes::of_round` meets its contract. Assumes nothing.
use Rattle.std.proofs.Common.{◌≡◌, ◌+◌, ◌*◌}
use Rattle.probing.specs.BoxPlaces.{box_count}
use Rattle.call_listing.proofs.boxes.of_round.Given as goal

abbrev pub invariant-loop-m : goal.invariant-loop-m
invariant-loop-m l = l.walk.at ≡ l.initial.walk.at + l.m * box_count l.d
