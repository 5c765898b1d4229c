-- `call_listing::boxes::of_word` meets its contract. Assumes nothing.
use Rattle.std.proofs.Common.{◌≡◌, ◌+◌, ◌*◌}
use Rattle.probing.specs.BoxPlaces.{box_count}
use Rattle.call_listing.proofs.boxes.of_word.Given as goal

abbrev pub invariant-loop-k : goal.invariant-loop-k
invariant-loop-k l = l.walk.at ≡ l.initial.walk.at + l.k * box_count l.d
