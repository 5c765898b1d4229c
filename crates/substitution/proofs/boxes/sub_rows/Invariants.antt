-- `substitution::boxes::sub_rows` meets its contract. Assumes nothing.
use Prim.Native.Nat.{◌*◌, ◌≤◌, ◌-◌}
use Rattle.tape_words.specs.Words.{bytes_of}
use Rattle.buffers.proofs.BufferLaws.{Buffered}
use Rattle.substitution.proofs.SubLaws.{four-rows}
use Rattle.substitution.proofs.boxes.sub_rows.Given as goal

abbrev pub invariant-loop-r : goal.invariant-loop-r
invariant-loop-r l = (l.r ≤ 4) × Buffered (four-rows l.which l.d) 0 l.d 16 (bytes_of l.tape) l.initial.s l.r (4 * l.at) l.s

abbrev pub decreases-loop-r : goal.decreases-loop-r
decreases-loop-r l = 4 - l.r
