-- `substitution::boxes::sub_spaced` meets its contract. Assumes nothing.
use mathlib.Core.Path.{◌≡◌}
use Prim.Native.Nat.{◌≤◌, ◌-◌}
use Rattle.buffers.proofs.BufferLaws.{Buffered}
use Rattle.substitution.proofs.SubLaws.{four-boxes}
use Rattle.substitution.proofs.boxes.sub_spaced.Given as goal

abbrev pub invariant-loop-m : goal.invariant-loop-m
invariant-loop-m l =
    (l.n ≡ 4) × (l.m ≤ 4) × Buffered (four-boxes l.which l.d l.first l.stride) 0 l.d l.l l.tape l.initial.s l.m l.at l.s

abbrev pub decreases-loop-m : goal.decreases-loop-m
decreases-loop-m l = 4 - l.m
