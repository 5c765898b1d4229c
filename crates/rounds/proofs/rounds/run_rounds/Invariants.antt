-- `rounds::rounds::run_rounds` meets its contract. Assumes nothing.
use mathlib.Core.Path.{◌≡◌}
use Prim.Native.Nat.{suc, ◌≤◌, ◌+◌, ◌*◌, ◌-◌}
use Rattle.shares.specs.Strings.{parts}
use Rattle.tape_words.specs.Words.{bytes_of}
use Rattle.cipher.proofs.DrawingLoops.{round_loop}
use Rattle.buffers.proofs.BufferLaws.{Buffered}
use Rattle.rounds.proofs.rounds.run_rounds.Given as goal

abbrev pub invariant-loop-i : goal.invariant-loop-i
invariant-loop-i l =
    (1 ≤ l.i) × (l.i ≤ suc l.nr) × (l.i-end ≡ l.nr + 1)
    × Buffered (round_loop l.which l.d l.nr (parts (suc l.d) l.m l.keys)) 1 l.d 16 (bytes_of l.tape) l.initial.s l.i (4 * l.at) l.s

abbrev pub decreases-loop-i : goal.decreases-loop-i
decreases-loop-i l = l.i-end - l.i
