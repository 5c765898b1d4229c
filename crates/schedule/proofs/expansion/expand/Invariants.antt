-- `schedule::expansion::expand` meets its contract. Assumes nothing.
use mathlib.Core.Path.{◌≡◌}
use Prim.Native.Nat.{suc, ◌≤◌, ◌*◌, ◌-◌}
use lib.ListN.{length}
use Rattle.tape_words.specs.Words.{bytes_of}
use Rattle.cipher.proofs.DrawingLaws.{Drawing}
use Rattle.cipher.proofs.DrawingLoops.{word_loop}
use Rattle.schedule.specs.Stored.{written}
use Rattle.schedule.proofs.expansion.expand.Given as goal

abbrev pub invariant-loop-i : goal.invariant-loop-i
invariant-loop-i l =
    (l.nk ≤ l.i) × (l.i ≤ l.total) × (l.m ≡ 4 * l.total) × (length l.keys ≡ suc l.d * (4 * l.total))
    × Drawing (word_loop l.nk l.d l.total) l.nk (written l.d l.total l.nk l.initial.keys) (bytes_of l.tape) l.i (4 * l.at)
    (written l.d l.total l.i l.keys)

abbrev pub decreases-loop-i : goal.decreases-loop-i
decreases-loop-i l = l.total - l.i
