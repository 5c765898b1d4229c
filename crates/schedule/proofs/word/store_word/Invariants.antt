-- `schedule::word::store_word` meets its contract. Assumes nothing.
use Rattle.schedule.proofs.WordLaws.{Storing}
use Rattle.schedule.proofs.word.store_word.Given as goal

abbrev pub invariant-loop-b : goal.invariant-loop-b
invariant-loop-b l = Storing l.nk l.i l.t l.initial.k l.b l.k
