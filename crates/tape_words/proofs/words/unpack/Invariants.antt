-- `tape_words::words::unpack` meets its contract. Assumes nothing.
use Rattle.std.proofs.Common.{◌≡◌, take}
use Rattle.xor.specs.Writes.{front}
use Rattle.tape_words.specs.Words.{bytes_of}
use Rattle.tape_words.proofs.words.unpack.Given as goal

abbrev pub invariant-loop-k : goal.invariant-loop-k
invariant-loop-k l = l.room ≡ front (bytes_of (take l.k l.words)) l.initial.room
