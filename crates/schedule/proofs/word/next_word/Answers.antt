-- `schedule::word::next_word` meets its contract. Assumes nothing.
use native.Mathlib.Omega.{arith}
use Rattle.tape_words.specs.Words.{bytes_of}
use Rattle.schedule.proofs.WordLaws.{word_is}
use borrow.Author.Rules.{rules}
use Rattle.schedule.proofs.word.next_word.Goals as goal

pub make_temp-drawn-requires : goal.make_temp-drawn-requires
make_temp-drawn-requires c =
    let fit = c.requires in
    record { some = fit.some; past = fit.past; long = omega arith; drawn = fit.drawn }

pub returns : goal.returns
returns c =
    let v = c.args in
    let made = c.make_temp-drawn.ensures in
    let word = word_is v.nk v.d v.m v.i v.keys.now (bytes_of v.tape.now) _ _ _ c.fetch.ensures made.1 in
    (made.0, word c.store_all.ensures)
