-- `schedule::word::turned_temp` meets its contract. Assumes nothing.
use lib.ListN.{length-set}
use Rattle.tape_words.specs.Words.{bytes_of}
use Rattle.schedule.proofs.WordLaws.{turned_is}
use borrow.Author.Rules.{rules}
use Rattle.schedule.proofs.word.turned_temp.Goals as goal

pub shape_of-t : goal.shape_of-t
shape_of-t c = simp length-set (search rules)

pub returns : goal.returns
returns c =
    let v = c.args in
    let word = c.sub_word-drawn.ensures in
    let made = turned_is v.d v.j _ (bytes_of v.tape.now) v.t.now _ _ c.requires.long word.1 c.rot_all.ensures in
    (word.0, made c.rcon.ensures)
