-- `tape_words::words::words_for` meets its contract. Assumes nothing.
use Rattle.tape_words.specs.Words.{words_for}
use borrow.Author.Rules.{rules}
use Rattle.tape_words.proofs.words.words_for.Goals as goal

pub returns : goal.returns
unfolding words_for
returns c = search rules
