-- `substitution::boxes::sub_word` meets its contract. Assumes nothing.
use Rattle.xor.specs.Lists.{tab, runs}
use Rattle.substitution.specs.Boxes.{spaced}
use borrow.Author.Rules.{rules}
use Rattle.substitution.proofs.boxes.sub_word.Goals as goal

pub sub_four-requires : goal.sub_four-requires
unfolding spaced tab runs
sub_four-requires c = search rules

pub returns : goal.returns
unfolding spaced tab runs
returns c = c.sub_four.ensures
