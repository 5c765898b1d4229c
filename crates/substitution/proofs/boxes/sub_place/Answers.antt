-- `substitution::boxes::sub_place` meets its contract. Assumes nothing.
use Rattle.substitution.proofs.SubLaws.{sub_made}
use borrow.Author.Rules.{rules}
use Rattle.substitution.proofs.boxes.sub_place.Goals as goal

pub box_of-drawn-requires : goal.box_of-drawn-requires
box_of-drawn-requires c =
    record { long = search rules; drawn = search rules }

pub returns : goal.returns
returns c =
    (c.box_of-drawn.ensures.0, sub_made _ _ _ _ _ _ _ _ _ c.gather.ensures c.box_of-drawn.ensures.1 c.scatter.ensures)
