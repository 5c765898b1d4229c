-- `lengths::previews::preview_prepare` meets its contract. Assumes nothing.
use Rattle.outcomes.proofs.OutcomeLaws.{settled_same}
use Rattle.lengths.specs.Previews.{prepare_preview}
use Rattle.lengths.proofs.previews.preview_prepare.Goals as goal

pub returns : goal.returns
unfolding prepare_preview
returns c = settled_same _ _ _ _ c.preparation_answer.ensures
