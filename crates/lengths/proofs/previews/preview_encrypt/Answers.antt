-- `lengths::previews::preview_encrypt` meets its contract. Assumes nothing.
use Rattle.outcomes.proofs.OutcomeLaws.{settled_same}
use Rattle.lengths.specs.Previews.{encrypt_preview}
use Rattle.lengths.proofs.previews.preview_encrypt.Goals as goal

pub returns : goal.returns
unfolding encrypt_preview
returns c = settled_same _ _ _ _ c.single_answer.ensures
