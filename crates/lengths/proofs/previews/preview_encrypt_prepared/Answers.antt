-- `lengths::previews::preview_encrypt_prepared` meets its contract. Assumes nothing.
use Rattle.outcomes.proofs.OutcomeLaws.{settled_same}
use Rattle.lengths.specs.Previews.{encrypt_prepared_preview}
use Rattle.lengths.proofs.previews.preview_encrypt_prepared.Goals as goal

pub returns : goal.returns
unfolding encrypt_prepared_preview
returns c = settled_same _ _ _ _ c.prepared_answer.ensures
