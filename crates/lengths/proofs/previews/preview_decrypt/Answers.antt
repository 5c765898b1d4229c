-- `lengths::previews::preview_decrypt` meets its contract. Assumes nothing.
use Rattle.outcomes.proofs.OutcomeLaws.{settled_same}
use Rattle.lengths.specs.Previews.{decrypt_preview}
use Rattle.lengths.proofs.previews.preview_decrypt.Goals as goal

pub returns : goal.returns
unfolding decrypt_preview
returns c = settled_same _ _ _ _ c.single_answer.ensures
