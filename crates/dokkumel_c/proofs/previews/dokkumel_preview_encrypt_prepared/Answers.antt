-- `dokkumel_c::previews::dokkumel_preview_encrypt_prepared` meets its contract. Assumes nothing.
use mathlib.Core.List.{[]}
use Rattle.dokkumel_c.proofs.ReturnedLaws.{handed_on}
use Rattle.dokkumel_c.proofs.previews.dokkumel_preview_encrypt_prepared.Goals as goal

pub returns : goal.returns
returns c = handed_on _ c.preview_encrypt_prepared-answer.ensures (c.returned.ensures [])
