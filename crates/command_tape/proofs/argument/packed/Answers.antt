-- `command_tape::argument::packed` meets its contract. Assumes nothing.
use Rattle.text.proofs.LengthLaws.{length-packed}
use Rattle.command_line.proofs.FilledLaws.{put-filled}
use Rattle.command_tape.proofs.argument.packed.Goals as goal

pub returns : goal.returns
returns c = put-filled _ _ _ _ _ _ (length-packed _) c.in_ok-n.ensures c.pack.ensures
