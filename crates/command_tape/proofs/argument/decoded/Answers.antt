-- `command_tape::argument::decoded` meets its contract. Assumes nothing.
use Rattle.text.proofs.LengthLaws.{length-words}
use Rattle.command_line.proofs.FilledLaws.{put-filled}
use Rattle.command_tape.proofs.argument.decoded.Goals as goal

pub returns : goal.returns
returns c = put-filled _ _ _ _ _ _ (length-words _) c.in_ok-n.ensures c.fill_words.ensures
