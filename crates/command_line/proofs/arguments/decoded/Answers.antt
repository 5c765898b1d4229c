-- `command_line::arguments::decoded` meets its contract. Assumes nothing.
use Rattle.text.proofs.LengthLaws.{length-bytes}
use Rattle.command_line.proofs.FilledLaws.{put-filled}
use Rattle.command_line.proofs.arguments.decoded.Goals as goal

pub returns : goal.returns
returns c = put-filled _ _ _ _ _ _ (length-bytes _) c.in_ok-n.ensures c.fill.ensures
