-- `aes::single::decrypt` meets its contract. Assumes nothing.
use Rattle.aes.proofs.single.decrypt.Goals as goal

pub returns : goal.returns
returns c = c.call.ensures
