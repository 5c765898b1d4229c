-- `aes::single::encrypt` meets its contract. Assumes nothing.
use Rattle.aes.proofs.single.encrypt.Goals as goal

pub returns : goal.returns
returns c = c.call.ensures
