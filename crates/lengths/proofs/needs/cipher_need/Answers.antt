-- `lengths::needs::cipher_need` meets its contract. Assumes nothing.
use mathlib.Core.Path.{ap₂}
use Prim.Native.Nat.{◌+◌}
use Rattle.cipher.specs.Cipher.{cipher_need}
use Rattle.lengths.proofs.needs.cipher_need.Goals as goal

pub returns : goal.returns
unfolding cipher_need
returns c = ap₂ ◌+◌ c.schedule_need.ensures.0 c.encrypted_with_need.ensures.0
