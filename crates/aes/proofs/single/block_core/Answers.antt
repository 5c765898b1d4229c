-- `aes::single::block_core` meets its contract. Assumes nothing.
use mathlib.Core.Path.{◌∙◌}
use Rattle.xor.proofs.WriteLaws.{length-part_first}
use Rattle.aes.proofs.CallsLaws.{prepared_keys_length}
use borrow.Author.Rules.{rules}
use Rattle.aes.proofs.single.block_core.Goals as goal

pub block_with-requires : goal.block_with-requires
block_with-requires c =
    let a = c.args in
    let size = c.prepared_length-size in
    let room = length-part_first _ size.result size.ensures.1 in
    (search rules, room ∙ prepared_keys_length a.nk a.d _ size.ensures.0)
