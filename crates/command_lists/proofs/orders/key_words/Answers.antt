-- `command_lists::orders::key_words` meets its contract. Assumes nothing.
use Rattle.std.proofs.Common.{◌≡◌, ℕ, ◌*◌, ◌<◌, arith}
use Rattle.std.specs.Prelude.{Option, Some, None, Result, IfSome, IfOk}
use Rattle.std.specs.Option.{ok_or}
use Rattle.lengths.specs.declared.key.KeyWords.{KeyWords}
use Rattle.lengths.specs.Lengths.{key_words}
use Rattle.lengths.proofs.LengthsLaws.{key_length}
use Rattle.text.specs.declared.answers.Cause.{Cause}
use Rattle.command_lists.proofs.orders.key_words.Goals as goal

-- the length of one share is the key's
sized : (o : Option KeyWords) (r : Cause) (size : ℕ) (q : Result KeyWords Cause) → q ≡ ok_or o r → IfSome o (λ k. k.nk ≡ key_words 0 size)
    → IfOk q (λ key. 4 * key.nk ≡ size)
sized None r size q e h = rw e tt
sized (Some k) r size q e h =
    let p : 0 < key_words 0 size = omega (arith, h, k.sized) in
    rw e (omega (arith, h, key_length 0 size p))

pub returns : goal.returns
returns c = sized _ _ _ _ c.ok_or.ensures.value (rw c.new.ensures at c.key_words.ensures.some)
