-- `command_calls::routines::room` meets its contract. Assumes nothing.
use Rattle.std.proofs.Common.{◌≡◌, ℕ, ◌≤◌, arith, sym}
use Rattle.std.specs.Prelude.{Option, Some, None}
use Rattle.std.specs.Option.{unwrap_or}
use native.Mathlib.Nat.{mul-le-mul}
use Rattle.outcomes.specs.Outcome.{listed_length, key_lengths}
use Rattle.outcomes.proofs.LengthsLaws.{share_length_le, share_length-some}
use Rattle.command_calls.proofs.routines.room.Goals as goal

-- a share's length, or 0 for none
share_or_none : (o : Option ℕ) (n b q : ℕ) → o ≡ listed_length key_lengths n b → q ≡ unwrap_or o 0 → q ≤ 32
share_or_none None n b q e f = omega arith
share_or_none (Some l) n b q e f = omega (arith, share_length_le n b, (share_length-some n b l (sym e)).0)

pub returns-in-Split : goal.returns-in-Split
returns-in-Split c =
    let l : c.min-in-Split.result ≤ 32 = omega (arith, c.min-in-Split.ensures) in
    omega (arith, mul-le-mul c.shares-n.ensures.1 l)

pub returns-in-Join : goal.returns-in-Join
returns-in-Join c =
    omega (arith, share_or_none c.share_length.result c.shares-n.result c.args.length c.unwrap_or.result c.share_length.ensures c.unwrap_or.ensures)
