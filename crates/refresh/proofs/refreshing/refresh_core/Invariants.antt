-- `refresh::refreshing::refresh_core` meets its contract. Assumes nothing.
use Rattle.std.proofs.Common.{◌≡◌, suc, ◌≤◌}
use Rattle.xor.specs.Pairs.{before_row}
use Rattle.refresh.specs.Refresh.{refresh_need}
use Rattle.refresh.proofs.RefreshLaws.{rows-refreshed}
use Rattle.refresh.proofs.refreshing.refresh_core.Given as goal

abbrev pub invariant-loop-i : goal.invariant-loop-i
invariant-loop-i l = record {
  drawn : l.drawn ≡ before_row (suc l.fn.d) l.i;
  needed : before_row (suc l.fn.d) l.i ≤ refresh_need l.fn.d;
  rows : l.x ≡ rows-refreshed (suc l.fn.d) l.i l.initial.x l.tape;
}
