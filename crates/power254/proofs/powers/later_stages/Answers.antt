-- `power254::powers::later_stages` meets its contract. Assumes nothing.
use mathlib.Core.Path.{ap₂}
use Prim.Native.Nat.{◌+◌}
use Rattle.power254.specs.Power254.{stage_w}
use Rattle.power254.proofs.StageLaws.{later_after}
use borrow.Author.Rules.{rules}
use Rattle.power254.proofs.powers.later_stages.Goals as goal

pub raise_refreshed-drawn-requires : goal.raise_refreshed-drawn-requires
raise_refreshed-drawn-requires c =
    record { input = search rules; output = search rules; drawn = search rules }

pub last_stage-requires : goal.last_stage-requires
last_stage-requires c =
    record {
      long_y = search rules;
      long_w = search rules;
      long_z = search rules;
      output = search rules;
      drawn = search rules;
    }

pub returns : goal.returns
unfolding stage_w
returns c =
    let p = c.raise_refreshed-drawn.ensures in
    let q = c.last_stage.ensures in
    (ap₂ ◌+◌ p.0 q.0, later_after _ _ _ _ _ _ _ p.0 p.1 q.1)
