-- `refresh::refreshing::refresh_need` meets its contract. Assumes nothing.
use mathlib.Core.Path.{sym, ◌∙◌}
use Rattle.refresh.proofs.RefreshLaws.{refresh_need-pairs}
use Rattle.refresh.proofs.refreshing.refresh_need.Goals as goal

pub returns : goal.returns
returns c = (c.pair_count.ensures.0 ∙ sym (refresh_need-pairs _), c.pair_count.ensures.1)
