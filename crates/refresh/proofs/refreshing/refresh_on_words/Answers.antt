-- `refresh::refreshing::refresh_on_words` meets its contract. Assumes nothing.
use mathlib.Core.Path.{ap, ◌∙◌}
use native.Mathlib.Omega.{arith}
use Rattle.tape_words.specs.Words.{words_for}
use Rattle.tape_words.proofs.FrontLaws.{unpack_fits, made_on_words}
use Rattle.refresh.specs.Refresh.{refreshed, refresh_need}
use Rattle.refresh.proofs.RefreshLaws.{refresh_surplus}
use Rattle.refresh.proofs.refreshing.refresh_on_words.Goals as goal

pub unpack-requires : goal.unpack-requires
unpack-requires c =
    let n = c.refresh_need.ensures in
    unpack_fits _ (refresh_need c.args.d) 9 c.args.tape.now n.0 c.requires.1 (omega arith)

pub refresh_core-requires : goal.refresh_core-requires
refresh_core-requires c = let n = c.refresh_need.ensures in (c.requires.0, omega arith)

pub returns : goal.returns
returns c =
    let a = c.args in
    let made = made_on_words (refreshed a.d a.x.now) _ (refresh_surplus a.d a.x.now) in (
      c.words_for.ensures ∙ ap words_for c.refresh_core.ensures.0,
      made _ a.tape.now _ _ _ c.refresh_need.ensures.0 c.requires.1 c.unpack.ensures c.refresh_core.ensures.1,
    )
