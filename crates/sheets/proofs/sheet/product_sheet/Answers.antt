-- `sheets::sheet::product_sheet` meets its contract. Assumes nothing.
use mathlib.Core.Path.{ap}
use Rattle.outcomes.specs.Outcome.{took}
use Rattle.outcomes.proofs.OutcomeLaws.{settled-handed, settled-done}
use Rattle.tape_words.proofs.WordsLaws.{words_reach}
use Rattle.masking.proofs.CallsLaws.{factors_answered, factors_through}
use Rattle.sheets.specs.Calls.{sheet_outcome}
use Rattle.sheets.proofs.sheet.product_sheet.Goals as goal

pub returns-in_err-factors_answer : goal.returns-in_err-factors_answer
unfolding sheet_outcome
returns-in_err-factors_answer c =
    let e = factors_answered _ _ c.args.order _ _ _ _ _ _ c.sheet_size.ensures.0 c.factors_answer.ensures in
    settled-handed _ _ _ _ _ e _ c.in_err-factors_answer.was _ c.from_residual.ensures.1

pub new-d-requires : goal.new-d-requires
new-d-requires c =
    let e = factors_answered _ _ c.args.order _ _ _ _ _ _ c.sheet_size.ensures.0 c.factors_answer.ensures in
    (factors_through _ _ _ _ _ _ _ _ _ e c.in_ok-factors_answer.was).order

pub sheet_on_words-requires : goal.sheet_on_words-requires
sheet_on_words-requires c =
    let e = factors_answered _ _ c.args.order _ _ _ _ _ _ c.sheet_size.ensures.0 c.factors_answer.ensures in
    let h = factors_through _ _ _ _ _ _ _ _ _ e c.in_ok-factors_answer.was in
    rw c.new-d.ensures (record { left = h.left; right = h.right; drawn = words_reach _ c.args.tape.now h.drawn }, h.output)

pub returns : goal.returns
unfolding sheet_outcome
returns c =
    let e = factors_answered _ _ c.args.order _ _ _ _ _ _ c.sheet_size.ensures.0 c.factors_answer.ensures in
    let m = rw c.new-d.ensures at c.sheet_on_words.ensures in
    settled-done _ _ _ _ _ e _ _ _ c.in_ok-factors_answer.was (ap took m.0) m.1
