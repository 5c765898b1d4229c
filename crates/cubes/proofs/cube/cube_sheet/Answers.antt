-- `cubes::cube::cube_sheet` meets its contract. Assumes nothing.
use mathlib.Core.Path.{ap}
use Rattle.outcomes.specs.Outcome.{took}
use Rattle.outcomes.proofs.OutcomeLaws.{settled-handed, settled-done}
use Rattle.tape_words.proofs.WordsLaws.{words_reach}
use Rattle.shares.proofs.CallsLaws.{input_through}
use Rattle.cubes.specs.Calls.{cube_sheet_outcome}
use Rattle.cubes.proofs.CallsLaws.{cube-answered}
use Rattle.cubes.proofs.cube.cube_sheet.Goals as goal

pub returns-in_err-input_answer : goal.returns-in_err-input_answer
unfolding cube_sheet_outcome
returns-in_err-input_answer c =
    let e = cube-answered c.args.order _ _ _ _ _ c.cube_size-size.ensures.0 c.input_answer.ensures in
    settled-handed _ _ _ _ _ e _ c.in_err-input_answer.was _ c.from_residual.ensures.1

pub new-d-requires : goal.new-d-requires
new-d-requires c =
    let e = cube-answered c.args.order _ _ _ _ _ c.cube_size-size.ensures.0 c.input_answer.ensures in
    (input_through _ _ _ _ _ _ _ _ e c.in_ok-input_answer.was).order

pub cube_on_words-requires : goal.cube_on_words-requires
cube_on_words-requires c =
    let e = cube-answered c.args.order _ _ _ _ _ c.cube_size-size.ensures.0 c.input_answer.ensures in
    let h = input_through _ _ _ _ _ _ _ _ e c.in_ok-input_answer.was in
    rw c.new-d.ensures (record { input = h.input; drawn = words_reach _ c.args.tape.now h.drawn }, h.output)

pub returns : goal.returns
unfolding cube_sheet_outcome
returns c =
    let e = cube-answered c.args.order _ _ _ _ _ c.cube_size-size.ensures.0 c.input_answer.ensures in
    let m = rw c.new-d.ensures at c.cube_on_words.ensures in
    settled-done _ _ _ _ _ e _ _ _ c.in_ok-input_answer.was (ap took m.0) m.1
