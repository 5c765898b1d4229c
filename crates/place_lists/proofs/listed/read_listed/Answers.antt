-- `place_lists::listed::read_listed` meets its contract. Assumes nothing.
use Rattle.place_lists.proofs.ReadingLaws.{listed-handed, listed-fits, listed-done}
use Rattle.place_lists.proofs.listed.read_listed.Goals as goal

pub returns-in_err-count : goal.returns-in_err-count
returns-in_err-count c =
    let a = c.args in
    listed-handed a.count a.order a.sheet.now a.list.now a.output.now _ c.all_below-below.ensures _
    c.listed_answer.ensures _ c.in_err-count.was _ c.from_residual.ensures.1

pub pick_listed-requires : goal.pick_listed-requires
pick_listed-requires c =
    let a = c.args in
    listed-fits a.count a.order a.sheet.now a.list.now a.output.now _ c.all_below-below.ensures _
    c.listed_answer.ensures _ c.in_ok-count.was

pub returns : goal.returns
returns c =
    let a = c.args in
    listed-done a.count a.order a.sheet.now a.list.now a.output.now _ c.all_below-below.ensures _
    c.listed_answer.ensures _ c.in_ok-count.was _ c.pick_listed.ensures
