-- `schedule::word::store_word` meets its contract. Assumes nothing.
use native.Mathlib.Omega.{arith}
use Rattle.schedule.proofs.WordLaws.{storing_start, storing_more, storing_done}
use Rattle.schedule.proofs.word.store_word.Goals as goal

pub loop-b-init : goal.loop-b-init
loop-b-init c = let v = c.args in storing_start v.nk v.i v.t.now v.k.now

pub loop-b-preserved : goal.loop-b-preserved
loop-b-preserved c =
    let v = c.args in
    let l = c.loop-b in
    let more = storing_more v.nk v.i v.t.now v.k.now (omega arith) (omega arith) (omega arith) (omega arith) in
    more l.b l.k (omega arith) l.invariant

pub returns : goal.returns
returns c =
    let v = c.args in
    let l = c.loop-b in
    storing_done v.nk v.i v.t.now v.k.now (omega arith) (omega arith) (omega arith) (omega arith)
    l.b l.k (omega arith) l.invariant
