-- `sheet_parts::parts::put_starts` meets its contract. Assumes nothing.
use Rattle.std.proofs.Common.{◌≡◌, ◌<◌, refl, arith}
use Rattle.std.proofs.Math.Seq.{length-take-le}
use Rattle.std.proofs.lemmas.List.{get_or-take}
use Rattle.xor.specs.Lists.{at}
use Rattle.sheet_parts.specs.Parts.{starts_put}
use Rattle.sheet_parts.proofs.PartsLaws.{starts_put-more}
use Rattle.sheet_parts.proofs.parts.put_starts.Goals as goal

pub loop-k-init : goal.loop-k-init
unfolding starts_put
loop-k-init c = refl

pub loop-k-preserved : goal.loop-k-preserved
unfolding at
loop-k-preserved c =
    let l = c.loop-k in
    let v = c.args in
    let h : l.k < v.n = omega (arith, length-take-le v.n v.sums.now (omega arith)) in
    starts_put-more _ _ _ _ _ l.invariant (get_or-take v.n v.sums.now l.k 0 h)

pub returns : goal.returns
returns c =
    let v = c.args in
    let e : c.loop-k.k ≡ v.n = omega (arith, length-take-le v.n v.sums.now (omega arith)) in
    rw e at c.loop-k.invariant
