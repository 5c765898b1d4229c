-- `substitution::bytes::gather` meets its contract. Assumes nothing.
use mathlib.Core.Path.{refl}
use Prim.Native.Nat.{suc}
use native.Mathlib.Omega.{arith}
use Rattle.xor.specs.Lists.{at}
use Rattle.xor.proofs.WriteLaws.{over_none, over_more}
use Rattle.buffers.proofs.PartLaws.{place_lt, gathered}
use Rattle.substitution.proofs.bytes.gather.Goals as goal

pub loop-i-init : goal.loop-i-init
loop-i-init c = over_none _ _

pub bounds-s-i : goal.bounds-s-i
bounds-s-i c =
    let a = c.args in
    omega (arith, place_lt (suc a.d) a.l c.loop-i.i a.k (omega arith) (omega arith))

pub loop-i-preserved : goal.loop-i-preserved
unfolding at
loop-i-preserved c = over_more _ _ _ _ _ c.loop-i.invariant refl (omega arith)

pub returns : goal.returns
returns c = gathered _ _ _ _ _ _ _ (omega arith) (omega arith) (omega arith) c.loop-i.invariant
