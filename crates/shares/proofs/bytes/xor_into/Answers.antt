-- `shares::bytes::xor_into` meets its contract. Assumes nothing.
use Rattle.std.proofs.Common.{◌≡◌, ℕ, length, get_or, ap, ◌∙◌, arith}
use Rattle.std.specs.Int.Bits.{bit_xor}
use Rattle.xor.specs.Lists.{at}
use Rattle.xor.proofs.StringLaws.{tab-xors}
use Rattle.xor.proofs.WriteLaws.{over_none, over_more, over_all, over_at}
use Rattle.shares.proofs.bytes.xor_into.Goals as goal

pub loop-k-init : goal.loop-k-init
loop-k-init c = over_none _ _

pub loop-k-preserved : goal.loop-k-preserved
unfolding at
loop-k-preserved c =
    let l = c.loop-k in
    let e = over_at _ l.k _ _ l.invariant (omega arith) in
    over_more _ _ _ _ _ l.invariant (ap (λ (a : ℕ). bit_xor a (get_or c.args.y.now l.k 0)) e) (omega arith)

pub returns : goal.returns
returns c =
    let e : c.loop-k.k ≡ length c.args.x.now = omega arith in
    over_all _ _ _ _ (rw e at c.loop-k.invariant) (omega arith) ∙ tab-xors _ _ (omega arith)
