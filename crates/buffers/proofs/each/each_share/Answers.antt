-- `buffers::each::each_share` meets its contract. Assumes nothing.
use mathlib.Core.Path.{◌≡◌, refl, ◌∙◌}
use Prim.Native.Nat.{suc, ◌+◌, ◌*◌, ◌-◌}
use native.Mathlib.Omega.{arith}
use lib.ListN.{length, take, drop, length-drop}
use lib.Seq.{length-take-le}
use Rattle.shares.proofs.StringsLaws.{part-fits}
use Rattle.buffers.proofs.ShareLaws.{done_none, done_more, done_all}
use Rattle.buffers.proofs.each.each_share.Goals as goal

pub loop-i-init : goal.loop-i-init
loop-i-init g c = λ h m. done_none h _ _

pub loop-i-preserved : goal.loop-i-preserved
loop-i-preserved g c = λ h m.
    let v = c.args in
    let l = c.loop-i in
    let a = l.i * v.l in
    let k = a + v.l - a in
    let fits = part-fits l.i (suc v.d) v.l (length v.s.now) (omega arith) (omega arith) in
    let long : length (take k (drop a l.s)) ≡ v.l =
    length-take-le k (drop a l.s) (omega (arith, length-drop a l.s)) ∙ (let e : k ≡ v.l = omega arith in e) in
    done_more h v.l (suc v.d) m.keeps v.s.now l.s _ l.i a k refl (omega arith) (omega arith) (omega arith) (l.invariant h m)
    (m.made l.i _ _ (omega arith) long c.f.ensures)

pub returns : goal.returns
returns g c = λ h m. done_all h c.args.l c.args.s.now _ _ (suc c.args.d) (omega arith) (omega arith) (c.loop-i.invariant h m)
