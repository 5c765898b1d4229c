-- `sbox::boxes::affine_all` meets its contract. Assumes nothing.
use mathlib.Core.Path.{◌∙◌}
use Prim.Native.Nat.{◌≤◌, ◌<◌}
use native.Mathlib.Omega.{arith}
use lib.ListN.{length}
use lib.Seq.{length-take-le}
use Rattle.power254.proofs.EachLaws.{each_none, each_named, each_all, numbers, first_numbered}
use Rattle.sbox.proofs.boxes.affine_all.Goals as goal

pub loop-number-init : goal.loop-number-init
loop-number-init c = each_none _ _

pub bounds-x-i : goal.bounds-x-i
bounds-x-i c =
    let n = c.shares.result in
    let long = length-take-le n numbers c.shares.ensures.1 in
    omega (arith, c.shares.ensures, first_numbered n c.loop-number.number-index c.shares.ensures.1 (omega arith))

pub loop-number-preserved : goal.loop-number-preserved
loop-number-preserved c =
    let n = c.shares.result in
    let l = c.loop-number in
    let long = length-take-le n numbers c.shares.ensures.1 in
    let here : l.number-index < n = omega arith in
    let within : l.number-index < length c.args.x.now = omega (arith, c.shares.ensures) in
    each_named _ _ _ _ _ _ (c.from-i.ensures ∙ first_numbered n l.number-index c.shares.ensures.1 here) l.invariant c.affine.ensures within

pub returns : goal.returns
returns c =
    let long = length-take-le c.shares.result numbers c.shares.ensures.1 in
    each_all _ _ _ _ c.loop-number.invariant (omega (arith, c.shares.ensures))
