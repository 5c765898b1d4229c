-- `place_lists::listed::pick_listed` meets its contract. Assumes nothing.
use mathlib.Core.Path.{◌≡◌, ap, ◌∙◌}
use native.Mathlib.Omega.{arith}
use Prim.Native.Nat.{ℕ}
use lib.ListN.{length, get_or}
use Rattle.xor.specs.Lists.{at}
use Rattle.xor.proofs.WriteLaws.{over_none, over_more, over_all}
use Rattle.place_lists.proofs.ListedLaws.{all_below-at, listed-tab}
use Rattle.place_lists.proofs.listed.pick_listed.Goals as goal

pub loop-k-init : goal.loop-k-init
loop-k-init c = over_none _ _

pub bounds-sheet-from : goal.bounds-sheet-from
bounds-sheet-from c = rw c.from.ensures (all_below-at _ _ c.loop-k.k c.requires.1 (omega arith))

pub loop-k-preserved : goal.loop-k-preserved
unfolding at
loop-k-preserved c = over_more _ _ _ _ _ c.loop-k.invariant (ap (λ (p : ℕ). get_or c.args.sheet.now p 0) c.from.ensures) (omega arith)

pub returns : goal.returns
returns c =
    let e : c.loop-k.k ≡ length c.args.list.now = omega arith in
    over_all _ _ _ _ (rw e at c.loop-k.invariant) (omega arith) ∙ listed-tab _ _
