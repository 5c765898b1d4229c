-- `shares::bytes::put` meets its contract. Assumes nothing.
use mathlib.Core.List.{List}
use mathlib.Core.Path.{◌≡◌, refl, ap, ◌∙◌}
use Prim.Native.Nat.{ℕ}
use native.Mathlib.Omega.{arith}
use lib.ListN.{length}
use Rattle.xor.specs.Lists.{at, tab}
use Rattle.xor.proofs.ListsLaws.{tab-at}
use Rattle.xor.specs.Writes.{front}
use Rattle.xor.proofs.WriteLaws.{over, over_none, over_more, over_front}
use Rattle.shares.proofs.bytes.put.Goals as goal

-- all of x is written
written : (x o : List ℕ) (k : ℕ) (y : List ℕ) → y ≡ over (at x) k o → k ≡ length x → y ≡ front x o
written x o k y e h = e ∙ over_front (at x) k o ∙ ap (λ (v : List ℕ). front v o) (ap (tab (at x)) h ∙ tab-at x)

pub loop-k-init : goal.loop-k-init
loop-k-init c = over_none _ _

pub loop-k-preserved : goal.loop-k-preserved
unfolding at
loop-k-preserved c = over_more _ _ _ _ _ c.loop-k.invariant refl (omega arith)

pub returns : goal.returns
returns c = written _ _ _ _ c.loop-k.invariant (omega arith)
