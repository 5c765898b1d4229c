-- `masking::steps::skip` meets its contract. Assumes nothing.
use native.Mathlib.Omega.{arith}
use native.Mathlib.Numerals.{add-one}
use borrow.Author.Tests.{lt-ltb, le-ltb}
use Rattle.isw.specs.Place.{skip}
use Rattle.masking.proofs.steps.skip.Goals as goal

pub returns-then-k-i : goal.returns-then-k-i
unfolding skip
returns-then-k-i c = (simp (lt-ltb _ _ c.if-k-i.true), omega arith)

pub returns-else-k-i : goal.returns-else-k-i
unfolding skip
returns-else-k-i c = (simp (le-ltb _ _ c.if-k-i.false, add-one), omega arith)
