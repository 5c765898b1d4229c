-- `buffers::each::each_share` meets its contract. Assumes nothing.
use mathlib.Core.List.{List}
use Prim.Native.Nat.{ℕ, suc}
use Rattle.buffers.specs.Each.{MakesShares}
use Rattle.buffers.proofs.ShareLaws.{Done}
use Rattle.buffers.proofs.each.each_share.Given as goal

abbrev pub invariant-loop-i : goal.invariant-loop-i
invariant-loop-i g l = (h : ℕ → List ℕ → List ℕ) → MakesShares g.F.Fn l.f (suc l.fn.d) l.l h → Done h l.l l.initial.s l.i l.s
