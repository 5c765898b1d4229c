-- `linear::steps::shift_rows` meets its contract. Assumes nothing.
use mathlib.Core.List.{List}
use mathlib.Core.Path.{◌≡◌, ap₂, ◌∙◌}
use Prim.Native.Nat.{ℕ, ◌+◌, ◌*◌, ◌/◌, ◌%◌}
use native.Mathlib.Omega.{arith}
use lib.ListN.{get_or}
use Rattle.xor.specs.Lists.{at}
use Rattle.xor.proofs.WriteLaws.{over_none, over_more, over_all}
use Rattle.gf256.specs.declared.Direction.{Direction}
use Rattle.cipher.specs.Fips197.{cell, state}
use Rattle.linear.specs.Steps.{turn_of}
use Rattle.linear.proofs.StepLaws.{rows_turned}
use Rattle.linear.proofs.steps.shift_rows.Invariants.{shifted_byte}
use Rattle.linear.proofs.steps.shift_rows.Goals as goal

-- what the code reads for byte k
read : (w : Direction) (t : List ℕ) (k q : ℕ) → q ≡ turn_of w (k % 4) → get_or t (k % 4 + 4 * ((k / 4 + q) % 4)) 0 ≡ shifted_byte w t k
unfolding cell at
read w t k q e = let f : k % 4 ≡ k % 4 % 4 = omega arith in ap₂ (λ (i j : ℕ). get_or t (i + 4 * ((k / 4 + j) % 4)) 0) f e

pub loop-k-init : goal.loop-k-init
loop-k-init c = over_none _ _

pub loop-k-preserved : goal.loop-k-preserved
loop-k-preserved c =
    let a = c.args in
    let l = c.loop-k in
    let byte = read a.which a.t.now l.k _ c.turn.ensures.0 in
    over_more _ l.k _ l.s a.s.now l.invariant byte (omega arith)

pub returns : goal.returns
unfolding state
returns c =
    let a = c.args in
    let e : c.loop-k.k ≡ 16 = omega arith in
    over_all _ 16 _ _ (rw e at c.loop-k.invariant) (omega arith) ∙ rows_turned a.which a.t.now
