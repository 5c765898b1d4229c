-- `linear::steps::mix_columns` meets its contract. Assumes nothing.
use mathlib.Core.List.{List}
use mathlib.Core.Path.{◌≡◌, ap, ◌∙◌}
use Prim.Native.Nat.{ℕ, ◌<◌, ◌+◌, ◌*◌, ◌/◌, ◌%◌}
use native.Mathlib.Omega.{arith}
use lib.ListN.{get_or}
use Rattle.xor.specs.Lists.{at}
use Rattle.gf256.specs.declared.Direction.{Direction}
use Rattle.gf256.specs.Directions.{mixed_of}
use Rattle.xor.proofs.WriteLaws.{over_none, over_more, over_all}
use Rattle.cipher.specs.Fips197.{cell, state}
use Rattle.linear.proofs.StepLaws.{columns_mixed}
use Rattle.linear.proofs.steps.mix_columns.Invariants.{mixed_byte}
use Rattle.linear.proofs.steps.mix_columns.Goals as goal

-- what the code reads for byte k
read_first : (t : List ℕ) (k : ℕ) → k < 16 → get_or t (4 * (k / 4) + k % 4) 0 ≡ cell t (k % 4) (k / 4)
unfolding cell at
read_first t k h = let e : 4 * (k / 4) + k % 4 ≡ k % 4 % 4 + 4 * (k / 4 % 4) = omega arith in ap (λ (i : ℕ). get_or t i 0) e

read_next : (t : List ℕ) (k j : ℕ) → k < 16 → get_or t (4 * (k / 4) + (k % 4 + j) % 4) 0 ≡ cell t (k % 4 + j) (k / 4)
unfolding cell at
read_next t k j h = let e : 4 * (k / 4) + (k % 4 + j) % 4 ≡ (k % 4 + j) % 4 + 4 * (k / 4 % 4) = omega arith in ap (λ (i : ℕ). get_or t i 0) e

read : (w : Direction) (t : List ℕ) (k : ℕ) → k < 16
    → mixed_of w (get_or t (4 * (k / 4) + k % 4) 0) (get_or t (4 * (k / 4) + (k % 4 + 1) % 4) 0)
    (get_or t (4 * (k / 4) + (k % 4 + 2) % 4) 0) (get_or t (4 * (k / 4) + (k % 4 + 3) % 4) 0)
    ≡ mixed_byte w t k
read w t k h = cc (read_first t k h, read_next t k 1 h, read_next t k 2 h, read_next t k 3 h)

pub loop-k-init : goal.loop-k-init
loop-k-init c = over_none _ _

pub loop-k-preserved : goal.loop-k-preserved
loop-k-preserved c =
    let a = c.args in
    let l = c.loop-k in
    let byte = c.mixed_of.ensures ∙ read a.which a.t.now l.k (omega arith) in
    over_more _ l.k _ l.s a.s.now l.invariant byte (omega arith)

pub returns : goal.returns
unfolding state
returns c =
    let a = c.args in
    let e : c.loop-k.k ≡ 16 = omega arith in
    over_all _ 16 _ _ (rw e at c.loop-k.invariant) (omega arith) ∙ columns_mixed a.which a.t.now
