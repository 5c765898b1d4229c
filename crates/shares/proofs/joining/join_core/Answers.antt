-- `shares::joining::join_core` meets its contract. Assumes nothing.
use mathlib.Core.Path.{◌≡◌, ap, sym, ◌∙◌}
use mathlib.Core.List.{List}
use Prim.Native.Nat.{ℕ, ◌≤◌, ◌+◌, ◌*◌, ◌-◌}
use native.Mathlib.Omega.{arith}
use lib.ListN.{length, take, drop, length-drop}
use lib.Seq.{length-take-le}
use Rattle.xor.specs.Sums.{xors}
use Rattle.xor.specs.Writes.{front}
use Rattle.shares.specs.Strings.{joined_string, parts}
use Rattle.shares.proofs.StringsLaws.{one_more, joined_first}
use Rattle.xor.proofs.WriteLaws.{part_rest, part_first, front-all}
use Rattle.shares.proofs.joining.join_core.Goals as goal

pub xor_parts-requires : goal.xor_parts-requires
xor_parts-requires c =
    let v = c.args in
    let xs = v.input.now in
    let l : length c.put.new.out ≡ v.l = c.put.auto.out ∙ c.requires.0 in
    let n : length xs ≡ v.l + v.d * v.l = c.requires.1 ∙ one_more v.d v.l in
    let e : length (take (length xs - v.l) (drop v.l xs)) ≡ v.d * v.l = ap length (part_rest xs v.l) ∙ length-drop v.l xs ∙ omega arith in
    let h : v.d * v.l ≤ length (take (length xs - v.l) (drop v.l xs)) = omega arith in
    rw c.number.ensures.0 (rw l h)

pub returns : goal.returns
returns c =
    let v = c.args in
    let xs = v.input.now in
    let n : length xs ≡ v.l + v.d * v.l = c.requires.1 ∙ one_more v.d v.l in
    let t : length (take v.l xs) ≡ length v.output.now = length-take-le v.l xs (omega arith) ∙ sym c.requires.0 in
    let first : c.put.new.out ≡ take v.l xs =
    c.put.ensures ∙ ap (λ (x : List ℕ). front x v.output.now) (part_first xs v.l) ∙ front-all (take v.l xs) v.output.now t in
    joined_first v.d v.l _ xs _ _ first (c.put.auto.out ∙ c.requires.0)
    ((rw c.number.ensures.0 at c.xor_parts.ensures.1)
    ∙ ap (λ (r : List ℕ). xors c.put.new.out (joined_string (parts v.d (length c.put.new.out) r))) (part_rest xs v.l))
