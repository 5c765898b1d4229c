-- `shares::splitting::split_core` meets its contract. Assumes nothing.
use mathlib.Core.Path.{◌≡◌, refl, ap, sym, ◌∙◌}
use mathlib.Core.List.{List, ◌++◌}
use Prim.Native.Nat.{ℕ, ◌≤◌, ◌+◌, ◌*◌, ◌-◌}
use native.Mathlib.Omega.{arith}
use lib.ListN.{length, take, drop, length-append}
use lib.Seq.{length-take-le}
use Rattle.xor.specs.Sums.{xors}
use Rattle.xor.proofs.WriteLaws.{length-part_first, length-part_rest, part_first, front-part, front-all}
use Rattle.xor.specs.Writes.{front}
use Rattle.shares.specs.Strings.{joined_string, parts}
use Rattle.shares.proofs.StringsLaws.{one_more, length_masked, laid-split}
use Rattle.shares.proofs.splitting.split_core.Goals as goal

pub first_share-drawn-requires : goal.first_share-drawn-requires
first_share-drawn-requires c =
    let v = c.args in
    let n : length v.output.now ≡ length v.input.now + v.d * length v.input.now =
    c.requires.1 ∙ one_more v.d (length v.input.now) in
    (c.requires.0, omega arith)

pub slice_bounds-put-end : goal.slice_bounds-put-end
slice_bounds-put-end c =
    let v = c.args in
    let r : c.first_share-drawn.result ≡ v.d * length v.input.now = c.first_share-drawn.ensures.0 in
    let h : c.first_share-drawn.result ≤ length v.tape.now = omega (arith, c.requires.0) in
    h

pub put-requires : goal.put-requires
put-requires c =
    let v = c.args in
    let l = length v.input.now in
    let y = c.first_share-drawn.new.out in
    let r : c.first_share-drawn.result ≡ v.d * l = c.first_share-drawn.ensures.0 in
    let h : c.first_share-drawn.result ≤ length v.tape.now = omega (arith, c.requires.0) in
    let n : length y ≡ l + v.d * l = c.first_share-drawn.auto.out ∙ c.requires.1 ∙ one_more v.d l in
    rw (length-part_first v.tape.now _ h, length-part_rest y l) (omega arith)

pub returns : goal.returns
returns c =
    let v = c.args in
    let xs = v.input.now in
    let ts = v.tape.now in
    let o = v.output.now in
    let y = c.first_share-drawn.new.out in
    let masked = xors xs (joined_string (parts v.d (length xs) ts)) in
    let r : c.first_share-drawn.result ≡ v.d * length xs = c.first_share-drawn.ensures.0 in
    let k : length masked ≡ length xs = length_masked v.d xs ts in
    let h : v.d * length xs ≤ length ts = c.requires.0 in
    let n : length o ≡ length xs + v.d * length xs = c.requires.1 ∙ one_more v.d (length xs) in
    let t : length (take (v.d * length xs) ts) ≡ v.d * length xs = length-take-le (v.d * length xs) ts h in
    let p = c.put.ensures
    ∙ ap (λ (x : List ℕ). front x (take (length y - length xs) (drop (length xs) y)))
    (part_first ts c.first_share-drawn.result ∙ ap (λ (m : ℕ). take m ts) r) in
    let a : length (masked ++ take (v.d * length xs) ts) ≡ length o = length-append masked (take (v.d * length xs) ts) ∙ omega arith in (
      r,
      front-part (length xs) _ _ o (take (v.d * length xs) ts) masked _ c.first_share-drawn.ensures.1 k (omega arith) p refl
          ∙ front-all (masked ++ take (v.d * length xs) ts) o a ∙ sym (laid-split v.d xs ts h),
    )
