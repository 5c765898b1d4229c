-- `masking::product::take_pairs` meets its contract. Assumes nothing.
use mathlib.Core.Path.{◌≡◌, refl, ap, sym, ◌∙◌}
use Prim.Native.Nat.{ℕ, suc, ◌+◌, ◌-◌}
use native.Mathlib.Omega.{arith}
use lib.ListN.{drop}
use Rattle.xor.specs.Pairs.{before_row}
use Rattle.xor.proofs.WriteLaws.{part_rest}
use Rattle.masking.proofs.TermsLaws.{product_need_last, row_counts, row_fits}
use Rattle.masking.proofs.SumsLaws.{length-starts, sums_start, row_taken-sums, sums-all}
use borrow.Author.Rules.{rules}
use Rattle.masking.proofs.product.take_pairs.Goals as goal

pub loop-i-init : goal.loop-i-init
unfolding before_row
loop-i-init c =
    (search rules, refl, search rules, length-starts _ _ _ _ c.requires.1, sums_start _ _ _ _ _ c.requires.1)

pub product_row-drawn-requires : goal.product_row-drawn-requires
product_row-drawn-requires c =
    let l = c.loop-i in
    let v = c.args in
    let p = c.requires in
    let a = v.a.now in
    let b = v.b.now in
    let ts = v.tape.now in
    let e = c.number-last.ensures in
    rw e.0 (row_fits v.d l.i l.drawn (omega arith) l.invariant.1 (omega arith) a b ts l.sums p.0 l.invariant.3)

pub overflow_add-drawn : goal.overflow_add-drawn
overflow_add-drawn c =
    let l = c.loop-i in
    let e = c.number-last.ensures in
    let r = row_counts c.args.d l.i l.drawn (omega arith) l.invariant.1 in
    omega (arith, c.product_row-drawn.ensures.0)

pub loop-i-preserved : goal.loop-i-preserved
loop-i-preserved c =
    let l = c.loop-i in
    let v = c.args in
    let e = c.number-last.ensures.0 in
    let t = rw e at c.product_row-drawn.ensures in
    let ts = v.tape.now in
    let r = row_counts v.d l.i l.drawn (omega arith) l.invariant.1 in
    let f = part_rest ts l.drawn ∙ ap (λ (k : ℕ). drop k ts) l.invariant.1 in (
      omega arith,
      ap (◌+◌ l.drawn) t.0 ∙ r.1,
      r.2,
      omega arith,
      rw t.1 (row_taken-sums (suc v.d) v.a.now v.b.now ts l.i (v.d - l.i) _ l.sums r.3 f (omega arith) l.invariant.4),
    )

pub shape_of-sums : goal.shape_of-sums
shape_of-sums c = c.loop-i.invariant.3 ∙ sym (length-starts _ _ _ _ c.requires.1)

pub returns : goal.returns
returns c =
    let l = c.loop-i in
    let d = c.args.d in
    let s = c.number-last.ensures.0 in
    let e : l.i ≡ d = omega arith in
    let z : l.drawn ≡ before_row (suc d) d = rw e at l.invariant.1 in
    (z ∙ sym (product_need_last d), sums-all d _ _ _ _ l.invariant.3 (rw e at l.invariant.4))
