-- `refresh::refreshing::refresh_core` meets its contract. Assumes nothing.
use mathlib.Core.Path.{◌≡◌, refl, ap, sym, ◌∙◌}
use Prim.Native.Nat.{ℕ, suc, ◌+◌, ◌<◌}
use native.Mathlib.Omega.{arith}
use lib.ListN.{drop}
use Rattle.xor.specs.Pairs.{before_row}
use Rattle.xor.proofs.PairsLaws.{pair_count_last, row_counts}
use Rattle.xor.proofs.WriteLaws.{part_rest, length-part_rest}
use Rattle.refresh.proofs.RefreshLaws.{refresh_need-pairs, rows_none, rows_next, rows_all}
use borrow.Author.Rules.{rules}
use Rattle.refresh.proofs.refreshing.refresh_core.Goals as goal

pub loop-i-init : goal.loop-i-init
unfolding before_row
loop-i-init c = record { drawn = refl; needed = search rules; rows = rows_none _ _ _ }

pub refresh_row-drawn-requires : goal.refresh_row-drawn-requires
refresh_row-drawn-requires c =
    let l = c.loop-i in
    let d = c.args.d in
    let s = c.number-last.ensures in
    let r = row_counts d l.i l.drawn (omega arith) l.invariant.drawn in
    let n = refresh_need-pairs d in
    let e = length-part_rest c.args.tape.now l.drawn in
    record {
      some = omega arith;
      few = omega arith;
      drawn = rw e (omega (arith, c.requires));
      backs = rw e (omega (arith, c.requires));
      owns = omega arith;
      summed = omega (arith, c.requires);
    }

pub overflow_add-drawn : goal.overflow_add-drawn
overflow_add-drawn c =
    let l = c.loop-i in
    let d = c.args.d in
    let s = c.number-last.ensures in
    let r = row_counts d l.i l.drawn (omega arith) l.invariant.drawn in
    omega (arith, c.refresh_row-drawn.ensures.0, c.requires.1, refresh_need-pairs d)

pub loop-i-preserved : goal.loop-i-preserved
loop-i-preserved c =
    let l = c.loop-i in
    let v = c.args in
    let ts = v.tape.now in
    let t = c.refresh_row-drawn.ensures in
    let e = c.number-last.ensures.0 in
    let h : l.i < v.d = omega arith in
    let r = row_counts v.d l.i l.drawn h l.invariant.drawn in
    let f = part_rest ts l.drawn ∙ ap (λ (k : ℕ). drop k ts) l.invariant.drawn in
    record {
      drawn = ap (◌+◌ l.drawn) (t.0 ∙ (omega arith)) ∙ r.1;
      needed = omega (arith, r.2, refresh_need-pairs v.d);
      rows = rows_next v.d l.i l.x _ _ v.x.now ts h c.requires.0 f l.invariant.rows (rw e at t.2);
    }

pub returns : goal.returns
returns c =
    let l = c.loop-i in
    let d = c.args.d in
    let s = c.number-last.ensures.0 in
    let e : l.i ≡ d = omega arith in
    let z : l.drawn ≡ before_row (suc d) d = rw e at l.invariant.drawn in
    (z ∙ sym (pair_count_last d) ∙ sym (refresh_need-pairs d), (rw e at l.invariant.rows) ∙ rows_all d _ _)
