-- `refresh_sheets::rows::refresh_shown` meets its contract. Assumes nothing.
use mathlib.Core.Path.{◌≡◌, refl, ap, sym, ◌∙◌}
use mathlib.Core.List.{List}
use Prim.Native.Nat.{ℕ, suc, ◌+◌, ◌*◌, ◌<◌}
use native.Mathlib.Omega.{arith}
use lib.ListN.{drop}
use Rattle.xor.specs.Pairs.{before_row}
use Rattle.xor.specs.Writes.{front}
use Rattle.xor.proofs.PairsLaws.{pair_count_last, row_counts}
use Rattle.xor.proofs.WriteLaws.{part_rest, length-part_rest}
use Rattle.refresh.proofs.RefreshLaws.{refresh_need-pairs, rows_none, rows_next, rows_all}
use Rattle.refresh_sheets.proofs.RowsLaws.{rows-sheet-none, rows_written, rows-sheet-all}
use borrow.Author.Rules.{rules}
use Rattle.refresh_sheets.proofs.rows.refresh_shown.Goals as goal

pub loop-i-init : goal.loop-i-init
unfolding before_row
loop-i-init c = record { drawn = refl; needed = search rules; rows = rows_none _ _ _; shown = rows-sheet-none _ _ _ _ }

pub sheet_row-drawn-requires : goal.sheet_row-drawn-requires
sheet_row-drawn-requires c =
    let l = c.loop-i in
    let v = c.args in
    let p = c.requires in
    let s = c.number-last.ensures in
    let r = row_counts v.d l.i l.drawn (omega arith) l.invariant.drawn in
    let n = refresh_need-pairs v.d in
    let e = length-part_rest v.tape.now l.drawn in
    let f = length-part_rest l.out (3 * l.drawn) in
    record {
      some = omega arith;
      few = omega arith;
      drawn = rw e (omega (arith, p.drawn));
      behind = omega (arith, p.long);
      room = rw f (omega (arith, p.room));
    }

pub overflow_add-drawn : goal.overflow_add-drawn
overflow_add-drawn c =
    let l = c.loop-i in
    let d = c.args.d in
    let s = c.number-last.ensures in
    let r = row_counts d l.i l.drawn (omega arith) l.invariant.drawn in
    omega (arith, c.sheet_row-drawn.ensures.0, c.requires.drawn, refresh_need-pairs d)

pub loop-i-preserved : goal.loop-i-preserved
loop-i-preserved c =
    let l = c.loop-i in
    let v = c.args in
    let p = c.requires in
    let ts = v.tape.now in
    let xs = v.x.now in
    let s = c.number-last.ensures.0 in
    let t = rw s at c.sheet_row-drawn.ensures in
    let h : l.i < v.d = omega arith in
    let n = refresh_need-pairs v.d in
    let r = row_counts v.d l.i l.drawn h l.invariant.drawn in
    let f = part_rest ts l.drawn ∙ ap (λ (k : ℕ). drop k ts) l.invariant.drawn in
    record {
      drawn = ap (◌+◌ l.drawn) t.0 ∙ r.1;
      needed = omega (arith, r.2, n);
      rows = rows_next v.d l.i l.x _ _ xs ts h (omega (arith, p.long)) f l.invariant.rows t.1;
      shown = rows_written v.d l.i l.drawn l.x l.out _ v.out.now xs ts h l.invariant.drawn (omega (arith, r, p.room, n))
          l.invariant.rows l.invariant.shown t.2;
    }

pub returns : goal.returns
returns c =
    let l = c.loop-i in
    let v = c.args in
    let d = v.d in
    let s = c.number-last.ensures.0 in
    let e : l.i ≡ d = omega arith in
    let z : l.drawn ≡ before_row (suc d) d = rw e at l.invariant.drawn in (
      z ∙ sym (pair_count_last d) ∙ sym (refresh_need-pairs d),
      (rw e at l.invariant.rows) ∙ rows_all d _ _,
      (rw e at l.invariant.shown) ∙ ap (λ (o : List ℕ). front o v.out.now) (rows-sheet-all d _ _),
    )
