-- `sheets::sheet::sheet_rows` meets its contract. Assumes nothing.
use mathlib.Core.Path.{◌≡◌, refl, ap, sym, ◌∙◌}
use mathlib.Core.List.{List}
use Prim.Native.Nat.{ℕ, suc, ◌+◌, ◌-◌, ◌<◌}
use native.Mathlib.Omega.{arith}
use lib.ListN.{drop}
use Rattle.xor.specs.Lists.{runs}
use Rattle.xor.specs.Pairs.{before_row}
use Rattle.xor.specs.Writes.{front}
use Rattle.xor.proofs.WriteLaws.{part_rest}
use Rattle.masking.proofs.TermsLaws.{product_need_last, row_counts, row_fits, row_room}
use Rattle.masking.proofs.SumsLaws.{length-starts}
use Rattle.sheet_parts.proofs.PartsLaws.{gathered_start, gathered_row, gathered_all}
use Rattle.sheet_parts.proofs.SheetParts.{few-drawn, pairs-written, pairs_last}
use borrow.Author.Rules.{rules}
use Rattle.sheets.proofs.sheet.sheet_rows.Goals as goal

pub loop-i-init : goal.loop-i-init
unfolding front before_row runs
loop-i-init c =
    let v = c.args in
    let s = c.shares-n.ensures in
    let e = c.start_sums.ensures in (
      search rules,
      refl,
      search rules,
      refl,
      refl,
      length-starts _ _ _ _ e ∙ s.0,
      search rules,
      gathered_start v.d v.a.now v.b.now v.tape.now _ v.table.now (omega arith) c.requires.1.tabled _ _ s.0 e
          c.put_starts.ensures,
    )

pub sheet_row-drawn-requires : goal.sheet_row-drawn-requires
sheet_row-drawn-requires c =
    let l = c.loop-i in
    let v = c.args in
    let p = c.requires in
    let s = c.number-last.ensures in
    let h : l.i < v.d = omega arith in
    let a = v.a.now in
    let b = v.b.now in
    let ts = v.tape.now in
    let r = row_fits v.d l.i l.drawn h l.invariant.1 (omega arith) a b ts l.sums p.0 l.invariant.5 in
    let o = row_room v.d l.i l.drawn h l.invariant.1 v.out.now l.out p.2 l.invariant.4 in
    rw s.0 (r, l.invariant.6, o.1)

pub overflow_add-drawn : goal.overflow_add-drawn
overflow_add-drawn c =
    let l = c.loop-i in
    let s = c.number-last.ensures in
    let r = row_counts c.args.d l.i l.drawn (omega arith) l.invariant.1 in
    let few = few-drawn c.args.d (omega arith) in
    omega (arith, c.sheet_row-drawn.ensures.0)

pub overflow_step-i : goal.overflow_step-i
overflow_step-i c =
    omega (arith, c.loop-i-test.true, c.number-last.ensures)

pub loop-i-preserved : goal.loop-i-preserved
loop-i-preserved c =
    let l = c.loop-i in
    let v = c.args in
    let s = c.number-last.ensures in
    let t = rw s.0 at c.sheet_row-drawn.ensures in
    let w = v.d - l.i in
    let ts = v.tape.now in
    let h : l.i < v.d = omega arith in
    let r = row_counts v.d l.i l.drawn h l.invariant.1 in
    let o = row_room v.d l.i l.drawn h l.invariant.1 v.out.now l.out c.requires.2 l.invariant.4 in
    let f = part_rest ts l.drawn ∙ ap (λ (k : ℕ). drop k ts) l.invariant.1 in (
      omega arith,
      ap (◌+◌ l.drawn) t.0 ∙ r.1,
      r.2,
      pairs-written (suc v.d) v.a.now v.b.now ts l.i l.drawn w l.out _ v.out.now
          l.invariant.1 r.3 o.0 l.invariant.3 t.1,
      omega arith,
      omega arith,
      omega arith,
      gathered_row v.d v.a.now v.b.now ts l.sums l.table (omega arith) l.invariant.6 l.i w _ _ _ r.3 f
          l.invariant.5 t.2 t.3 l.invariant.7,
    )

pub shape_of-sums : goal.shape_of-sums
shape_of-sums c =
    c.loop-i.invariant.5 ∙ sym c.requires.1.summed

pub shape_of-table : goal.shape_of-table
shape_of-table c =
    c.loop-i.invariant.6 ∙ sym c.requires.1.tabled

pub returns : goal.returns
returns c =
    let l = c.loop-i in
    let v = c.args in
    let d = v.d in
    let s = c.number-last.ensures.0 in
    let e : l.i ≡ d = omega arith in
    let z : l.drawn ≡ before_row (suc d) d = rw e at l.invariant.1 in
    let a = v.a.now in
    let b = v.b.now in
    let ts = v.tape.now in (
      z ∙ sym (product_need_last d),
      (rw e at l.invariant.3) ∙ ap (λ (o : List ℕ). front o v.out.now) (pairs_last d a b ts),
      gathered_all d a b ts l.sums l.table (rw e at l.invariant.7),
    )
