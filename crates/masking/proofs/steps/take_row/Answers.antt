-- `masking::steps::take_row` meets its contract. Assumes nothing.
use native.Mathlib.Omega.{arith}
use Rattle.masking.proofs.TermsLaws.{backs-right}
use Rattle.masking.proofs.SumsLaws.{row_taken-backs}
use Rattle.masking.proofs.steps.take_row.Goals as goal

pub back_row-requires : goal.back_row-requires
back_row-requires c =
    let p = c.requires in
    let f = p.0 in
    let r = p.1 in
    record {
      few = f.few;
      left = f.left;
      right = f.right;
      reads = omega (arith, r.halves);
      multiplies = r.lowers;
      takes = r.backs;
    }

pub sum_row-requires : goal.sum_row-requires
sum_row-requires c =
    let p = c.requires in
    let f = p.0 in
    record {
      some = f.some;
      few = f.few;
      drawn = f.drawn;
      backs = omega (arith, p.1.backs);
      owns = p.2;
      summed = f.summed;
    }

pub returns : goal.returns
returns c =
    let v = c.args in
    let a = v.a.now in
    let b = v.b.now in
    let ts = v.tape.now in
    let h = c.half_row-drawn.ensures in
    let k = c.back_row.ensures in
    let s = c.sum_row.ensures in
    let r = backs-right a b ts v.i v.w _ _ _ v.back.now h.2 k.1 in
    (h.0, h.1, h.2, k.0, r, s.1, row_taken-backs a b ts v.i v.w v.sums.now _ _ v.back.now r s.2)
