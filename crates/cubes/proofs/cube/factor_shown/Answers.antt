-- `cubes::cube::factor_shown` meets its contract. Assumes nothing.
use mathlib.Core.List.{List}
use mathlib.Core.Path.{ap, sym, ◌∙◌}
use Prim.Native.Nat.{ℕ}
use native.Mathlib.Omega.{arith}
use Rattle.xor.proofs.WriteLaws.{length-part_rest}
use Rattle.refresh.specs.Refresh.{refreshed}
use Rattle.gadgets.specs.Cube.{cube_factor}
use Rattle.cubes.proofs.CubeParts.{cube_need-parts, cube_count-parts, factor-written}
use Rattle.cubes.proofs.cube.factor_shown.Goals as goal

pub put-requires : goal.put-requires
put-requires c =
    omega (arith, c.requires.1, c.requires.2, cube_count-parts c.args.d)

pub slice_bounds-refresh_shown-count : goal.slice_bounds-refresh_shown-count
slice_bounds-refresh_shown-count c =
    omega (arith, c.requires.2, c.shares-n.ensures, cube_count-parts c.args.d)

pub slice_bounds-refresh_shown-start : goal.slice_bounds-refresh_shown-start
slice_bounds-refresh_shown-start c =
    omega (arith, c.requires.2, c.shares-n.ensures, cube_count-parts c.args.d)

pub refresh_shown-requires : goal.refresh_shown-requires
refresh_shown-requires c =
    let v = c.args in
    let p = c.requires in
    record {
      long = c.z-1.given ∙ p.1;
      drawn = omega (arith, p.0.drawn, cube_need-parts v.d);
      room = rw length-part_rest (omega (arith, p.2, c.shares-n.ensures, cube_count-parts v.d));
    }

pub returns : goal.returns
unfolding cube_factor
returns c =
    let v = c.args in
    let p = c.requires in
    let r = c.refresh_shown.ensures in
    let s = c.raise.ensures in (
      r.0,
      r.1 ∙ ap (λ (z : List ℕ). refreshed v.d z v.tape.now) s,
      factor-written v.d v.x.now v.tape.now _ _ _ _ v.out.now (p.0.input ∙ sym c.shares-n.ensures.0)
          (omega (arith, p.2, c.shares-n.ensures, cube_count-parts v.d)) s c.put.ensures r.2,
    )
