-- `cubes::cube::cube_on_words` meets its contract. Assumes nothing.
use mathlib.Core.Path.{ap, ◌∙◌}
use Prim.Native.Nat.{◌*◌}
use native.Mathlib.Omega.{arith}
use Rattle.gf256.specs.Field.{times, squared}
use Rattle.tape_words.specs.Words.{words_for}
use Rattle.tape_words.proofs.WordsLaws.{reach_words}
use Rattle.tape_words.proofs.FrontLaws.{unpack_fits, made_on_words}
use Rattle.gadgets.specs.Cube.{cube_need, cube_sheet}
use Rattle.gadgets.proofs.CubeLaws.{cube_sheet-surplus}
use Rattle.cubes.proofs.CubeParts.{cube_need-pairs}
use Rattle.cubes.proofs.cube.cube_on_words.Goals as goal

pub unpack-requires : goal.unpack-requires
unpack-requires c =
    let v = c.args in
    unpack_fits _ (cube_need v.d) 18 v.tape.now (ap (◌*◌ 2) c.pair_count.ensures.0 ∙ cube_need-pairs v.d)
    (reach_words _ v.tape.now c.requires.0.drawn) (omega (arith, c.pair_count.ensures, cube_need-pairs v.d))

pub cube_core-requires : goal.cube_core-requires
cube_core-requires c =
    let p = c.requires in
    (record { input = p.0.input; drawn = omega (arith, c.pair_count.ensures, cube_need-pairs c.args.d) }, p.1)

pub returns : goal.returns
returns c =
    let v = c.args in
    let made = made_on_words (cube_sheet times squared v.d v.x.now) _ (cube_sheet-surplus times squared v.d v.x.now) in (
      c.words_for.ensures ∙ ap words_for c.cube_core.ensures.0,
      made _ v.tape.now _ _ _ (ap (◌*◌ 2) c.pair_count.ensures.0 ∙ cube_need-pairs v.d)
          (reach_words _ v.tape.now c.requires.0.drawn) c.unpack.ensures c.cube_core.ensures.1,
    )
