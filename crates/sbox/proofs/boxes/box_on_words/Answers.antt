-- `sbox::boxes::box_on_words` meets its contract. Assumes nothing.
use mathlib.Core.Path.{ap, ◌∙◌}
use native.Mathlib.Omega.{arith}
use Rattle.gf256.specs.declared.Direction.TheVariants.{Forward}
use Rattle.tape_words.specs.Words.{words_for}
use Rattle.tape_words.proofs.WordsLaws.{reach_words}
use Rattle.tape_words.proofs.FrontLaws.{unpack_fits, made_on_words}
use Rattle.sbox.specs.Box.{box, box_need}
use Rattle.sbox.proofs.BoxLaws.{box_of-surplus}
use Rattle.sbox.proofs.boxes.box_on_words.Goals as goal

pub unpack-requires : goal.unpack-requires
unpack-requires c =
    let v = c.args in
    let fit = c.requires in
    unpack_fits _ (box_need v.d) 54 v.tape.now c.box_need.ensures.0 (reach_words _ v.tape.now fit.drawn) (omega (arith, c.box_need.ensures))

pub box_core-requires : goal.box_core-requires
box_core-requires c =
    let fit = c.requires in
    record { long = fit.long; drawn = omega (arith, c.box_need.ensures) }

pub returns : goal.returns
returns c =
    let v = c.args in
    let words = reach_words _ v.tape.now c.requires.drawn in
    let made = made_on_words (box v.d v.x.now) _ (box_of-surplus v.d Forward v.x.now) in (
      c.words_for.ensures ∙ ap words_for c.box_core.ensures.0,
      made _ v.tape.now _ _ _ c.box_need.ensures.0 words c.unpack.ensures c.box_core.ensures.1,
    )
