-- `substitution::boxes::sub_four` meets its contract. Assumes nothing.
use mathlib.Core.Path.{◌≡◌, sym, ap, ◌∙◌}
use Prim.Native.Nat.{ℕ, suc, ◌*◌}
use native.Mathlib.Omega.{arith}
use Rattle.tape_words.proofs.WordsLaws.{reach_words}
use Rattle.tape_words.proofs.FrontLaws.{unpack_fits, made_on_words}
use Rattle.shares.specs.Strings.{parts, laid}
use Rattle.sbox.specs.Box.{box_need}
use Rattle.cipher.specs.Cipher.{subs_of, subs_need}
use Rattle.cipher.proofs.SurplusLaws.{subs_of-surplus}
use Rattle.substitution.specs.Boxes.{spaced}
use Rattle.substitution.proofs.SubLaws.{spaced-need}
use Rattle.substitution.proofs.boxes.sub_four.Goals as goal

-- four S-boxes' bytes, as the code works them out
need_is : (d first stride n : ℕ) → n ≡ box_need d → 4 * n ≡ subs_need d (spaced first stride)
need_is d first stride n e = ap (◌*◌ 4) e ∙ sym (spaced-need d first stride)

pub unpack-requires : goal.unpack-requires
unpack-requires c =
    let a = c.args in
    let fit = c.requires in
    let need = need_is a.d a.first a.stride _ c.box_need.ensures.0 in
    let bound = c.box_need.ensures in
    unpack_fits _ _ 216 a.tape.now need (reach_words _ a.tape.now fit.drawn)
    (omega (arith, bound, spaced-need a.d a.first a.stride))

pub sub_spaced-requires : goal.sub_spaced-requires
sub_spaced-requires c =
    let a = c.args in
    let fit = c.requires in
    let bound = c.box_need.ensures in
    record {
      quarter = fit.quarter;
      place = fit.place;
      small = fit.small;
      long = fit.long;
      drawn = omega (arith, bound, spaced-need a.d a.first a.stride);
    }

pub returns : goal.returns
returns c =
    let a = c.args in
    let ks = spaced a.first a.stride in
    let ss = parts (suc a.d) a.l a.s.now in
    let need = need_is a.d a.first a.stride _ c.box_need.ensures.0 in
    let words = reach_words _ a.tape.now c.requires.drawn in
    let made = made_on_words (λ ts. laid (subs_of a.which a.d ks ss ts)) (subs_need a.d ks)
    (λ ts us h. ap laid (subs_of-surplus a.which a.d ks ss ts us h)) in (
      omega (arith, c.sub_spaced.ensures.0, spaced-need a.d a.first a.stride),
      made _ a.tape.now _ _ _ need words c.unpack.ensures c.sub_spaced.ensures.1,
    )
