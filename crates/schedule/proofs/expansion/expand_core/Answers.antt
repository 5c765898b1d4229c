-- `schedule::expansion::expand_core` meets its contract. Assumes nothing.
use mathlib.Core.Path.{refl, ◌∙◌}
use Prim.Native.Nat.{◌+◌, ◌*◌}
use native.Mathlib.Omega.{arith}
use Rattle.tape_words.specs.Words.{bytes_of}
use Rattle.schedule.proofs.KeyLaws.{long_is, need_is, expanded_is}
use borrow.Author.Rules.{rules}
use Rattle.schedule.proofs.expansion.expand_core.Goals as goal

pub copy_key-requires : goal.copy_key-requires
copy_key-requires c =
    let v = c.args in
    let fit = c.requires in
    (omega arith, fit.long, long_is v.nk v.d _ fit.keyed)

pub expand-requires : goal.expand-requires
expand-requires c =
    let v = c.args in
    let fit = c.requires in
    record {
      some = fit.some;
      past = omega arith;
      small = omega arith;
      keyed = omega (arith, long_is v.nk v.d _ fit.keyed);
      drawn = omega (arith, need_is v.nk v.d, fit.drawn);
    }

pub returns : goal.returns
returns c =
    let v = c.args in
    let q = c.expand.ensures in
    let long = long_is v.nk v.d _ c.requires.keyed in
    let total = 4 * (v.nk + 7) in
    let ts = bytes_of v.tape.now in
    let made = expanded_is v.nk v.d total v.key.now ts _ _ refl (omega (arith, long)) c.copy_key.ensures q.1 in
    (q.0 ∙ need_is v.nk v.d, made)
