-- `shares::splitting::split_on_words` meets its contract. Assumes nothing.
use mathlib.Core.Path.{refl, sym, ap, ◌∙◌}
use Prim.Native.Nat.{ℕ, ◌*◌}
use native.Mathlib.Nat.{mul-le-mul}
use native.Mathlib.Omega.{arith}
use lib.ListN.{length}
use Rattle.tape_words.specs.Words.{words_for}
use Rattle.tape_words.proofs.FrontLaws.{unpack_fits, made_on_words}
use Rattle.shares.specs.Strings.{laid, split, split_need}
use Rattle.shares.proofs.StringsLaws.{split-surplus}
use Rattle.shares.proofs.splitting.split_on_words.Goals as goal

pub overflow_mul-number : goal.overflow_mul-number
overflow_mul-number c = omega (arith, mul-le-mul c.number.ensures.1 c.requires.short)

pub unpack-requires : goal.unpack-requires
unpack-requires c =
    let m = mul-le-mul c.number.ensures.1 c.requires.short in
    unpack_fits _ _ 64 c.args.tape.now refl (rw c.number.ensures.0 c.requires.drawn) m

pub split_core-requires : goal.split_core-requires
split_core-requires c =
    let m = mul-le-mul c.number.ensures.1 c.requires.short in
    (rw (← c.number.ensures.0) (omega arith), c.requires.long)

pub returns : goal.returns
unfolding split_need
returns c =
    let a = c.args in
    let x = a.input.now in
    let n = ap (λ (k : ℕ). k * length x) c.number.ensures.0 in
    let made = made_on_words (λ ts. laid (split a.d x ts)) _ (λ ts us h. ap laid (split-surplus a.d x ts us h)) in (
      c.words_for.ensures ∙ ap words_for c.split_core.ensures.0,
      made _ a.tape.now _ _ _ n c.requires.drawn c.unpack.ensures c.split_core.ensures.1,
    )
