-- `linear::steps::add_key` meets its contract. Assumes nothing.
use mathlib.Core.Path.{◌≡◌, refl, ap, ◌∙◌}
use Prim.Native.Nat.{suc, ◌+◌, ◌*◌, ◌-◌}
use native.Mathlib.Omega.{arith}
use lib.ListN.{take, drop}
use Rattle.xor.specs.Sums.{xors}
use Rattle.shares.specs.Strings.{laid}
use Rattle.buffers.proofs.SecondLaws.{with_key, with_key_length, with_key_part, with_key_all}
use borrow.Author.Rules.{rules}
use Rattle.linear.proofs.steps.add_key.Goals as goal

pub returns : goal.returns
returns c =
    let a = c.args in
    let ks = a.keys.now in
    c.each_share.ensures (with_key a.m a.r ks) (record {
      made = λ i p q u h e.
          let b = i * a.m + 16 * a.r in
          let k : q.now ≡ xors p.now (take (b + 16 - b) (drop b ks)) = search rules in
          k ∙ with_key_part a.m a.r i b (b + 16 - b) ks p.now (omega arith) refl (omega arith);
      keeps = λ i u s h. with_key_length a.m a.r ks i s h;
    })
    ∙ ap laid (with_key_all a.m a.r (suc a.d) ks a.s.now)
