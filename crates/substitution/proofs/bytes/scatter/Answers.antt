-- `substitution::bytes::scatter` meets its contract. Assumes nothing.
use mathlib.Core.Path.{ap, ◌∙◌}
use Prim.Native.Nat.{suc}
use native.Mathlib.Omega.{arith}
use lib.ListN.{get_or, set, length-set}
use Rattle.shares.specs.Strings.{laid}
use Rattle.buffers.proofs.PartLaws.{put_each}
use borrow.Author.Rules.{rules}
use Rattle.substitution.proofs.bytes.scatter.Goals as goal

pub returns : goal.returns
returns c =
    let a = c.args in
    c.each_share.ensures (λ i p. set p a.k (get_or a.x.now i 0)) (record {
      made = λ i p q u h e. search rules;
      keeps = λ i u p h. length-set p a.k (get_or a.x.now i 0) ∙ h;
    })
    ∙ ap laid (put_each a.k a.l (suc a.d) 0 a.x.now a.s.now (omega arith))
