-- `schedule::expansion::copy_key` meets its contract. Assumes nothing.
use mathlib.Core.Path.{◌≡◌, ap, ◌∙◌}
use Prim.Native.Nat.{ℕ, suc, ◌+◌, ◌*◌, ◌-◌}
use native.Mathlib.Omega.{arith}
use lib.ListN.{take, drop}
use Rattle.xor.specs.Writes.{front}
use Rattle.schedule.proofs.KeyLaws.{with_share, with_share_length, key_copied}
use borrow.Author.Rules.{rules}
use Rattle.schedule.proofs.expansion.copy_key.Goals as goal

pub returns : goal.returns
returns c =
    let v = c.args in
    let key = v.key.now in
    key_copied v.d v.l v.m key v.keys.now _ (omega arith) (omega arith) (omega arith)
    (c.each_share.ensures (with_share v.l key) (record {
      made = λ i p q u h e.
          let a = i * v.l in
          let k : q.now ≡ front (take (a + v.l - a) (drop a key)) p.now = search rules in
          let z : a + v.l - a ≡ v.l = omega arith in
          k ∙ ap (λ (x : ℕ). front (take x (drop a key)) p.now) z;
      keeps = with_share_length v.l v.m (suc v.d) key (omega arith) (omega arith);
    }))
