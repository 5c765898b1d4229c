-- `schedule::word::fetch` meets its contract. Assumes nothing.
use mathlib.Core.Path.{◌≡◌, refl, ap, ◌∙◌}
use Prim.Native.Nat.{suc, ◌+◌, ◌*◌, ◌-◌}
use native.Mathlib.Omega.{arith}
use lib.ListN.{take, drop}
use Rattle.xor.specs.Writes.{front}
use Rattle.shares.specs.Strings.{laid}
use Rattle.cipher.specs.Fips197.{word}
use Rattle.schedule.proofs.WordLaws.{word_copied}
use Rattle.buffers.proofs.SecondLaws.{word-all, word-long}
use borrow.Author.Rules.{rules}
use Rattle.schedule.proofs.word.fetch.Goals as goal

pub returns : goal.returns
returns c =
    let v = c.args in
    let n = suc v.d in
    let ks = v.keys.now in
    c.each_share.ensures (λ i p. word (take v.m (drop (i * v.m) ks)) v.w) (record {
      made = λ i p q u h e.
          let b = i * v.m + 4 * v.w in
          let k : q.now ≡ front (take (b + 4 - b) (drop b ks)) p.now = search rules in
          word_copied v.m v.w i n b (b + 4 - b) ks p.now q.now (omega arith) u (omega arith) refl (omega arith) h k;
      keeps = λ i u s h. word-long v.m v.w i n ks (omega arith) u (omega arith);
    })
    ∙ ap laid (word-all v.m v.w n ks v.t.now)
