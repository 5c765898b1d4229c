-- `schedule::word::store_all` meets its contract. Assumes nothing.
use mathlib.Core.Path.{◌≡◌, refl, ◌∙◌}
use mathlib.Core.List.{◌++◌}
use Prim.Native.Nat.{suc, ◌+◌, ◌*◌, ◌-◌}
use native.Mathlib.Omega.{arith}
use lib.ListN.{take, drop}
use Rattle.xor.specs.Sums.{xors}
use Rattle.cipher.specs.Fips197.{word}
use Rattle.schedule.specs.Stored.{stored}
use Rattle.schedule.proofs.WordLaws.{stored-part}
use Rattle.schedule.proofs.WrittenLaws.{stored-length}
use borrow.Author.Rules.{rules}
use Rattle.schedule.proofs.word.store_all.Goals as goal

pub returns : goal.returns
returns c =
    let v = c.args in
    let t = v.t.now in
    c.each_share.ensures (stored v.nk v.i t) (record {
      made = λ j p q u h e.
          let b = j * 4 in
          let k : q.now ≡ take (4 * v.i) p.now ++ (xors (word p.now (v.i - v.nk)) (take (b + 4 - b) (drop b t)) ++ drop (4 * v.i + 4) p.now) =
          search rules in
          k ∙ stored-part v.nk v.i j b (b + 4 - b) t p.now refl (omega arith);
      keeps = λ j u s h. stored-length v.nk v.i (omega arith) (omega arith) (suc v.d) t (omega arith) j u s (omega arith) ∙ h;
    })
