-- `shares::splitting::first_share` meets its contract. Assumes nothing.
use mathlib.Core.Path.{refl, ap, ◌∙◌}
use mathlib.Core.List.{List}
use Prim.Native.Nat.{ℕ, ◌*◌}
use lib.ListN.{length}
use Rattle.xor.specs.Sums.{xors}
use Rattle.xor.specs.Writes.{front}
use Rattle.shares.specs.Strings.{joined_string, parts}
use Rattle.shares.proofs.StringsLaws.{length_masked}
use Rattle.xor.proofs.WriteLaws.{front_first, front-taken}
use Rattle.shares.proofs.splitting.first_share.Goals as goal

pub xor_parts-requires : goal.xor_parts-requires
xor_parts-requires c =
    let v = c.args in
    rw (c.number.ensures.0, front-taken (length v.input.now) _ _ _ c.put.ensures refl) c.requires.0

pub returns : goal.returns
returns c =
    let v = c.args in
    let xs = v.input.now in
    let t = front-taken (length xs) _ _ xs c.put.ensures refl in
    let m = (rw c.number.ensures.0 at c.xor_parts.ensures.1) ∙ ap (λ (x : List ℕ). xors x (joined_string (parts v.d (length x) v.tape.now))) t in (
      (rw c.number.ensures.0 at c.xor_parts.ensures.0) ∙ ap (λ (x : List ℕ). v.d * length x) t,
      front_first (length xs) _ _ _ xs c.put.ensures refl (ap length m ∙ length_masked v.d xs v.tape.now)
          ∙ ap (λ (x : List ℕ). front x v.out.now) m,
    )
