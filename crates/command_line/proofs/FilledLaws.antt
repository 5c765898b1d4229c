-- What is read of an argument is all of it, or nothing. Assumes nothing.
use mathlib.Core.Path.{◌≡◌, refl, sym, ap, subst, ◌∙◌}
use mathlib.Core.List.{List, ◌++◌}
use Prim.Native.Nat.{ℕ, ◌*◌, ◌-◌, ◌/◌, ◌%◌, ◌≤◌}
use native.Mathlib.Nat.{div-add-mod'}
use native.Mathlib.Omega.{arith}
use lib.ListN.{length, take, drop}
use lib.Seq.{length-take-le}
use Rattle.std.specs.Prelude.{Result, Err}
use Rattle.xor.specs.Writes.{front}
use Rattle.xor.proofs.WriteLaws.{length_front, length-part_first}
use Rattle.command_line.specs.Filled.{Whole, Filled}

pub all_whole : (size each room : ℕ) → size % each ≡ 0 → size / each ≤ room → Whole size each room (size / each)
all_whole size each room even fits = record { fits = fits; all = omega (arith, div-add-mod' size each) }

-- the part that is filled has as many entries as are wanted
pub part-size : (size each : ℕ) (o : List ℕ) (count : ℕ) → Whole size each (length o) count → size ≡ length (take (count - 0) (drop 0 o)) * each
part-size size each o count whole = rw (length-part_first o count whole.fits) whole.all

-- the front part was filled
pub put-filled : (made : ℕ → List ℕ) (size each count : ℕ) (o q : List ℕ) → ((n : ℕ) → length (made n) ≡ n) → Whole size each (length o) count
    → q ≡ made (length (take count o)) → Whole size each (length (q ++ drop count o)) count × (q ++ drop count o ≡ front (made count) o)
unfolding front
put-filled made size each count o q lengths whole e =
    let w : q ++ drop count o ≡ front (made count) o = rw (e, length-take-le count o whole.fits, lengths) refl in
    let n : length (front (made count) o) ≡ length o = length_front (made count) o (rw lengths whole.fits) in
    (subst (λ (r : ℕ). Whole size each r count) (sym (ap length w ∙ n)) whole, w)

-- nothing was
pub none_filled : {E : Type 0} (made : ℕ → List ℕ) (size each : ℕ) (o : List ℕ) (got : Result ℕ E) (e : E)
    → got ≡ Err e → Filled made size each o o got
none_filled made size each o got e bad = subst (λ (r : Result ℕ _). Filled made size each o o r) (sym bad) refl
