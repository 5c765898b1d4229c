-- A buffer that was written in order to its end. Assumes nothing.
use mathlib.Core.Path.{◌≡◌, sym, ap, ◌∙◌}
use mathlib.Core.List.{List}
use Prim.Native.Nat.{ℕ}
use lib.ListN.{length}
use Rattle.xor.specs.Lists.{tab}
use Rattle.xor.proofs.WriteLaws.{over, over_all}

-- all entries are written
pub filled : (f : ℕ → ℕ) (k : ℕ) (y o : List ℕ) → y ≡ over f k o → k ≡ length o → y ≡ tab f (length o)
filled f k y o e h = over_all f k y o e (sym h) ∙ ap (tab f) h
