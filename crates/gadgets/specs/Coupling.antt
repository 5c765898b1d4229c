-- COUPLING: two computations that draw equally many numbers at random, as alike as if their tapes were paired off one to one so that the outcomes of
-- each pair agree in what is asked of them. A probe that sees only what agrees cannot tell the two apart.
-- The tool by which hiding composes: no document decides it. Assumes nothing: these are definitions.
use Rattle.std.specs.Prelude.{◌≡◌, List, ℕ, ◌^◌, length}
use Rattle.xor.specs.Lists.{Below}
use Rattle.isw.specs.Hiding.{sums}

-- a tape (the randomness) of n numbers of `width` bits; of bytes at width 8
pub record Tape (width n : ℕ) (ts : List ℕ) : Type 0 where
  pub long : length ts ≡ n
  pub small : Below (2 ^ width) ts

-- c and c', which draw n numbers, are coupled by R: any g of c's outcome and g' of that of c' that are equal wherever R holds of the two outcomes
-- have the same sum over all tapes. With g and g' a test that answers 1 or 0, equally many tapes pass it in both (the same distribution)
abbrev pub Coupled : {X : Type 0} (width n : ℕ) (R : X → X → Type 0) (c c' : List ℕ → X) → Type 0
Coupled {X} width n R c c' =
    (g g' : X → ℕ) → ((ts ts' : List ℕ) → Tape width n ts → Tape width n ts' → R (c ts) (c' ts') → g (c ts) ≡ g' (c' ts'))
    → sums (2 ^ width) n (λ ts. g (c ts)) ≡ sums (2 ^ width) n (λ ts. g' (c' ts))
