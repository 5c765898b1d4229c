-- How many entries a text gives. Assumes nothing.
use mathlib.Core.Path.{◌≡◌}
use mathlib.Core.List.{List}
use Prim.Native.Nat.{ℕ}
use lib.ListN.{length}
use Rattle.xor.proofs.ListsLaws.{length-tab}
use Rattle.text.specs.Hexadecimal.{bytes, words}
use Rattle.text.specs.Packing.{packed}

pub length-bytes : (text : List ℕ) (n : ℕ) → length (bytes text n) ≡ n
unfolding bytes
length-bytes t n = length-tab _ n

pub length-words : (text : List ℕ) (n : ℕ) → length (words text n) ≡ n
unfolding words
length-words t n = length-tab _ n

pub length-packed : (bs : List ℕ) (n : ℕ) → length (packed bs n) ≡ n
unfolding packed
length-packed bs n = length-tab _ n
