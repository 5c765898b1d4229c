-- On the same bytes, an S-box is as it was on a tape of bytes (document 02, wish 6). Assumes nothing.
use mathlib.Core.List.{List}
use Prim.Native.Nat.{ℕ}
use lib.ListN.{length}
use Rattle.gf256.specs.declared.Direction.TheVariants.{Forward}
use Rattle.tape_words.specs.Words.{words_for}
use Rattle.shares.specs.Calls.{byte_tests}
use Rattle.shares.specs.OnWords.{AsOnBytes}
use Rattle.shares.proofs.CallsLaws.{input-passed}
use Rattle.shares.proofs.OnWordsLaws.{input_longer, on_words}
use Rattle.sbox.specs.Box.{box, box_need}
use Rattle.sbox.specs.Calls.{box_outcome}
use Rattle.sbox.proofs.BoxLaws.{box_of-surplus}

pub box-words : (d : ℕ) (xs o : List ℕ) → AsOnBytes (box_need d) (box d xs) (λ ws. box_outcome d xs ws o)
unfolding box_outcome
box-words d xs o =
    on_words (λ t. byte_tests (words_for (box_need d)) d (length xs) t (length o)) (box_need d) o (box d xs)
    (λ t p. (input-passed _ _ d (length xs) t (length o) p).drawn) (input_longer _ _ d (length xs) (length o)) (λ t p. box_of-surplus d Forward xs)
