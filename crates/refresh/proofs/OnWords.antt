-- On the same bytes, a refresh is as on a tape of bytes (document 02, wish 6). Assumes nothing.
use mathlib.Core.List.{List}
use Prim.Native.Nat.{ℕ}
use lib.ListN.{length}
use Rattle.tape_words.specs.Words.{words_for}
use Rattle.shares.specs.Calls.{byte_tests}
use Rattle.shares.specs.OnWords.{AsOnBytes}
use Rattle.shares.proofs.CallsLaws.{input-passed}
use Rattle.shares.proofs.OnWordsLaws.{input_longer, on_words}
use Rattle.refresh.specs.Refresh.{refreshed, refresh_need}
use Rattle.refresh.specs.Calls.{refresh_outcome}
use Rattle.refresh.proofs.RefreshLaws.{refresh_surplus}

pub refresh_words : (d : ℕ) (xs o : List ℕ) → AsOnBytes (refresh_need d) (refreshed d xs) (λ ws. refresh_outcome d xs ws o)
unfolding refresh_outcome
refresh_words d xs o =
    on_words (λ t. byte_tests (words_for (refresh_need d)) d (length xs) t (length o)) (refresh_need d) o (refreshed d xs)
    (λ t p. (input-passed _ _ d (length xs) t (length o) p).drawn) (input_longer _ _ d (length xs) (length o)) (λ t p. refresh_surplus d xs)
