-- Of `masked_box`, by the outcome that its contract names: a call on the shares and the tape of a choice is carried through, and the shares that it
-- puts out stand among the places that the hiding rule counts. Assumes nothing.
use mathlib.Core.Path.{◌≡◌, sym, ap, ◌∙◌}
use mathlib.Core.Bool.{true}
use mathlib.Core.List.{List}
use Prim.Native.Nat.{ℕ, suc, ◌+◌, ◌*◌, ◌≤◌}
use lib.ListN.{length}
use borrow.Author.Tests.{eq-eqb}
use Rattle.xor.specs.Lists.{at, tab}
use Rattle.xor.proofs.ListsLaws.{tab-at, tab_cong}
use Rattle.gf256.specs.declared.Direction.TheVariants.{Forward}
use Rattle.isw.specs.Hiding.{factor}
use Rattle.outcomes.specs.Outcome.{done, took, served}
use Rattle.outcomes.proofs.OutcomeLaws.{all, ◌and◌, settled-passed, le_reaches}
use Rattle.tape_words.specs.Words.{bytes_of, words_for}
use Rattle.sbox.specs.Box.{box, box_need}
use Rattle.sbox.specs.Calls.{box_outcome}
use Rattle.probing.specs.BoxPlaces.{power_count}
use Rattle.probing.specs.Runs.{box_run}
use Rattle.probing.proofs.BoxStrong.{box-strong}
use Rattle.probing.proofs.ShownLaws.{box-shown}

-- share i of the S-box stands at the last of the four places of share i in the affine map
pub box_of_choice : (d x : ℕ) (ms ws o : List ℕ) → served d ≡ true → length ms ≡ d → words_for (box_need d) ≤ length ws → length o ≡ suc d
    → box_outcome d (factor x ms) ws o
    ≡ done (took (words_for (box_need d)))
    (tab (λ i. at ((box_run Forward d).sheet x ms (bytes_of ws)) (power_count d + (i * 4 + 3))) (suc d))
unfolding box_outcome factor
box_of_choice d x ms ws o order long enough room =
    let xs = factor x ms in
    let ts = bytes_of ws in
    let n : length xs ≡ suc d = ap suc long in
    let out : length (box d xs ts) ≡ suc d = (box-strong d Forward).out_length xs ts n in
    settled-passed _ o _ (order and eq-eqb _ _ n and eq-eqb _ _ room and le_reaches (length ws) (words_for (box_need d)) enough and all)
    ∙ ap (done (took (words_for (box_need d))))
    (sym (tab-at (box d xs ts)) ∙ ap (tab (at (box d xs ts))) out ∙ tab_cong _ _ (suc d) (λ i l. sym (box-shown d xs ts i n l)))
