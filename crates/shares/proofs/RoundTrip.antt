-- Join after split is the identity: of the definitions, and of the outcomes that the contracts of `split` and `join` name. Assumes nothing.
use mathlib.Core.Path.{◌≡◌, subst, sym, ap, ap₂, ◌∙◌}
use mathlib.Core.List.{List}
use Prim.Native.Nat.{ℕ, suc, ◌*◌, ◌≤◌}
use native.Mathlib.Nat.{one-mul}
use native.Mathlib.Omega.{arith}
use lib.ListN.{length}
use borrow.Author.Tests.{eq-eqb, lt-ltb}
use Rattle.outcomes.specs.declared.Count.{Count}
use Rattle.outcomes.specs.Outcome.{done, took, share_length}
use Rattle.tape_words.specs.Words.{bytes_of}
use Rattle.tape_words.proofs.WordsLaws.{words_reach}
use Rattle.shares.specs.Strings.{joined_string, laid, parts, split, split_need}
use Rattle.shares.specs.Calls.{split_outcome, join_outcome}
use Rattle.outcomes.proofs.OutcomeLaws.{all, ◌and◌, first_passed, settled-taken, settled-passed}
use Rattle.outcomes.proofs.LengthsLaws.{share_length_is, share_length-laid}
use Rattle.shares.proofs.CallsLaws.{split-passed}
use Rattle.shares.proofs.StringsLaws.{parts-laid, laid-length, shared-split, split_joins}

-- laid out, cut again and joined
pub split-laid_joins : (d : ℕ) (xs ts : List ℕ) → split_need d (length xs) ≤ length ts
    → joined_string (parts (suc d) (length xs) (laid (split d xs ts))) ≡ xs
split-laid_joins d xs ts h = ap joined_string (parts-laid (shared-split d xs ts h)) ∙ split_joins d xs ts

-- whatever `split` puts out, `join` at the same order makes the string of it again
pub split_then_join : (d : ℕ) (k : Count) (xs ts o shares p : List ℕ) → split_outcome d xs ts o ≡ done k shares → length p ≡ length xs
    → join_outcome d shares p ≡ done (took 0) xs
unfolding split_outcome join_outcome
split_then_join d k xs ts o shares p e h =
    let l = share_length 1 (length xs) in
    let us = bytes_of ts in
    let g = settled-taken _ _ o (laid (split d xs us)) k shares e in
    let f = split-passed d (length xs) (length ts) (length o) g.0 in
    let whole : length xs ≡ l = share_length_is 1 (length xs) f.input ∙ one-mul l in
    let enough : split_need d (length xs) ≤ length us = subst (λ (m : ℕ). split_need d m ≤ length us) (sym whole) (words_reach _ ts f.drawn) in
    let long : length shares ≡ suc d * l = ap length g.2 ∙ laid-length (shared-split d xs us enough) ∙ ap (λ (m : ℕ). suc d * m) whole in
    let again : share_length (suc d) (length shares) ≡ l =
    ap (share_length (suc d)) long ∙ share_length-laid (suc d) 1 (length xs) (omega arith) f.input in
    let back : joined_string (parts (suc d) (share_length (suc d) (length shares)) shares) ≡ xs =
    ap₂ (λ (m : ℕ) (s : List ℕ). joined_string (parts (suc d) m s)) (again ∙ sym whole) g.2 ∙ split-laid_joins d xs us enough in
    let some : 1 ≤ share_length (suc d) (length shares) = rw again f.input in
    settled-passed (took 0) p _ (first_passed g.0 and lt-ltb 0 _ some and eq-eqb (length p) _ (h ∙ whole ∙ sym again) and all)
    ∙ ap (done (took 0)) back
