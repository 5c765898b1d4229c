-- `shares::splitting::split` meets its contract. Assumes nothing.
use mathlib.Core.Path.{◌≡◌, ap, sym, ◌∙◌, subst}
use Prim.Native.Nat.{ℕ, suc, ◌*◌, ◌≤◌}
use native.Mathlib.Nat.{one-mul}
use lib.ListN.{length}
use Rattle.outcomes.specs.Outcome.{took, share_length}
use Rattle.tape_words.specs.Words.{words_for}
use Rattle.shares.specs.Strings.{split_need}
use Rattle.shares.specs.Calls.{split_outcome}
use Rattle.outcomes.proofs.OutcomeLaws.{settled-handed, settled-done}
use Rattle.outcomes.proofs.LengthsLaws.{share_length_is, share_length_le}
use Rattle.shares.proofs.CallsLaws.{split_through}
use Rattle.shares.proofs.splitting.split.Goals as goal

pub returns-in_err-split_answer : goal.returns-in_err-split_answer
unfolding split_outcome
returns-in_err-split_answer c =
    settled-handed _ _ _ _ _ c.split_answer.ensures _ c.in_err-split_answer.was _ c.from_residual.ensures.1

pub new-d-requires : goal.new-d-requires
new-d-requires c = (split_through _ _ _ _ _ _ _ c.split_answer.ensures c.in_ok-split_answer.was).order

pub split_on_words-requires : goal.split_on_words-requires
unfolding split_need
split_on_words-requires c =
    let v = c.args in
    let x = length v.input.now in
    let h = split_through v.order x (length v.tape.now) (length v.output.now) _ _ _ c.split_answer.ensures c.in_ok-split_answer.was in
    let l : share_length 1 x ≡ x = sym (share_length_is 1 x h.input ∙ one-mul _) in
    rw c.new-d.ensures (record {
      short = subst (λ (n : ℕ). n ≤ 32) l (share_length_le 1 x);
      long = h.output ∙ ap (λ (n : ℕ). suc v.order * n) l;
      drawn = rw l at h.drawn;
    })

pub returns : goal.returns
unfolding split_outcome split_need
returns c =
    let v = c.args in
    let x = length v.input.now in
    let h = split_through v.order x (length v.tape.now) (length v.output.now) _ _ _ c.split_answer.ensures c.in_ok-split_answer.was in
    let l : x ≡ share_length 1 x = share_length_is 1 x h.input ∙ one-mul _ in
    let m = rw c.new-d.ensures at c.split_on_words.ensures in
    settled-done _ _ _ _ _ c.split_answer.ensures _ _ _ c.in_ok-split_answer.was
    (ap took (m.0 ∙ ap (λ (n : ℕ). words_for (v.order * n)) l)) m.1
