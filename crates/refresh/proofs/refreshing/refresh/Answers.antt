-- `refresh::refreshing::refresh` meets its contract. Assumes nothing.
use mathlib.Core.List.{List}
use mathlib.Core.Path.{ap, sym, ◌∙◌}
use Prim.Native.Nat.{ℕ}
use native.Mathlib.Nat.{one-mul}
use native.Mathlib.Omega.{arith}
use Rattle.outcomes.specs.Outcome.{took}
use Rattle.outcomes.proofs.OutcomeLaws.{settled-handed, settled-done}
use Rattle.tape_words.specs.Words.{bytes_of}
use Rattle.shares.proofs.CallsLaws.{input-answered, input_through}
use Rattle.xor.proofs.WriteLaws.{front-all}
use Rattle.refresh.specs.Calls.{refresh_outcome}
use Rattle.refresh.specs.Refresh.{refreshed}
use Rattle.refresh.proofs.RefreshLaws.{refresh_need-pairs}
use Rattle.refresh.proofs.refreshing.refresh.Goals as goal

pub returns-in_err-byte_answer : goal.returns-in_err-byte_answer
unfolding refresh_outcome
returns-in_err-byte_answer c =
    let e = input-answered _ _ _ _ _ _ _ (one-mul _ ∙ sym (refresh_need-pairs c.args.order)) c.byte_answer.ensures in
    settled-handed _ _ _ _ _ e _ c.in_err-byte_answer.was _ c.from_residual.ensures.1

pub new-d-requires : goal.new-d-requires
new-d-requires c =
    let e = input-answered _ _ _ _ _ _ _ (one-mul _ ∙ sym (refresh_need-pairs c.args.order)) c.byte_answer.ensures in
    (input_through _ _ _ _ _ _ _ _ e c.in_ok-byte_answer.was).order

pub put-requires : goal.put-requires
put-requires c =
    let e = input-answered _ _ _ _ _ _ _ (one-mul _ ∙ sym (refresh_need-pairs c.args.order)) c.byte_answer.ensures in
    let h = input_through _ _ _ _ _ _ _ _ e c.in_ok-byte_answer.was in
    omega (arith, h.input, h.output)

pub refresh_on_words-requires : goal.refresh_on_words-requires
refresh_on_words-requires c =
    let e = input-answered _ _ _ _ _ _ _ (one-mul _ ∙ sym (refresh_need-pairs c.args.order)) c.byte_answer.ensures in
    let h = input_through _ _ _ _ _ _ _ _ e c.in_ok-byte_answer.was in
    let l = c.put.auto.out in
    rw c.new-d.ensures (omega (arith, h.output, l), h.drawn)

pub returns : goal.returns
unfolding refresh_outcome
returns c =
    let v = c.args in
    let e = input-answered _ _ _ _ _ _ _ (one-mul _ ∙ sym (refresh_need-pairs v.order)) c.byte_answer.ensures in
    let h = input_through _ _ _ _ _ _ _ _ e c.in_ok-byte_answer.was in
    let m = c.put.ensures ∙ front-all v.input.now v.output.now (h.input ∙ sym h.output) in
    let p = rw c.new-d.ensures at c.refresh_on_words.ensures in
    settled-done _ _ _ _ _ e _ _ _ c.in_ok-byte_answer.was (ap took p.0)
    (p.1 ∙ ap (λ (x : List ℕ). refreshed v.order x (bytes_of v.tape.now)) m)
