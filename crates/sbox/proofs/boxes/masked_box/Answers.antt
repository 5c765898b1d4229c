-- `sbox::boxes::masked_box` meets its contract. Assumes nothing.
use mathlib.Core.Path.{ap, sym, ◌∙◌}
use mathlib.Core.List.{List}
use Prim.Native.Nat.{ℕ}
use native.Mathlib.Omega.{arith}
use Rattle.outcomes.specs.Outcome.{took}
use Rattle.outcomes.proofs.OutcomeLaws.{settled-handed, settled-done}
use Rattle.shares.proofs.CallsLaws.{input-answered, input_through}
use Rattle.xor.proofs.WriteLaws.{front-all}
use Rattle.tape_words.specs.Words.{bytes_of}
use Rattle.tape_words.proofs.WordsLaws.{words_reach}
use Rattle.power254.proofs.PowerLaws.{power_need-pairs}
use Rattle.sbox.specs.Box.{box}
use Rattle.sbox.specs.Calls.{box_outcome}
use Rattle.sbox.proofs.boxes.masked_box.Goals as goal

pub returns-in_err-byte_answer : goal.returns-in_err-byte_answer
unfolding box_outcome
returns-in_err-byte_answer c =
    let e = input-answered _ _ _ _ _ _ _ (sym (power_need-pairs c.args.order)) c.byte_answer.ensures in
    settled-handed _ _ _ _ _ e _ c.in_err-byte_answer.was _ c.from_residual.ensures.1

pub new-d-requires : goal.new-d-requires
new-d-requires c =
    let e = input-answered _ _ _ _ _ _ _ (sym (power_need-pairs c.args.order)) c.byte_answer.ensures in
    (input_through _ _ _ _ _ _ _ _ e c.in_ok-byte_answer.was).order

pub put-requires : goal.put-requires
put-requires c =
    let e = input-answered _ _ _ _ _ _ _ (sym (power_need-pairs c.args.order)) c.byte_answer.ensures in
    let h = input_through _ _ _ _ _ _ _ _ e c.in_ok-byte_answer.was in
    omega (arith, h.input, h.output)

pub box_on_words-requires : goal.box_on_words-requires
box_on_words-requires c =
    let e = input-answered _ _ _ _ _ _ _ (sym (power_need-pairs c.args.order)) c.byte_answer.ensures in
    let h = input_through _ _ _ _ _ _ _ _ e c.in_ok-byte_answer.was in
    let l = c.put.auto.out in
    rw c.new-d.ensures (record { long = omega (arith, h.output, l); drawn = words_reach _ c.args.tape.now h.drawn })

pub returns : goal.returns
unfolding box_outcome
returns c =
    let v = c.args in
    let e = input-answered _ _ _ _ _ _ _ (sym (power_need-pairs v.order)) c.byte_answer.ensures in
    let h = input_through _ _ _ _ _ _ _ _ e c.in_ok-byte_answer.was in
    let m = c.put.ensures ∙ front-all v.input.now v.output.now (h.input ∙ sym h.output) in
    let p = rw c.new-d.ensures at c.box_on_words.ensures in
    settled-done _ _ _ _ _ e _ _ _ c.in_ok-byte_answer.was (ap took p.0)
    (p.1 ∙ ap (λ (x : List ℕ). box v.order x (bytes_of v.tape.now)) m)
