-- `shares::joining::join` meets its contract. Assumes nothing.
use mathlib.Core.Path.{refl, ap, sym, ◌∙◌}
use Prim.Native.Nat.{ℕ, suc, ◌*◌}
use lib.ListN.{length}
use Rattle.shares.specs.Strings.{joined_string, parts}
use Rattle.shares.specs.Calls.{join_outcome}
use Rattle.outcomes.proofs.OutcomeLaws.{settled-handed, settled-done}
use Rattle.outcomes.proofs.LengthsLaws.{share_length_is}
use Rattle.shares.proofs.CallsLaws.{join_through}
use Rattle.shares.proofs.joining.join.Goals as goal

pub returns-in_err-join_answer : goal.returns-in_err-join_answer
unfolding join_outcome
returns-in_err-join_answer c =
    settled-handed _ _ _ _ _ c.join_answer.ensures _ c.in_err-join_answer.was _ c.from_residual.ensures.1

pub new-d-requires : goal.new-d-requires
new-d-requires c = (join_through _ _ _ _ _ _ c.join_answer.ensures c.in_ok-join_answer.was).order

pub join_core-requires : goal.join_core-requires
join_core-requires c =
    let v = c.args in
    let x = length v.input.now in
    let h = join_through v.order x (length v.output.now) _ _ _ c.join_answer.ensures c.in_ok-join_answer.was in
    rw c.new-d.ensures (refl, share_length_is (suc v.order) x h.input ∙ ap (λ (n : ℕ). suc v.order * n) (sym h.output))

pub returns : goal.returns
unfolding join_outcome
returns c =
    let v = c.args in
    let x = length v.input.now in
    let h = join_through v.order x (length v.output.now) _ _ _ c.join_answer.ensures c.in_ok-join_answer.was in
    let m = rw c.new-d.ensures at c.join_core.ensures in
    settled-done _ _ _ _ _ c.join_answer.ensures _ _ _ c.in_ok-join_answer.was refl
    (m ∙ ap (λ (l : ℕ). joined_string (parts (suc v.order) l v.input.now)) h.output)
