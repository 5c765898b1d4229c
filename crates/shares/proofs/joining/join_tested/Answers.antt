-- `shares::joining::join_tested` meets its contract. Assumes nothing.
use mathlib.Core.Path.{refl, ap, sym, ◌∙◌}
use Prim.Native.Nat.{ℕ}
use borrow.Author.Tests.{eq-eqb, ne_eqb, lt-ltb}
use Rattle.outcomes.specs.Outcome.{share_length}
use Rattle.std.specs.Prelude.{Err}
use Rattle.outcomes.proofs.OutcomeLaws.{handed_up, answered_here, answered_next, answered-none}
use Rattle.outcomes.proofs.LengthsLaws.{share_length-found, share_length-missing}
use Rattle.shares.proofs.CallsLaws.{join_answered}
use Rattle.shares.proofs.joining.join_tested.Goals as goal

pub returns-in_err-l : goal.returns-in_err-l
returns-in_err-l c =
    let a = c.args in
    let m = share_length-missing c.shares.result a.input _ _ _ _ c.share_length.ensures c.ok_or.ensures.value c.in_err-l.was in
    let r = handed_up _ _ c.from_residual.ensures.1 ∙ ap Err m.1 in
    join_answered 0 a.d a.input a.output _ (sym m.0 ∙ ap (λ (n : ℕ). share_length n a.input) c.shares.ensures.0)
    (r ∙ answered_here _ _ _ _ refl)

pub returns-then-output-l : goal.returns-then-output-l
returns-then-output-l c =
    let a = c.args in
    let l = share_length-found c.shares.result a.input _ _ _ _ c.share_length.ensures c.ok_or.ensures.value c.in_ok-l.was in
    join_answered _ a.d a.input a.output _ (sym l.0 ∙ ap (λ (n : ℕ). share_length n a.input) c.shares.ensures.0)
    (answered_next _ _ _ _ (lt-ltb 0 c.in_ok-l.l l.1)
    (answered_here _ _ _ _ (ne_eqb _ _ c.if-output-l.true)))

pub returns : goal.returns
returns c =
    let a = c.args in
    let l = share_length-found c.shares.result a.input _ _ _ _ c.share_length.ensures c.ok_or.ensures.value c.in_ok-l.was in
    join_answered _ a.d a.input a.output _ (sym l.0 ∙ ap (λ (n : ℕ). share_length n a.input) c.shares.ensures.0)
    (answered_next _ _ _ _ (lt-ltb 0 c.in_ok-l.l l.1)
    (answered_next _ _ _ _ (eq-eqb _ _ c.if-output-l.false) (answered-none _)))
