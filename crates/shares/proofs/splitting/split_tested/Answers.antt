-- `shares::splitting::split_tested` meets its contract. Assumes nothing.
use mathlib.Core.Path.{refl, ap, sym, ◌∙◌}
use Prim.Native.Nat.{ℕ, ◌*◌, ◌≤◌}
use native.Mathlib.Nat.{mul-le-mul}
use native.Mathlib.Omega.{arith}
use borrow.Author.Tests.{eq-eqb, ne_eqb, lt-ltb}
use Rattle.std.specs.Prelude.{Err}
use Rattle.tape_words.specs.Words.{words_for}
use Rattle.outcomes.proofs.OutcomeLaws.{handed_up, answered_here, answered_next, answered-none, lt_reaches, le_reaches}
use Rattle.outcomes.proofs.LengthsLaws.{share_length_le, share_length-found, share_length-missing}
use Rattle.shares.proofs.CallsLaws.{split-answered}
use Rattle.shares.proofs.splitting.split_tested.Goals as goal

pub returns-in_err-l : goal.returns-in_err-l
returns-in_err-l c =
    let a = c.args in
    let m = share_length-missing 1 a.input _ _ _ _ c.share_length.ensures c.ok_or.ensures.value c.in_err-l.was in
    let r = handed_up _ _ c.from_residual.ensures.1 ∙ ap Err m.1 in
    split-answered _ 0 a.d a.input a.tape a.output _ (sym m.0) refl (r ∙ answered_here _ _ _ _ refl)

pub overflow_mul-shares : goal.overflow_mul-shares
overflow_mul-shares c =
    let a = c.args in
    let l = share_length-found 1 a.input _ _ _ _ c.share_length.ensures c.ok_or.ensures.value c.in_ok-l.was in
    let s : c.in_ok-l.l ≤ 32 = rw (← l.0) (share_length_le 1 a.input) in
    omega (arith, mul-le-mul c.shares.ensures.1 s)

pub returns-then-output-shares : goal.returns-then-output-shares
returns-then-output-shares c =
    let a = c.args in
    let l = share_length-found 1 a.input _ _ _ _ c.share_length.ensures c.ok_or.ensures.value c.in_ok-l.was in
    split-answered _ _ a.d a.input a.tape a.output _ (sym l.0) refl
    (answered_next _ _ _ _ (lt-ltb 0 c.in_ok-l.l l.1)
    (answered_here _ _ _ _ (ne_eqb _ _ (λ e. c.if-output-shares.true (e ∙ ap (λ (n : ℕ). n * c.in_ok-l.l) (sym c.shares.ensures.0))))))

pub overflow_mul-number : goal.overflow_mul-number
overflow_mul-number c =
    let a = c.args in
    let l = share_length-found 1 a.input _ _ _ _ c.share_length.ensures c.ok_or.ensures.value c.in_ok-l.was in
    let s : c.in_ok-l.l ≤ 32 = rw (← l.0) (share_length_le 1 a.input) in
    omega (arith, mul-le-mul c.number.ensures.1 s)

pub returns-then-tape-need : goal.returns-then-tape-need
returns-then-tape-need c =
    let a = c.args in
    let l = share_length-found 1 a.input _ _ _ _ c.share_length.ensures c.ok_or.ensures.value c.in_ok-l.was in
    let need = c.words_for-need.ensures ∙ ap (λ (n : ℕ). words_for (n * c.in_ok-l.l)) c.number.ensures.0 in
    split-answered _ _ a.d a.input a.tape a.output _ (sym l.0) need
    (answered_next _ _ _ _ (lt-ltb 0 c.in_ok-l.l l.1)
    (answered_next _ _ _ _ (eq-eqb _ _ (c.if-output-shares.false ∙ ap (λ (n : ℕ). n * c.in_ok-l.l) c.shares.ensures.0))
    (answered_here _ _ _ _ (lt_reaches _ _ c.if-tape-need.true))))

pub returns : goal.returns
returns c =
    let a = c.args in
    let l = share_length-found 1 a.input _ _ _ _ c.share_length.ensures c.ok_or.ensures.value c.in_ok-l.was in
    let need = c.words_for-need.ensures ∙ ap (λ (n : ℕ). words_for (n * c.in_ok-l.l)) c.number.ensures.0 in
    split-answered _ _ a.d a.input a.tape a.output _ (sym l.0) need
    (answered_next _ _ _ _ (lt-ltb 0 c.in_ok-l.l l.1)
    (answered_next _ _ _ _ (eq-eqb _ _ (c.if-output-shares.false ∙ ap (λ (n : ℕ). n * c.in_ok-l.l) c.shares.ensures.0))
    (answered_next _ _ _ _ (le_reaches _ _ c.if-tape-need.false) (answered-none _))))
