-- `shares::answers::input_tested` meets its contract. Assumes nothing.
use mathlib.Core.Path.{sym, ap, ◌∙◌}
use Prim.Native.Nat.{ℕ, ◌*◌}
use native.Mathlib.Nat.{mul-le-mul}
use native.Mathlib.Omega.{arith}
use borrow.Author.Tests.{eq-eqb, ne_eqb}
use Rattle.std.specs.Prelude.{Ok}
use Rattle.outcomes.specs.Outcome.{took}
use Rattle.tape_words.specs.Words.{words_for}
use Rattle.outcomes.proofs.OutcomeLaws.{answered_here, answered_next, answered-none, lt_reaches, le_reaches}
use Rattle.shares.proofs.answers.input_tested.Goals as goal

pub returns-then-input-shares : goal.returns-then-input-shares
returns-then-input-shares c = answered_here _ _ _ _ (ne_eqb _ _ (λ e. c.if-input-shares.true (e ∙ sym c.shares.ensures.0)))

pub returns-then-output-room : goal.returns-then-output-room
returns-then-output-room c =
    answered_next _ _ _ _ (eq-eqb _ _ (c.if-input-shares.false ∙ c.shares.ensures.0))
    (answered_here _ _ _ _ (ne_eqb _ _ c.if-output-room.true))

pub overflow_mul-each : goal.overflow_mul-each
overflow_mul-each c = let m = mul-le-mul c.requires c.pair_count.ensures.1 in omega arith

pub returns-then-tape-need : goal.returns-then-tape-need
returns-then-tape-need c =
    let n = c.words_for-need.ensures ∙ ap (λ (k : ℕ). words_for (c.args.each * k)) c.pair_count.ensures.0 in
    answered_next _ _ _ _ (eq-eqb _ _ (c.if-input-shares.false ∙ c.shares.ensures.0))
    (answered_next _ _ _ _ (eq-eqb _ _ c.if-output-room.false)
    (answered_here _ _ _ _ (lt_reaches _ _ (rw n at c.if-tape-need.true))))

pub returns : goal.returns
returns c =
    let n = c.words_for-need.ensures ∙ ap (λ (k : ℕ). words_for (c.args.each * k)) c.pair_count.ensures.0 in
    ap (λ (k : ℕ). Ok (took k)) n
    ∙ answered_next _ _ _ _ (eq-eqb _ _ (c.if-input-shares.false ∙ c.shares.ensures.0))
    (answered_next _ _ _ _ (eq-eqb _ _ c.if-output-room.false)
    (answered_next _ _ _ _ (le_reaches _ _ (rw n at c.if-tape-need.false)) (answered-none _)))
