-- `linear::steps::make_step` meets its contract. Assumes nothing.
use mathlib.Core.Path.{sym, ap, ◌∙◌}
use Rattle.linear.specs.declared.Step.{Step}
use Rattle.linear.specs.Steps.{stepped}
use Rattle.linear.proofs.steps.make_step.Goals as goal

pub returns-in-ShiftRows : goal.returns-in-ShiftRows
returns-in-ShiftRows c =
    let a = c.args in
    c.shift_rows.ensures ∙ sym (ap (λ (w : Step). stepped w a.which a.t.now) c.in-ShiftRows.is)

pub returns-in-MixColumns : goal.returns-in-MixColumns
returns-in-MixColumns c =
    let a = c.args in
    c.mix_columns.ensures ∙ sym (ap (λ (w : Step). stepped w a.which a.t.now) c.in-MixColumns.is)
