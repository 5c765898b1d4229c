-- `linear::steps::step_all` meets its contract. Assumes nothing.
use mathlib.Core.Path.{ap, ◌∙◌}
use Rattle.shares.specs.Strings.{laid}
use Rattle.buffers.proofs.ShareLaws.{each_by-map}
use Rattle.linear.specs.Steps.{stepped}
use Rattle.linear.proofs.StepLaws.{stepped-length}
use borrow.Author.Rules.{rules}
use Rattle.linear.proofs.steps.step_all.Goals as goal

pub returns : goal.returns
returns c =
    let step = stepped c.args.step c.args.which in
    c.each_share.ensures (λ _. step) (record {
      made = λ i p q u h e. search rules;
      keeps = λ i u s h. stepped-length c.args.step c.args.which s;
    })
    ∙ ap laid (each_by-map step 0 _)
