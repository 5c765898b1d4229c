-- `dokkumel_c::status::returned` meets its contract. Assumes nothing.
use mathlib.Core.Path.{sym, ap, ◌∙◌}
use Prim.Native.Nat.{ℕ}
use Rattle.outcomes.specs.Outcome.{Answer}
use Rattle.outcomes.specs.Outcome.{outcome}
use Rattle.dokkumel_c.specs.Returned.{gives, returned}
use Rattle.dokkumel_c.proofs.status.returned.Goals as goal

pub returns-in-Ok : goal.returns-in-Ok
returns-in-Ok c = λ q. sym (ap (λ (a : Answer). returned (outcome a q) c.args.taken.now) c.in-Ok.is)

pub returns-in-Err : goal.returns-in-Err
returns-in-Err c =
    λ q. ap (λ (n : ℕ). gives n c.args.taken.now q) c.number.ensures
    ∙ sym (ap (λ (a : Answer). returned (outcome a q) c.args.taken.now) c.in-Err.is)
