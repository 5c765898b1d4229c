-- `schedule::word::rcon` meets its contract. Assumes nothing.
use mathlib.Core.Path.{refl, ◌∙◌}
use Prim.Native.Nat.{◌-◌}
use borrow.Author.Rules.{rules}
use Rattle.std.proofs.lemmas.Iterator.{YieldsList-from_range}
use Rattle.std.proofs.lemmas.Iterator.Consumers.{fold_from_yields_List}
use Rattle.gf256.specs.Field.{doubled}
use Rattle.schedule.proofs.WordLaws.{doubled_each}
use Rattle.schedule.proofs.word.rcon.Goals as goal

pub returns : goal.returns
returns c =
    let j = c.args.j in
    fold_from_yields_List _ (λ a x. doubled a) 1 _ c.fold.ensures.ran (YieldsList-from_range 1 j (j - 1) refl refl) (λ a x b q k. search rules)
    ∙ doubled_each 1 (j - 1)
