-- `power254::powers::last_stage` meets its contract. Assumes nothing.
use native.Mathlib.Omega.{arith}
use Rattle.power254.proofs.StageLaws.{last_after}
use borrow.Author.Rules.{rules}
use Rattle.power254.proofs.powers.last_stage.Goals as goal

pub product_core-first-requires : goal.product_core-first-requires
product_core-first-requires c =
    (record { left = search rules; right = search rules; drawn = search rules }, search rules)

pub product_core-requires : goal.product_core-requires
product_core-requires c =
    (record { left = search rules; right = search rules; drawn = search rules }, search rules)

pub overflow_add-second : goal.overflow_add-second
overflow_add-second c =
    omega (arith, c)

pub product_core-requires-2 : goal.product_core-requires-2
product_core-requires-2 c =
    let fits = c.requires in (
      record {
        left = omega (arith, c);
        right = fits.long_z;
        drawn = omega arith;
      },
      omega arith,
    )

pub overflow_add-result : goal.overflow_add-result
overflow_add-result c =
    omega (arith, c)

pub returns : goal.returns
returns c =
    let p = c.product_core-first.ensures in
    let q = c.product_core.ensures in
    let r = c.product_core-2.ensures in (
      omega (arith, p.0, q.0, r.0),
      last_after _ _ _ _ _ _ _ _ _ _ _ p.1 p.0 c.raise.ensures q.1 q.0 r.1,
    )
