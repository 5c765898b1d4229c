-- `byte_maps::columns::unmix` meets its contract. Assumes nothing.
use mathlib.Core.Path.{sym, ap, ◌∙◌}
use native.Mathlib.Omega.{arith}
use Rattle.gf256.specs.Field.{doubled}
use Rattle.byte_maps.proofs.ColumnLaws.{inverse_mixed-made}
use Rattle.byte_maps.proofs.columns.unmix.Goals as goal

pub returns : goal.returns
returns c =
    let v = c.args in
    let eu = c.double-u.ensures ∙ ap doubled c.double.ensures in
    let ev = c.double-v.ensures ∙ ap doubled c.double-2.ensures in
    c.mix.ensures ∙ sym (inverse_mixed-made v.a v.b v.c v.d _ _ (omega arith) (omega arith) eu ev)
