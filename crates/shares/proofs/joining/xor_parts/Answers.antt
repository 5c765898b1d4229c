-- `shares::joining::xor_parts` meets its contract. Assumes nothing.
use mathlib.Core.Path.{◌≡◌, refl, sym, ◌∙◌}
use native.Mathlib.Nat.{zero-mul, suc-mul}
use native.Mathlib.Numerals.{add-one}
use native.Mathlib.Omega.{arith}
use lib.ListN.{length, length-take, length-drop}
use Rattle.xor.proofs.StringLaws.{xors_nil_r}
use Rattle.shares.specs.Strings.{joined_string, parts}
use Rattle.shares.proofs.StringsLaws.{part-fits, parts_more}
use borrow.Author.Rules.{rules}
use Rattle.shares.proofs.joining.xor_parts.Goals as goal

pub loop-i-init : goal.loop-i-init
unfolding joined_string parts
loop-i-init c = (search rules, refl, sym (zero-mul _), sym (xors_nil_r _), refl)

pub overflow_add-e : goal.overflow_add-e
overflow_add-e c =
    let f = part-fits c.loop-i.i c.args.d (length c.args.x.now) _ (omega arith) c.requires in omega arith

pub slice_bounds-xor_into-count : goal.slice_bounds-xor_into-count
slice_bounds-xor_into-count c =
    let f = part-fits c.loop-i.i c.args.d (length c.args.x.now) _ (omega arith) c.requires in omega arith

pub slice_bounds-xor_into-start : goal.slice_bounds-xor_into-start
slice_bounds-xor_into-start c =
    let f = part-fits c.loop-i.i c.args.d (length c.args.x.now) _ (omega arith) c.requires in omega arith

pub slice_bounds-xor_into-end : goal.slice_bounds-xor_into-end
slice_bounds-xor_into-end c =
    let f = part-fits c.loop-i.i c.args.d (length c.args.x.now) _ (omega arith) c.requires in omega arith

pub xor_into-requires : goal.xor_into-requires
xor_into-requires c =
    let f = part-fits c.loop-i.i c.args.d (length c.args.x.now) _ (omega arith) c.requires in
    simp (length-take, length-drop) (omega arith)

pub loop-i-preserved : goal.loop-i-preserved
loop-i-preserved c =
    let l = c.loop-i in
    let f = suc-mul l.i (length c.args.x.now) in (
      omega arith,
      search rules,
      rw add-one (omega arith),
      parts_more _ _ l.at _ _ _ _ _ l.invariant.3 l.invariant.2 refl c.xor_into.ensures,
      c.xor_into.auto.x ∙ l.invariant.4,
    )

pub returns : goal.returns
returns c =
    let e : c.loop-i.i ≡ c.args.d = omega arith in
    (rw e at c.loop-i.invariant.2, rw e at c.loop-i.invariant.3)
