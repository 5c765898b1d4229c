-- `call_listing::call::print` meets its contract. Assumes nothing.
use Rattle.std.proofs.Common.{arith}
use Rattle.lengths.proofs.LengthsLaws.{size_bounds, even-sized}
use Rattle.call_listing.proofs.WalkLaws.{call_count_parts}
use Rattle.call_listing.proofs.TotalLaws.{call_count_bound}
use Rattle.call_listing.proofs.call.print.Goals as goal

pub inputs-requires : goal.inputs-requires
inputs-requires c =
    let size = size_bounds (even-sized _ c.args.key.sized) in
    let small = call_count_bound c.args.w (even-sized _ c.args.key.sized) c.args.d (omega arith) in
    (omega arith, omega (arith, call_count_parts))

pub words-requires : goal.words-requires
words-requires c =
    let size = size_bounds (even-sized _ c.args.key.sized) in
    let small = call_count_bound c.args.w (even-sized _ c.args.key.sized) c.args.d (omega arith) in
    (omega arith, omega arith, omega (arith, call_count_parts))

pub with_keys-requires : goal.with_keys-requires
with_keys-requires c =
    let size = size_bounds (even-sized _ c.args.key.sized) in
    let small = call_count_bound c.args.w (even-sized _ c.args.key.sized) c.args.d (omega arith) in
    (omega arith, omega (arith, call_count_parts))
