-- `byte_maps::affine_map::by_rows` meets its contract. The loop's invariant: what is gathered, with what the rows to go will add, is the linear part.
-- Assumes nothing.
use Rattle.std.proofs.Common.{◌≡◌, drop}
use Rattle.std.specs.Int.Bits.{bit_xor}
use Rattle.gf256.specs.Field.{rows_from, linear_by}
use Rattle.byte_maps.proofs.affine_map.by_rows.Given as goal

abbrev pub invariant-loop-i : goal.invariant-loop-i
invariant-loop-i l = bit_xor l.r (rows_from (drop l.i l.rows) l.i l.a) ≡ linear_by l.rows l.a
