-- `gf256::Tables::raised` meets its contract: the tables' rule for powers, which holds at every byte. Assumes nothing.
use Rattle.std.proofs.Common.{◌≡◌, ℕ, ◌+◌, ◌*◌, ◌/◌, ◌%◌, ◌<◌, ◌≤◌, List, get_or, sym, subst, arith, w64, Fits}
use Rattle.xor.specs.Lists.{at}
use Rattle.gf256.specs.Exponents.{raised_to, half_of}
use Rattle.gf256.specs.Tables.{Tables, lent}
use Rattle.gf256.specs.declared.Exponent.{Exponent}
use Rattle.gf256.proofs.TablesLaws.{log_le}
use Rattle.gf256.proofs.PowersLaws.{folded, log_multiple_le, folded_le, table_power}
use Rattle.gf256.proofs.tables.Tables.raised.Goals as goal

-- the entries as the code reads them, and what it makes of them
module _ {ls es : List ℕ} (tables : Tables ls es) where
  log-small : (a : ℕ) → a < 256 → get_or ls a 0 ≤ 510
  unfolding at
  log-small a h = log_le tables a h

  module _ (which : Exponent) (a : ℕ) (h : a < 256) {m : ℕ} (e : m ≡ half_of which) where
    multiple-small : get_or ls a 0 * m ≤ 4080
    unfolding at
    multiple-small = subst (λ (n : ℕ). at ls a * n ≤ 4080) (sym e) (log_multiple_le tables which a h)

    folded-small : get_or ls a 0 * m % 256 + get_or ls a 0 * m / 256 ≤ 255
    unfolding at folded
    folded-small = subst (λ (n : ℕ). folded (at ls a * n) ≤ 255) (sym e) (folded_le tables which a h)

    power-right : get_or es (2 * (get_or ls a 0 * m % 256 + get_or ls a 0 * m / 256)) 0 ≡ raised_to which a
    unfolding at folded
    power-right = subst (λ (n : ℕ). at es (2 * folded (at ls a * n)) ≡ raised_to which a) (sym e) (table_power tables which a h)

fitting : (k : ℕ) → k ≤ 4080 → Fits w64 k
fitting k h = record { fits = omega arith }

pub overflow_cast-t-2 : goal.overflow_cast-t-2
overflow_cast-t-2 c =
    let l = log-small (lent c.args.self.now.logs_right c.args.self.now.antilogs_right) c.args.a c.ranges.a.fits in
    fitting _ (omega arith)

pub overflow_mul-t : goal.overflow_mul-t
overflow_mul-t c =
    fitting _ (multiple-small (lent c.args.self.now.logs_right c.args.self.now.antilogs_right) c.args.which c.args.a c.ranges.a.fits c.half-m.ensures)

pub overflow_add-result : goal.overflow_add-result
overflow_add-result c =
    let f = folded-small (lent c.args.self.now.logs_right c.args.self.now.antilogs_right) c.args.which c.args.a c.ranges.a.fits c.half-m.ensures in
    fitting _ (omega arith)

pub overflow_mul-result : goal.overflow_mul-result
overflow_mul-result c =
    let f = folded-small (lent c.args.self.now.logs_right c.args.self.now.antilogs_right) c.args.which c.args.a c.ranges.a.fits c.half-m.ensures in
    fitting _ (omega arith)

pub bounds-self-t : goal.bounds-self-t
bounds-self-t c =
    let f = folded-small (lent c.args.self.now.logs_right c.args.self.now.antilogs_right) c.args.which c.args.a c.ranges.a.fits c.half-m.ensures in
    omega arith

pub returns : goal.returns
returns c =
    power-right (lent c.args.self.now.logs_right c.args.self.now.antilogs_right) c.args.which c.args.a c.ranges.a.fits c.half-m.ensures
