-- `gf256::Tables::times` meets its contract: the tables' rule, which holds at every entry. Assumes nothing.
use Rattle.std.proofs.Common.{◌≡◌, ℕ, ◌+◌, ◌<◌, List, get_or, arith, w64, Fits}
use Rattle.xor.specs.Lists.{at}
use Rattle.gf256.specs.Field.{times}
use Rattle.gf256.specs.Tables.{Tables, lent}
use Rattle.gf256.proofs.TablesLaws.{log_le, table_product}
use Rattle.gf256.proofs.tables.Tables.times.Goals as goal

-- the entries as the code reads them
module _ {ls es : List ℕ} (tables : Tables ls es) where
  log-small : (a : ℕ) → a < 256 → get_or ls a 0 < 1021
  unfolding at
  log-small a h = omega (arith, log_le tables a h)

  index-small : (a b : ℕ) → a < 256 → b < 256 → get_or ls a 0 + get_or ls b 0 < 1021
  unfolding at
  index-small a b ha hb = omega (arith, log_le tables a ha, log_le tables b hb)

  product-right : (a b : ℕ) → a < 256 → b < 256 → get_or es (get_or ls a 0 + get_or ls b 0) 0 ≡ times a b
  unfolding at
  product-right = table_product tables

fitting : (k : ℕ) → k < 1021 → Fits w64 k
fitting k h = record { fits = omega arith }

pub overflow_cast-i-2 : goal.overflow_cast-i-2
overflow_cast-i-2 c =
    fitting _ (log-small (lent c.args.self.now.logs_right c.args.self.now.antilogs_right) c.args.a c.ranges.a.fits)

pub overflow_cast-j-2 : goal.overflow_cast-j-2
overflow_cast-j-2 c =
    fitting _ (log-small (lent c.args.self.now.logs_right c.args.self.now.antilogs_right) c.args.b c.ranges.b.fits)

pub overflow_add-result : goal.overflow_add-result
overflow_add-result c =
    fitting _ (index-small (lent c.args.self.now.logs_right c.args.self.now.antilogs_right) c.args.a c.args.b c.ranges.a.fits c.ranges.b.fits)

pub bounds-self-i : goal.bounds-self-i
bounds-self-i c =
    index-small (lent c.args.self.now.logs_right c.args.self.now.antilogs_right) c.args.a c.args.b c.ranges.a.fits c.ranges.b.fits

pub returns : goal.returns
returns c =
    product-right (lent c.args.self.now.logs_right c.args.self.now.antilogs_right) c.args.a c.args.b c.ranges.a.fits c.ranges.b.fits
