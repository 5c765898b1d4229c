-- `gf256::Tables::new`: both tables hold what they should, by one test over each whole table. Assumes nothing.
use Rattle.xor.specs.Digit.{if_set}
use Rattle.xor.specs.Lists.{at}
use Rattle.gf256.specs.Field.{doubled, times_from, times}
use Rattle.gf256.proofs.TablesLaws.{step_right, one_right, logs_right, logs_tested, zeros, chain, antilogs_tested}
use Rattle.gf256.proofs.tables.Tables.new.Goals as goal

pub invariant_of-result-clause-logs_right : goal.invariant_of-result-clause-logs_right
unfolding logs_right one_right step_right at times times_from doubled if_set
invariant_of-result-clause-logs_right c = logs_tested _ tt

pub invariant_of-result-clause-antilogs_right : goal.invariant_of-result-clause-antilogs_right
unfolding chain zeros times times_from doubled if_set
invariant_of-result-clause-antilogs_right c = antilogs_tested _ tt
