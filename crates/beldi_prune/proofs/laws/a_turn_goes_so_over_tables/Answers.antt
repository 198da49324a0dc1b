use Rattle.beldi_prune.proofs.Tables.{tables_turned}
use Rattle.beldi_prune.proofs.laws.a_turn_goes_so_over_tables.Goals as goal

pub returns : goal.returns
returns c = tables_turned
