use Rattle.std.proofs.Common.{rules}
use Rattle.beldi_sqltable.proofs.Keeping.{kept_none}
use Rattle.beldi_sqltable.proofs.row_table.RowTable.new.Goals as goal

pub invariant_of-result : goal.invariant_of-result
invariant_of-result g c = record { kept = kept_none c.new.result (g.R.RowStore.rows c.args.store) c.requires (λ q. search rules) }
