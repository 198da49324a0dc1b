use Rattle.std.proofs.Common.{◌≡◌}
use Rattle.beldi_sqltable.proofs.survey.survey_rows.Given as goal

abbrev pub invariant-loop : goal.invariant-loop
invariant-loop g l = (g.R.RowStore.rows l.store ≡ g.R.RowStore.rows l.fn.store) × (l.faults ≡ l.fn.faults)
