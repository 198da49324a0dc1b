use Rattle.beldi_sqltable.proofs.Keeping.{told_gone}
use Rattle.beldi_sqltable.proofs.row_table.RowTable.forget.Goals as goal

pub invariant_of-self : goal.invariant_of-self
invariant_of-self g c =
    let t = c.args.self.now in record {
      kept = told_gone c.args.key t.surveyed t.count _ (g.R.RowStore.rows t.store) (g.R.RowStore.rows c.remove_row.new.store) t.open_keys c.forget_if.new.keys c.in-Ok.ensures.rows c.saturating_sub-self.ensures c.requires t.kept c.forget_if.ensures;
    }
