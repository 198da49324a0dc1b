use Rattle.beldi_sqltable.proofs.Opening.{told_to}
use Rattle.beldi_sqltable.proofs.row_table.RowTableTable.opens.Goals as goal

pub returns-in-Some-clause-told : goal.returns-in-Some-clause-told
returns-in-Some-clause-told g c =
    let t = c.args.self.now in
    told_to t.count t.open_keys t.surveyed (g.R.RowStore.rows t.store) c.args.after.now c.in-Some.key.now c.range.result c.next.new.self t.kept (c.range.ensures.in_range tt) c.in-Some.ensures.steps
