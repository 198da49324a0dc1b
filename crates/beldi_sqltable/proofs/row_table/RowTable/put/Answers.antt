use Rattle.std.proofs.Common.{◌∙◌, ap}
use Rattle.beldi_row.specs.Table.{is_open}
use Rattle.beldi_sqltable.proofs.Keeping.{told_put, told_still}
use Rattle.beldi_sqltable.proofs.row_table.RowTable.put.Goals as goal

pub invariant_of-self-in-Ok : goal.invariant_of-self-in-Ok
invariant_of-self-in-Ok g c =
    let t = c.args.self.now in record {
      kept = told_put c.args.key.now c.args.row.now c.is_open-opens.result c.args.was_open c.args.is_new t.surveyed c.begins-noted.result c.begins.result t.count c.with_more-self.result (g.R.RowStore.rows t.store) (g.R.RowStore.rows c.write_row.new.store)
          t.open_keys c.note_if.new.keys c.forget_if.new.keys c.in-Ok.ensures.rows c.with_more-self.ensures (c.is_open-opens.ensures ∙ ap (λ k. is_open k c.args.row.now) c.kind.ensures) c.begins-noted.ensures c.begins.ensures c.requires.stood t.kept c.if-not-note_if.ensures c.forget_if.ensures;
    }

pub invariant_of-self-in-Err : goal.invariant_of-self-in-Err
invariant_of-self-in-Err g c =
    let t = c.args.self.now in record {
      kept = told_still c.args.key.now c.is_open-opens.result c.args.was_open c.args.is_new t.surveyed c.begins-noted.result c.begins-noted.result t.count (g.R.RowStore.rows t.store) (g.R.RowStore.rows c.write_row.new.store)
          t.open_keys c.note_if.new.keys c.forget_if-in-Err.new.keys c.in-Err.ensures.rows c.begins-noted.ensures c.begins-noted.ensures c.requires.stood t.kept c.if-not-note_if.ensures c.forget_if-in-Err.ensures;
    }
