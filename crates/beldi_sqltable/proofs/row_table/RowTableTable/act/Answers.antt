use Rattle.std.proofs.Common.{refl, ap, ◌∙◌}
use Rattle.beldi_row.specs.Act.{change_reply}
use Rattle.beldi_sqltable.{specs.RowTable.row_in, proofs.Carrying.acted_told, proofs.Carrying.cause_of_ok}
use Rattle.beldi_sqltable.proofs.row_table.RowTableTable.act.Goals as goal

pub returns : goal.returns
returns g c =
    let old = c.args.self.now in
    let new = c.carry_out.new.self in
    let done = c.in_ok-change.ensures in (
      (
        refl,
        λ _. tt,
        record {
          rows = acted_told c.args.act c.args.now c.args.key old.room (g.R.RowStore.rows old.store) (g.R.RowStore.rows new.store) (row_in new.found) c.in_ok-change.change c.tell.result
              (c.tell.ensures ∙ ap (change_reply c.in_ok-change.change) c.found_row.ensures) done.rows;
          cause = cause_of_ok old.faults new.faults c.tell.result done.blames.later;
          room = done.room;
          calls = refl;
        },
      ),
      record { acts = tt },
    )
