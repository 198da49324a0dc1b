use Rattle.std.proofs.Common.{arith, refl, sym, ◌∙◌}
use Rattle.beldi_sqltable.{specs.RowTable.row_in, proofs.Carrying.told_none, proofs.Carrying.told_added, proofs.Keeping.has_room}
use Rattle.beldi_sqltable.proofs.row_table.RowTable.add_row.Goals as goal

pub returns-in-None : goal.returns-in-None
returns-in-None g c =
    let t = c.args.self.now in record {
      rows = told_none c.args.act c.args.now c.args.key t.room (g.R.RowStore.rows t.store) (row_in t.found) c.missing-said.result c.requires (sym c.made.ensures ∙ c.in-None.is) (c.missing-said.ensures c.args.now);
      blames = record { later = omega arith; counts = refl };
      room = refl;
    }

pub returns-in-Ok : goal.returns-in-Ok
returns-in-Ok g c =
    let t = c.args.self.now in
    let before = g.R.RowStore.rows t.store in
    let done = c.in-Ok.ensures in record {
      rows = told_added c.args.act c.args.now c.args.key t.room before (g.R.RowStore.rows c.keep.new.self.store) (row_in c.keep.new.self.found) c.in-Some.row c.missing-said.result c.requires done.rows
          (sym c.made.ensures ∙ c.in-Some.is) (c.missing-said.ensures c.args.now) (has_room t.count t.room t.open_keys t.surveyed before t.kept (omega arith));
      blames = record { later = done.blames.later; counts = done.blames.counts };
      room = done.room;
    }
