use Rattle.std.proofs.Common.{arith, refl, sym, ◌∙◌}
use Rattle.beldi_sqltable.{specs.RowTable.row_in, proofs.Carrying.told_removed, proofs.Carrying.told_unremoved, proofs.Keeping.is_there}
use Rattle.beldi_sqltable.proofs.row_table.RowTable.drop_row.Goals as goal

pub forget-requires : goal.forget-requires
forget-requires g c = is_there c.args.key c.args.row (g.R.RowStore.rows c.args.self.now.store) c.requires.here

pub returns-then-not-is_removed : goal.returns-then-not-is_removed
returns-then-not-is_removed g c =
    let t = c.args.self.now in record {
      rows = told_unremoved c.args.act c.args.now c.args.key t.room (g.R.RowStore.rows t.store) (row_in t.found) c.args.row c.requires.may (sym c.if-not-is_removed.true ∙ c.removes-is_removed.ensures) c.requires.here;
      blames = record { later = omega arith; counts = refl };
      room = refl;
    }

pub returns-in-Ok : goal.returns-in-Ok
returns-in-Ok g c =
    let t = c.args.self.now in
    let done = c.in-Ok.ensures in record {
      rows = told_removed c.args.act c.args.now c.args.key t.room (g.R.RowStore.rows t.store) (g.R.RowStore.rows c.forget.new.self.store) (row_in c.forget.new.self.found) c.args.row c.requires.may (sym c.if-not-is_removed.false ∙ c.removes-is_removed.ensures) c.requires.here done.rows;
      blames = record { later = done.blames.later; counts = done.blames.counts };
      room = done.room;
    }
