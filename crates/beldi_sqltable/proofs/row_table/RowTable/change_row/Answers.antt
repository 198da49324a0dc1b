use Rattle.std.proofs.Common.{subst, sym, ap, ◌∙◌, not, ◌&&◌, Ok}
use Rattle.beldi_row.specs.Table.{Tells, is_open}
use Rattle.beldi_sqltable.{specs.RowTable.ChangedOn, specs.RowTable.row_in, specs.StoreCounts.leaves, proofs.Leaving.told_settled, proofs.Keeping.stood_there}
use Rattle.beldi_sqltable.proofs.row_table.RowTable.change_row.Goals as goal

pub settle-requires : goal.settle-requires
settle-requires g c =
    stood_there c.args.key c.args.row c.is_open-was_open.result (g.R.RowStore.rows c.args.self.now.store) (c.is_open-was_open.ensures ∙ ap (λ k. is_open k c.args.row) c.kind.ensures) c.requires.here

pub returns-in-Ok : goal.returns-in-Ok
returns-in-Ok g c =
    let t = c.args.self.now in
    let before = g.R.RowStore.rows t.store in
    let after = g.R.RowStore.rows c.settle.new.self.store in
    let done = c.in-Ok.ensures in record {
      rows = subst (λ f. Tells before after (ChangedOn c.args.act c.args.now c.args.key t.room (row_in f) (Ok c.apply-change.result))) (sym done.found)
          (told_settled c.args.act c.args.now c.args.key t.room before after c.args.row c.apply-change.new.row c.apply-change.result c.leaves-left.result c.requires.keeps c.requires.here done.rows (c.leaves-left.ensures ∙ ap (λ b. not b && leaves c.apply-change.result) c.links-links.ensures) c.apply-change.ensures);
      blames = record { later = done.blames.later; counts = done.blames.counts };
      room = done.room;
    }
