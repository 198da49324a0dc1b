use Rattle.std.proofs.Common.{subst, sym, refl, ap, ◌∙◌, Ok}
use Rattle.beldi_row.specs.{Table.Tells, declared.act.Act.Act, declared.act.Change.Change}
use Rattle.beldi_sqltable.{specs.RowTable.ChangedOn, specs.RowTable.row_in, proofs.Carrying.told_look}
use Rattle.beldi_sqltable.proofs.row_table.RowTable.look.Goals as goal

pub returns-in-Ok-Some : goal.returns-in-Ok-Some
returns-in-Ok-Some g c =
    let t = c.args.self.now in
    let before = g.R.RowStore.rows t.store in
    let after = g.R.RowStore.rows c.read_row.new.store in
    let done = c.in-Ok-Some.ensures in record {
      rows = subst (λ r. Tells before after (ChangedOn Act.Look c.args.now c.args.key t.room r (Ok Change.Row))) (c.in-Ok-Some.field-0-is ∙ sym (ap row_in c.replace.ensures.after))
          (told_look Act.Look c.args.now c.args.key t.room before after c.in-Ok-Some.field-0 refl done.kept done.reads);
      blames = record { later = done.blames.later; counts = done.blames.counts };
      room = refl;
    }

pub returns-in-Ok-None : goal.returns-in-Ok-None
returns-in-Ok-None g c =
    let t = c.args.self.now in
    let before = g.R.RowStore.rows t.store in
    let after = g.R.RowStore.rows c.read_row.new.store in
    let done = c.in-Ok-None.ensures in record {
      rows = subst (λ r. Tells before after (ChangedOn Act.Look c.args.now c.args.key t.room r (Ok Change.Row))) (c.in-Ok-None.field-0-is ∙ sym (ap row_in c.replace-in-Ok-None.ensures.after))
          (told_look Act.Look c.args.now c.args.key t.room before after c.in-Ok-None.field-0 refl done.kept done.reads);
      blames = record { later = done.blames.later; counts = done.blames.counts };
      room = refl;
    }
