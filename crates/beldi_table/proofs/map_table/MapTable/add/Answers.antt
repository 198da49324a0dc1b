use Rattle.std.specs.FinMap as map
use Rattle.std.proofs.Common.{arith, sym, ◌∙◌, refl}
use Rattle.beldi_row.{specs.KeyOrder.key_total, specs.KeyOrder.key_exact, proofs.TableRows.len_rows}
use Rattle.beldi_table.{specs.MapTable.rows_of, proofs.Changes.none_added, proofs.Changes.one_added, proofs.Changes.would_add}
use Rattle.beldi_table.proofs.map_table.MapTable.add.Goals as goal

pub returns-in-None-clause-rows : goal.returns-in-None-clause-rows
returns-in-None-clause-rows c =
    let m = map.from_entries c.args.self.now.rows.entries in
    none_added c.args.act c.args.now c.args.key c.args.self.now.room m m c.missing-said.result
    refl c.requires (sym c.made.ensures ∙ c.in-None.is) (c.missing-said.ensures c.args.now)

pub returns-then-live-self-clause-rows : goal.returns-then-live-self-clause-rows
returns-then-live-self-clause-rows c =
    let m = map.from_entries c.args.self.now.rows.entries in
    let long = len_rows key_total key_exact c.args.self.now.rows.entries c.len-live.ensures.ordered in (
      refl,
      record {
        more = would_add c.args.act c.args.now c.args.key m c.in-Some.row c.requires (sym c.made.ensures ∙ c.in-Some.is);
        filled = omega (arith, long);
        count = omega (arith, long);
        limit = refl;
      },
    )

pub returns-in-Ok-clause-rows : goal.returns-in-Ok-clause-rows
returns-in-Ok-clause-rows c =
    let es = c.args.self.now.rows.entries in
    let m = map.from_entries es in
    let long = len_rows key_total key_exact es c.len-live.ensures.ordered in
    one_added c.args.act c.args.now c.args.key c.args.self.now.room m (rows_of c.put.new.self) c.in-Some.row c.missing-said.result
    c.requires (sym c.made.ensures ∙ c.in-Some.is) (c.missing-said.ensures c.args.now)
    c.in-Ok.ensures.rows
    (omega (arith, long))
