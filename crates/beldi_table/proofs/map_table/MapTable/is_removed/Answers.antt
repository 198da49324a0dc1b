use Rattle.std.proofs.Common.{option_map, Some, sym, ◌∙◌, ap}
use Rattle.std.specs.Option.{option_copied}
use Rattle.beldi_row.{specs.Act.removes, specs.KeyOrder.key_total, specs.KeyOrder.key_exact, proofs.TableRows.get_rows}
use Rattle.beldi_table.proofs.map_table.MapTable.is_removed.Goals as goal

pub returns-in-Some : goal.returns-in-Some
returns-in-Some c =
    let there = get_rows key_total key_exact c.args.self.now.rows.entries c.args.key.now ∙ sym c.get.ensures.value ∙ ap option_copied c.in-Some.is in
    ap (λ b. Some b) c.removes.ensures ∙ sym (ap (option_map (removes c.args.act.now c.args.now)) there)

pub returns-in-None : goal.returns-in-None
returns-in-None c =
    let there = get_rows key_total key_exact c.args.self.now.rows.entries c.args.key.now ∙ sym c.get.ensures.value ∙ ap option_copied c.in-None.is in
    sym (ap (option_map (removes c.args.act.now c.args.now)) there)
