use Rattle.std.proofs.Common.{sym, ◌∙◌, ap}
use Rattle.beldi_row.{specs.Act.change_reply, specs.KeyOrder.key_total, specs.KeyOrder.key_exact, proofs.TableRows.get_rows}
use Rattle.beldi_table.proofs.map_table.MapTable.row_told.Goals as goal

pub returns-then-is_of_row : goal.returns-then-is_of_row
returns-then-is_of_row c = ap (change_reply c.args.change) (c.get.ensures.value ∙ sym (get_rows key_total key_exact c.args.self.now.rows.entries c.args.key.now))
