use Rattle.std.specs.Prelude.{min, ◌-◌, ◌^◌}
use Rattle.std.proofs.Common.{ap, sym, ◌∙◌}
use Rattle.beldi_row.{specs.KeyOrder.key_total, specs.KeyOrder.key_exact, proofs.TableRows.len_rows}
use Rattle.beldi_table.proofs.map_table.MapTableTable.len.Goals as goal

pub returns : goal.returns
returns c = c.counted.ensures ∙ ap (λ n. min n (2 ^ 32 - 1)) (c.len.ensures.len ∙ sym (len_rows key_total key_exact c.args.self.now.rows.entries c.len.ensures.ordered))
