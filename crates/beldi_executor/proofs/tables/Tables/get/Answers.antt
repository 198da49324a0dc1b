use Rattle.beldi_executor.proofs.Names.{ap, get_made, sym, table_total, ◌∙◌}
use Rattle.beldi_executor.proofs.Names.map
use Rattle.beldi_executor.proofs.tables.Tables.get.Goals as goal

pub returns : goal.returns
returns c = c.get.ensures.value ∙ sym (get_made table_total c.self.inside.entries.entries c.args.table) ∙ ap (λ m. map.get m c.args.table) c.self.view_is
