use Rattle.beldi_executor.proofs.Names.{ap, at_key, set_made, sym, table_exact, table_total, ◌∙◌}
use Rattle.beldi_executor.proofs.ByTable.{first_put}
use Rattle.beldi_executor.proofs.Names.map
use Rattle.beldi_executor.proofs.tables.Tables.put_first.Goals as goal

pub returns-clause-ok : goal.returns-clause-ok
returns-clause-ok c = (
  sym (ap (at_key c.args.key) c.requires),
  first_put c.args.self.now (map.from_entries c.insert.new.self.entries) c.args.table c.args.key c.args.value c.put.new.self c.requires
      (c.in-Ok.ensures.ok.1 ∙ ap (λ m. map.insert m c.args.key c.args.value) c.new-cells.ensures)
      (set_made table_total table_exact c.self.inside.entries.entries c.insert.new.self.entries c.args.table c.put.new.self c.in-Ok-insert.ensures.updates.0 ∙ ap (λ m. map.insert m c.args.table c.put.new.self) c.self.view_is),
)
